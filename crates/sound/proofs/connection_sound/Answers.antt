-- `sound::connection_sound` meets its contract: the tests are those of the definition. Assumes nothing.
use native.Mathlib.Omega.{arith}
use Rattle.std.proofs.lemmas.Bool.Decides.{nat_tests}
use Rattle.rules.specs.Areas.{half}
use Rattle.sound.proofs.connection_sound.Goals as goal

pub returns-then-get-lt-HALF : goal.returns-then-get-lt-HALF
unfolding half
returns-then-get-lt-HALF c = grind (arith, nat_tests)

pub returns-else-get-lt-HALF : goal.returns-else-get-lt-HALF
unfolding half
returns-else-get-lt-HALF c = grind (arith, nat_tests)
