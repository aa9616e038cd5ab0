-- `sound::settings_sound` meets its contract: the tests are those of the definition. Assumes nothing.
use native.Mathlib.Omega.{arith}
use Rattle.std.proofs.lemmas.Bool.Decides.{nat_tests}
use Rattle.rules.specs.Areas.{half}
use Rattle.rules.specs.Questions.{settings_sound}
use Rattle.sound.proofs.settings_sound.Goals as goal

pub returns-then-get-le-ALL_PORTS : goal.returns-then-get-le-ALL_PORTS
unfolding settings_sound half
returns-then-get-le-ALL_PORTS c = grind (arith, nat_tests)

pub returns-else-get-le-ALL_PORTS : goal.returns-else-get-le-ALL_PORTS
unfolding settings_sound half
returns-else-get-le-ALL_PORTS c = grind (arith, nat_tests)
