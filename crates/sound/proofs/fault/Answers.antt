-- `sound::fault` meets its contract: the settings are asked about first, and then the rest decides. Assumes nothing.
use native.Mathlib.Omega.{arith}
use Rattle.std.proofs.lemmas.Bool.Decides.{nat_tests}
use Rattle.rules.specs.Areas.{asked}
use Rattle.rules.specs.Questions.{fault}
use Rattle.sound.proofs.fault.Goals as goal

pub returns-then-not-settings_sound-clause-number : goal.returns-then-not-settings_sound-clause-number
unfolding fault asked
returns-then-not-settings_sound-clause-number c = grind (arith, nat_tests)

pub returns-clause-number : goal.returns-clause-number
unfolding fault asked
returns-clause-number c = grind (arith, nat_tests)
