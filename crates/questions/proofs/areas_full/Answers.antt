-- `questions::areas_full` meets its contract: the tests are those of the definition. Assumes nothing.
use native.Mathlib.Omega.{arith}
use Rattle.std.proofs.lemmas.Bool.Decides.{nat_tests}
use Rattle.rules.specs.Areas.{areas_full}
use Rattle.questions.proofs.areas_full.Goals as goal

pub returns-then-outgoing-eq-OUTGOING : goal.returns-then-outgoing-eq-OUTGOING
unfolding areas_full
returns-then-outgoing-eq-OUTGOING c = grind (arith, nat_tests)

pub returns-else-outgoing-eq-OUTGOING : goal.returns-else-outgoing-eq-OUTGOING
unfolding areas_full
returns-else-outgoing-eq-OUTGOING c = grind (arith, nat_tests)
