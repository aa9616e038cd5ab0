-- `questions::tick_questions` meets its contract: a no, or a yes. Assumes nothing.
use native.Mathlib.Omega.{arith}
use Rattle.std.proofs.lemmas.Bool.Decides.{nat_tests}
use Rattle.rules.specs.Areas.{asked}
use Rattle.questions.proofs.tick_questions.Goals as goal

pub returns-then-waiting-le-ALL_PORTS : goal.returns-then-waiting-le-ALL_PORTS
unfolding asked
returns-then-waiting-le-ALL_PORTS c = grind (arith, nat_tests)

pub returns-else-arriving-le-ALL_PORTS : goal.returns-else-arriving-le-ALL_PORTS
unfolding asked
returns-else-arriving-le-ALL_PORTS c = grind (arith, nat_tests)
