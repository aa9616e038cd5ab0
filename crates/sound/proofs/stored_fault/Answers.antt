-- `sound::stored_fault` meets its contract: the stack is the first n entries, and its tests are made in order; a sound one has room. Assumes nothing.
use mathlib.Core.Path.{sym, ◌∙◌}
use native.Mathlib.Omega.{arith}
use Rattle.std.proofs.lemmas.Bool.Decides.{nat_tests}
use Rattle.rules.specs.Areas.{asked}
use Rattle.rules.specs.Questions.{stack, stack_sound}
use Rattle.rules.specs.Order.{all}
use Rattle.rules.specs.Board.{board8}
use Rattle.rules.specs.Questions.{listed}
use Rattle.rules.proofs.Booleans.{asked-passed}
use Rattle.rules.proofs.Board8Laws.{lawful8}
use Rattle.passes.proofs.StackMarks.{marked-has-room}
use Rattle.sound.proofs.Accepted.{on_accepted}
use Rattle.sound.proofs.stored_fault.Goals as goal

pub returns-then-n-gt256-clause-number : goal.returns-then-n-gt256-clause-number
unfolding asked stack_sound
returns-then-n-gt256-clause-number c = grind (arith, nat_tests)

pub returns-then-not-mark-clause-number : goal.returns-then-not-mark-clause-number
unfolding asked stack_sound stack
returns-then-not-mark-clause-number c = grind (arith, nat_tests)

pub slots_fault-requires : goal.slots_fault-requires
unfolding stack
slots_fault-requires c = grind (arith, nat_tests)

pub returns-clause-number : goal.returns-clause-number
unfolding asked stack_sound stack
returns-clause-number c = grind (arith, nat_tests)

pub returns-clause-room : goal.returns-clause-room
returns-clause-room c = on_accepted c.slots_fault.result (λ accepted. marked-has-room board8 lawful8 c.args.state.now _ _ c.free_count-n.ensures (omega arith) (rw c.if-not-mark.false at c.mark.ensures)
    (asked-passed (all 256 (listed board8 c.args.state.now)) 13 _ (sym c.slots_fault.ensures ∙ accepted)).0)
