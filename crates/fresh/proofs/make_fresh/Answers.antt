-- `fresh::make_fresh` meets its contract. A refusal alters nothing; past it the bytes make the fresh state, whose slots are empty already, and the memory is
-- cleared. Assumes nothing.
use mathlib.Core.Path.{◌≡◌, ◌∙◌}
use mathlib.Core.Bool.{true, false}
use native.Mathlib.Omega.{arith}
use borrow.Author.Rules.{rules}
use Rattle.std.proofs.lemmas.Bool.Decides.{nat_tests}
use Rattle.rules.specs.Board.{board8}
use Rattle.rules.specs.Questions.{full}
use Rattle.passes.specs.Stores.{store}
use Rattle.passes.proofs.MakeFresh.{refused, accepted}
use Rattle.fresh.proofs.EmptySlots.{emptied-fresh}
use Rattle.fresh.proofs.make_fresh.Goals as goal

pub returns-then-state-ne-STATE : goal.returns-then-state-ne-STATE
unfolding full
returns-then-state-ne-STATE c =
    let e : full board8 (store c.args.state.now c.args.memory.now) ≡ false = grind (arith, nat_tests) in
    refused board8 _ _ e

pub returns : goal.returns
unfolding full
returns c =
    let e : full board8 (store c.args.state.now c.args.memory.now) ≡ true = grind (arith, nat_tests) in
    accepted board8 _ _ e c.if-memory-ne-MEMORY.false (c.put_slots.ensures ∙ rw (c.copy_from_slice.ensures.after, c.fresh-router.ensures.0) (emptied-fresh c.args.clock)) (search rules)
