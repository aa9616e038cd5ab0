-- `settle::settle` meets its contract. The loop's invariant: state and counts are those of the pass below `i`; the empty slots past `end` change neither. Assumes nothing.
use Rattle.passes.specs.Settling.{settled, missed}
use Rattle.passes.proofs.EmptySlots.{to_end}
use Rattle.passes.proofs.MaskPorts.{each-as}
use Rattle.passes.proofs.Settling.{settled-room, settled-keeps-mask, settled-turn, settled-empty, missed-turn, missed-few, missed-empty}
use Rattle.rules.specs.Board.{board8}
use Rattle.rules.specs.Order.{count}
use Rattle.rules.proofs.Board8Laws.{lawful8}
use lib.ListN.{get_or-replicate}
use native.Mathlib.Numerals.{add-one}
use mathlib.Core.Path.{◌≡◌, refl, ap, ◌∙◌}
use Prim.Native.Nat.{ℕ}
use native.Mathlib.Omega.{arith}
use Rattle.settle.proofs.settle.Goals as goal

pub loop-i-init : goal.loop-i-init
unfolding settled count
loop-i-init c = (refl, record { five = refl; each = λ p h. get_or-replicate 5 p 0 0 h })

pub settle_slot-requires-clause-counts : goal.settle_slot-requires-clause-counts
settle_slot-requires-clause-counts c = missed-few board8 lawful8 c.args.state.now c.args.sent.now c.loop-i.i (omega arith) _ c.loop-i.invariant.1

pub settle_slot-requires-clause-state : goal.settle_slot-requires-clause-state
settle_slot-requires-clause-state c = rw c.loop-i.invariant.0 (settled-room board8 lawful8 c.args.state.now c.args.sent.now c.told-state c.requires.room c.loop-i.i (omega arith), rw (settled-keeps-mask board8 lawful8 c.args.state.now c.args.sent.now c.told-state c.requires.room c.loop-i.i (omega arith)) (c.requires.sent c.loop-i.i))

pub loop-i-preserved : goal.loop-i-preserved
loop-i-preserved c = (
  rw (add-one c.loop-i.i) (settled-turn board8 lawful8 c.args.state.now c.args.sent.now c.told-state c.requires.room c.loop-i.i (omega arith) _ refl _ c.get.ensures _ _ c.loop-i.invariant.0 c.settle_slot.ensures.after),
  rw (add-one c.loop-i.i) (missed-turn board8 lawful8 c.args.state.now c.args.sent.now c.told-state c.requires.room c.loop-i.i (omega arith) _ refl _ c.get.ensures _ _ _ c.loop-i.invariant.0 c.loop-i.invariant.1 c.settle_slot.ensures.counts),
)

pub returns-clause-after : goal.returns-clause-after
returns-clause-after c = let e : c.loop-i.i ≡ c.args.end = omega arith in
    c.loop-i.invariant.0 ∙ ap (settled board8 c.args.state.now c.args.sent.now) e ∙ to_end board8 c.args.state.now (settled board8 c.args.state.now c.args.sent.now) (settled-empty board8 lawful8 c.args.state.now c.args.sent.now c.told-state c.requires.room) _ c.requires.slots

pub returns-clause-counts : goal.returns-clause-counts
returns-clause-counts c = let e : c.loop-i.i ≡ c.args.end = omega arith in
    each-as c.loop-i.invariant.1 (λ p h. rw e (to_end board8 c.args.state.now (λ (i : ℕ). missed board8 c.args.state.now c.args.sent.now i p) (missed-empty board8 lawful8 c.args.state.now c.args.sent.now p h) _ c.requires.slots))
