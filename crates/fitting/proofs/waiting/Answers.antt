-- `fitting::waiting` meets its contract. The loop's invariant: `sum` has the counts of the slots below `i`. The table has the numbers of all masks, as it computes. Assumes nothing.
use Prim.Native.Nat.{◌+◌}
use mathlib.Core.Path.{◌≡◌, refl}
use native.Mathlib.Omega.{arith}
use Rattle.rules.specs.Order.{count, counted}
use Rattle.rules.specs.Areas.{has}
use Rattle.fitting.specs.Counts.{packed_counts, spread, spreads, wait_for}
use Rattle.fitting.proofs.PackedCounts.{packed-next, packed_lt}
use Rattle.fitting.proofs.waiting.Goals as goal

pub loop-i-init : goal.loop-i-init
unfolding packed_counts count
loop-i-init c = refl

pub spread-sum-requires : goal.spread-sum-requires
unfolding packed_counts spreads spread counted has
spread-sum-requires c = refl

pub overflow_add-sum : goal.overflow_add-sum
overflow_add-sum c =
    let e : c.loop-i.sum + c.spread-sum.result ≡ packed_counts (wait_for c.args.state.now (c.loop-i.i + 1)) =
    packed-next _ c.loop-i.i _ _ c.loop-i.invariant (rw (← c.get-mask.ensures) c.spread-sum.ensures) in
    omega (arith, e, packed_lt c.args.state.now (c.loop-i.i + 1) (omega arith))

pub loop-i-preserved : goal.loop-i-preserved
loop-i-preserved c = packed-next _ c.loop-i.i _ _ c.loop-i.invariant (rw (← c.get-mask.ensures) c.spread-sum.ensures)
