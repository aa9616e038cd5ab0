-- `Router::fresh` meets its contract. The loop's invariant: the bytes have the stack's entries below `i`. The measure is what is left of 256.
-- With all of them the bytes are the fresh state, by computation. Assumes nothing.
use Prim.Native.Nat.{◌≤◌, ◌-◌}
use mathlib.Core.Path.{◌≡◌}
use lib.ListN.{length}
use Rattle.layout.proofs.FreshState.{stacked}
use Rattle.layout.proofs.Router.fresh.Given as goal

abbrev pub invariant-loop-i : goal.invariant-loop-i
invariant-loop-i l = (l.i ≤ 256) × (length l.bytes ≡ length l.initial.bytes) × (l.bytes ≡ stacked l.i l.initial.bytes)

abbrev pub decreases-loop-i : goal.decreases-loop-i
decreases-loop-i l = 256 - l.i
