-- `queue::make_room` meets its contract. The loop's invariant: what the slot with this rank makes of the last `j` entries is what it makes of all `n` at the start. Assumes nothing.
use Prim.Native.Nat.{ℕ, ◌<◌}
use mathlib.Core.Path.{◌≡◌}
use Rattle.rules.specs.Board.{board8}
use Rattle.passes.specs.Ranks.{slot_rank}
use Rattle.queues.specs.Table1.{before}
use Rattle.queues.specs.Area.{placed}
use Rattle.queue.proofs.make_room.Given as goal

abbrev pub invariant-loop-j : goal.invariant-loop-j
invariant-loop-j l =
    (i : ℕ) → i < 256 → l.rank ≡ slot_rank board8 l.state i → placed (before board8 l.state) i l.j l.queue ≡ placed (before board8 l.state) i l.n l.initial.queue
