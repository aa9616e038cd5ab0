-- `queue::insert` meets its contract: room is made in a queue that is not full, and the slot and the size stored. Assumes nothing.
use Prim.Native.Nat.{◌+◌}
use mathlib.Core.Path.{ap, ◌∙◌}
use native.Mathlib.Omega.{arith}
use borrow.Author.Tests.{lt-ltb, le-ltb}
use Rattle.queues.specs.Area.{size, resized, inserted}
use Rattle.queue.proofs.insert.Goals as goal

pub returns-then-n-ge-SLOTS : goal.returns-then-n-ge-SLOTS
unfolding inserted
returns-then-n-ge-SLOTS c =
    rw (le-ltb (size c.args.queue.now) 256 (omega (arith, c.size-n.ensures, c.if-n-ge-SLOTS.true)))

pub returns : goal.returns
unfolding inserted
returns c =
    rw (lt-ltb (size c.args.queue.now) 256 (omega (arith, c.size-n.ensures, c.if-n-ge-SLOTS.false)), ← c.size-n.ensures) (c.resize.ensures ∙ ap (resized (c.size-n.result + 1)) (c.put_slot.ensures ∙ c.make_room-j.ensures.1))
