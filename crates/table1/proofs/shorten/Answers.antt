-- `table1::shorten` meets its contract: the queue's part is changed as `queue::shorten` changes it. Assumes nothing.
use Prim.Native.Nat.{ℕ, ◌-◌}
use mathlib.Core.List.{List}
use Rattle.queues.specs.Area.{size, resized}
use Rattle.queues.specs.Engine.{shortened}
use Rattle.table1.proofs.QueueParts.{part-changed}
use Rattle.table1.proofs.shorten.Goals as goal

pub returns : goal.returns
unfolding shortened
returns c =
    part-changed _ _ _ _ c.span.ensures.start c.span.ensures.end.0 c.args.queues.now c.told-queues c.span.ensures.end.1 (λ (x : List ℕ). resized (size x - 1) x) _ c.shorten.ensures c.shorten.auto.queue
