-- `table1::part` meets its contract: the part of the area is the queue. Assumes nothing.
use Rattle.table1.proofs.QueueParts.{part-queue}
use Rattle.table1.proofs.part.Goals as goal

pub returns : goal.returns
returns c = part-queue _ _ _ _ c.span.ensures.start c.span.ensures.end.0 c.args.queues.now
