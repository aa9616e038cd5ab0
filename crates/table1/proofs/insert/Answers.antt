-- `table1::insert` meets its contract: the queue's part is changed as `queue::insert` changes it. Assumes nothing.
use Rattle.table1.proofs.QueueParts.{part-changed}
use Rattle.rules.specs.Board.{board8}
use Rattle.queues.specs.Table1.{before}
use Rattle.queues.specs.Area.{inserted}
use Rattle.table1.proofs.insert.Goals as goal

pub returns : goal.returns
returns c = part-changed _ _ _ _ c.span.ensures.start c.span.ensures.end.0 c.args.queues.now c.told-queues c.span.ensures.end.1 (inserted (before board8 c.args.state.now) c.args.s.0) _ c.insert.ensures c.insert.auto.queue
