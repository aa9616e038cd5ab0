-- `table1::withdraw_port` meets its contract: the part of the queue on time is cut to what `queue::undue` says. Assumes nothing.
use Prim.Native.Nat.{ℕ}
use mathlib.Core.Bool.{false}
use mathlib.Core.Path.{ap, ◌∙◌}
use Rattle.queues.specs.Area.{resized, queue, put_queue}
use Rattle.table1.proofs.QueueParts.{part-changed}
use Rattle.table1.proofs.withdraw_port.Goals as goal

pub returns : goal.returns
returns c =
    let s = c.span.ensures in
    let q = c.args.queues.now in
    part-changed _ _ _ _ s.start s.end.0 q c.told-queues s.end.1 (resized c.undue-n.result) _ c.resize.ensures c.resize.auto.queue
    ∙ ap (λ (n : ℕ). put_queue c.args.port.index false (resized n (queue q c.args.port.index false)) q) (rw c.part.ensures at c.undue-n.ensures)
