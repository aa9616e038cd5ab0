-- `queue::undue` meets its contract. The loop's invariant: of the last `j` entries as many are left as of all at the start. Assumes nothing.
use mathlib.Core.Path.{◌≡◌}
use Rattle.rules.specs.Board.{board8}
use Rattle.rules.specs.Tick.{is_due}
use Rattle.queues.specs.Area.{size, rest}
use Rattle.queue.proofs.undue.Given as goal

abbrev pub invariant-loop-j : goal.invariant-loop-j
invariant-loop-j l = rest (is_due board8 l.state) l.queue l.j ≡ rest (is_due board8 l.state) l.queue (size l.queue)
