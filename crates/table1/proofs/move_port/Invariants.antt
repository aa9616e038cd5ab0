-- `table1::move_port` meets its contract. The loop's invariant: what the last `j` of the early queue come to is what all of them come to at the start. Assumes nothing.
use mathlib.Core.Path.{◌≡◌}
use Rattle.rules.specs.Board.{board8}
use Rattle.queues.specs.Engine.{moved_over, move_over}
use Rattle.table1.proofs.move_port.Given as goal

abbrev pub invariant-loop-j : goal.invariant-loop-j
invariant-loop-j l = moved_over board8 l.state l.port.index l.j l.queues ≡ move_over board8 l.state l.port.index l.initial.queues
