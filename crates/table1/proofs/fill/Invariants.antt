-- `table1::fill` meets its contract. The loop's invariant: the slots below `i` are in the queues. Assumes nothing.
use mathlib.Core.Path.{◌≡◌}
use Rattle.rules.specs.Board.{board8}
use Rattle.queues.specs.Engine.{filled}
use Rattle.table1.proofs.fill.Given as goal

abbrev pub invariant-loop-i : goal.invariant-loop-i
invariant-loop-i l = l.queues ≡ filled board8 l.state l.i
