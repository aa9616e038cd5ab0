-- `layout::change_ports` meets its contract. The loop's invariant: the ports that aren't left have their cells changed. The measure is the mask of the ports left. Assumes nothing.
use Rattle.layout.proofs.LowestPort.{Changed}
use Rattle.layout.proofs.change_ports.Given as goal

abbrev pub invariant-loop-left : goal.invariant-loop-left
invariant-loop-left g l = Changed (goal.F-post g l.f) l.mask l.left l.initial.cells l.cells

abbrev pub decreases-loop-left : goal.decreases-loop-left
decreases-loop-left g l = l.left
