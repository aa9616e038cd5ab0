-- `sound::mark` meets its contract. The loop's invariant: `Marked` of the entries passed. Assumes nothing.
use Rattle.passes.proofs.StackMarks.{marked-none, marked_next}
use Rattle.sound.proofs.mark.Goals as goal

pub loop-i-init : goal.loop-i-init
loop-i-init c = marked-none _ _ _ c.requires.1

pub loop-i-preserved : goal.loop-i-preserved
loop-i-preserved c = marked_next _ _ c.loop-i.i c.get-a.result c.get-a.ensures c.get-a.type_inv c.loop-i.seen c.loop-i.distinct c.loop-i.invariant
