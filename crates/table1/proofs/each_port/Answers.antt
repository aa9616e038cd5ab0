-- `table1::each_port` meets its contract. The loop's invariant: the ports below `index` are done. Assumes nothing.
use mathlib.Core.Path.{refl, ap, ◌∙◌}
use native.Mathlib.Numerals.{add-one}
use Rattle.queues.specs.Engine.{each_port}
use Rattle.table1.proofs.each_port.Goals as goal

pub loop-index-init : goal.loop-index-init
unfolding each_port
loop-index-init g c f h = refl

pub loop-index-preserved : goal.loop-index-preserved
unfolding each_port
loop-index-preserved g c f h =
    rw (add-one c.loop-index.index) (h _ _ _ c.step.ensures ∙ ap (f c.loop-index.index) (c.loop-index.invariant f h))
