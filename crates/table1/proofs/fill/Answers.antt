-- `table1::fill` meets its contract. The loop's invariant: the slots below `i` are in the queues. Assumes nothing.
use native.Mathlib.Numerals.{add-one}
use mathlib.Core.Path.{refl, ap, ◌∙◌}
use Rattle.rules.specs.Board.{board8}
use Rattle.queues.specs.Engine.{filled, entered}
use Rattle.table1.proofs.fill.Goals as goal

pub loop-i-init : goal.loop-i-init
unfolding filled
loop-i-init c = refl

pub loop-i-preserved : goal.loop-i-preserved
unfolding filled
loop-i-preserved c = rw (add-one c.loop-i.i) (c.enter.ensures ∙ ap (entered board8 c.args.state.now c.loop-i.i) c.loop-i.invariant)
