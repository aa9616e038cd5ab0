-- `tick::put_counts` meets its contract. The loop's invariant: the ports below `port` have filled their bytes. Assumes nothing.
use mathlib.Core.Path.{refl, ◌∙◌}
use Rattle.rules.specs.Areas.{ports_below}
use Rattle.tick.proofs.Laid.{counts-next}
use Rattle.tick.proofs.put_counts.Goals as goal

pub loop-port-init : goal.loop-port-init
unfolding ports_below
loop-port-init c = refl

pub loop-port-preserved : goal.loop-port-preserved
loop-port-preserved c = c.put_pair.ensures ∙ rw c.loop-port.invariant (counts-next c.args.counts c.args.part.now c.loop-port.port c.requires c.loop-port-test.true)
