-- `arrive::arrive` meets its contract. The loop's invariant: the store and the answers are those of the ports below p. Assumes nothing.
use mathlib.Core.Path.{◌∙◌}
use Rattle.passes.proofs.Arrivals.{arrived-none, arrived-next}
use Rattle.passes.proofs.Packets.{part-packet}
use Rattle.arrive.proofs.arrive.Goals as goal

pub loop-p-init : goal.loop-p-init
loop-p-init c = arrived-none _ _ _ _

pub loop-p-preserved : goal.loop-p-preserved
loop-p-preserved c = arrived-next _ _ _ _ c.loop-p.invariant c.loop-p-test.true ((rw c.unwrap-packet.ensures at c.as_array.ensures.cases).same ∙ part-packet c.args.arrivals.now c.loop-p.p) (c.number.ensures ∙ c.admit.ensures.number) c.admit.ensures.after c.admit.ensures.room
