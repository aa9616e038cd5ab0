-- `sound::connections_sound` meets its contract. The loop's invariant: the connections passed are sound. Assumes nothing.
use mathlib.Core.Path.{refl, sym, ◌∙◌}
use native.Mathlib.Numerals.{add-one}
use Rattle.rules.specs.Order.{all}
use Rattle.passes.proofs.Ranges.{fails-at}
use Rattle.sound.proofs.connections_sound.Goals as goal

pub loop-c-init : goal.loop-c-init
unfolding all
loop-c-init c = refl

pub returns-then-not-connection_sound : goal.returns-then-not-connection_sound
returns-then-not-connection_sound c = fails-at 256 _ c.loop-c.c c.loop-c-test.true (sym c.connection_sound.ensures ∙ c.if-not-connection_sound.true)

pub loop-c-preserved : goal.loop-c-preserved
unfolding all
loop-c-preserved c = rw (add-one c.loop-c.c, c.loop-c.invariant) (sym c.connection_sound.ensures ∙ c.if-not-connection_sound.false)
