-- `fresh::put_slots` meets its contract. The loop's invariant: the slots below `i` are copied. Assumes nothing.
use native.Mathlib.Omega.{arith}
use mathlib.Core.Path.{refl, ◌∙◌}
use mathlib.Core.List.{[]}
use native.Mathlib.Numerals.{add-one}
use lib.ListN.{get_or-replicate}
use Rattle.layout.specs.Slots.{empty}
use Rattle.fresh.specs.Slots.{emptied}
use Rattle.fresh.proofs.put_slots.Goals as goal

pub loop-i-init : goal.loop-i-init
unfolding emptied
loop-i-init c = refl

pub loop-i-preserved : goal.loop-i-preserved
unfolding emptied
loop-i-preserved c = rw (add-one c.loop-i.i, ← c.loop-i.invariant) (c.copy_in.ensures ∙ rw (c.place-at.ensures, c.requires.1, get_or-replicate 256 c.loop-i.i empty (record { 0 = [] }) (omega arith)))
