-- `fresh::put_slots` meets its contract. The loop's invariant: the slots below `i` are copied. Assumes nothing.
use mathlib.Core.Path.{◌≡◌}
use Rattle.fresh.specs.Slots.{emptied}
use Rattle.fresh.proofs.put_slots.Given as goal

abbrev pub invariant-loop-i : goal.invariant-loop-i
invariant-loop-i l = l.state ≡ emptied l.i l.initial.state
