-- `fitting::waiting` meets its contract. The loop's invariant: `sum` has the counts of the slots below `i`. Assumes nothing.
use mathlib.Core.Path.{◌≡◌}
use Rattle.fitting.specs.Counts.{packed_counts, wait_for}
use Rattle.fitting.proofs.waiting.Given as goal

abbrev pub invariant-loop-i : goal.invariant-loop-i
invariant-loop-i l = l.sum ≡ packed_counts (wait_for l.state l.i)
