-- `settle::settle` meets its contract. The loop's invariant: state and counts are those of the pass below `i`; the empty slots past `end` change neither. Assumes nothing.
use Rattle.passes.specs.Ports.{EachPort}
use Rattle.passes.specs.Settling.{settled, missed}
use Rattle.rules.specs.Board.{board8}
use mathlib.Core.Path.{◌≡◌}
use Rattle.settle.proofs.settle.Given as goal

abbrev pub invariant-loop-i : goal.invariant-loop-i
invariant-loop-i l = (l.state ≡ settled board8 l.initial.state l.sent l.i) × EachPort (missed board8 l.initial.state l.sent l.i) l.counts
