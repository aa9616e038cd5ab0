-- `fitting::fitting` meets its contract. The loop's invariant: the ports below `index` fit, and `left` has the counts of the others. Assumes nothing.
use Prim.Native.Nat.{◌/◌, ◌^◌}
use mathlib.Core.Path.{◌≡◌}
use mathlib.Core.Bool.{true}
use Rattle.rules.specs.Order.{all}
use Rattle.rules.specs.Board.{board8}
use Rattle.queues.specs.Engine as Engine
use Rattle.fitting.specs.Counts.{packed_counts, wait_for}
use Rattle.fitting.proofs.fitting.Given as goal

abbrev pub invariant-loop-index : goal.invariant-loop-index
invariant-loop-index l = record {
  counts : l.left ≡ packed_counts (wait_for l.state 256) / 4096 ^ l.index;
  fit : all l.index (Engine.port_fits board8 l.state l.queues) ≡ true;
}
