-- `withdrawn_sum` meets its contract. The loop's invariant: the sum is that of the ports passed, each of 16 bits. Assumes nothing.
use Rattle.std.proofs.Common.{◌≡◌, ◌*◌, ◌≤◌}
use Rattle.text.specs.Lines.{withdrawn_below}
use Rattle.text.proofs.withdrawn_sum.Given as goal

abbrev pub invariant-loop-index : goal.invariant-loop-index
invariant-loop-index l = (l.sum ≤ 65535 * l.index) × (l.sum ≡ withdrawn_below l.answers l.index)
