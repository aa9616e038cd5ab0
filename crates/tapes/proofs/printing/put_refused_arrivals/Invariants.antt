-- `put_refused_arrivals` meets its contract. The loop's invariant: the lines of the ports passed are appended, at most 26 characters each. Assumes nothing.
use Rattle.std.proofs.Common.{◌≡◌, ◌++◌, ◌+◌, ◌*◌, ◌≤◌}
use Rattle.arrayvec.specs.ArrayVec.{array_vec_len}
use Rattle.rules.specs.Areas.{ports_below}
use Rattle.tapes.specs.Printed.{refused_arrival}
use Rattle.tapes.proofs.printing.put_refused_arrivals.Given as goal

abbrev pub invariant-loop-index : goal.invariant-loop-index
invariant-loop-index g l = record {
  appended : l.lines.items ≡ l.initial.lines.items ++ ports_below (refused_arrival l.records l.answers) l.index;
  len : array_vec_len l.lines ≤ array_vec_len l.initial.lines + 26 * l.index;
}
