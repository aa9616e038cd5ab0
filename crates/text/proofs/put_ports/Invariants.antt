-- `put_ports` meets its contract. The loop's invariant: the fields of the ports passed are appended, four characters each. Assumes nothing.
use Rattle.std.proofs.Common.{◌≡◌, ◌++◌, ◌+◌, ◌*◌}
use Rattle.arrayvec.specs.ArrayVec.{array_vec_len}
use Rattle.rules.specs.Areas.{ports_below}
use Rattle.text.specs.Lines.{port_field}
use Rattle.text.proofs.put_ports.Given as goal

abbrev pub invariant-loop-index : goal.invariant-loop-index
invariant-loop-index g l = record {
  appended : l.lines.items ≡ l.initial.lines.items ++ ports_below (port_field l.outgoing l.answers) l.index;
  len : array_vec_len l.lines ≡ array_vec_len l.initial.lines + 4 * l.index;
}
