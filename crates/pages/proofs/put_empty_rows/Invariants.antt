-- `put_empty_rows` meets its contract. The loop's invariant: so many lines are appended as turns have passed, 73 characters each. Assumes nothing.
use Rattle.std.proofs.Common.{◌≡◌, ◌++◌, ◌+◌, ◌*◌, replicate}
use Rattle.arrayvec.specs.ArrayVec.{array_vec_len}
use Rattle.pages.specs.Pages.{empty_row, ended}
use Rattle.pages.proofs.put_empty_rows.Given as goal

abbrev pub invariant-loop : goal.invariant-loop
invariant-loop g l = record {
  appended : l.lines.items ≡ l.initial.lines.items ++ ended (replicate l.counter empty_row);
  len : array_vec_len l.lines ≡ array_vec_len l.initial.lines + 73 * l.counter;
}
