-- `fill_decimal` meets its contract. The loop's invariant: the digits of the rest, before those stored, are all. Assumes nothing.
use Rattle.std.proofs.Common.{◌≡◌, ◌++◌, length, drop}
use Rattle.text.specs.Lines.{decimal}
use Rattle.text.proofs.fill_decimal.Given as goal

abbrev pub invariant-loop-i : goal.invariant-loop-i
invariant-loop-i l = record {
  same_length : length l.digits ≡ length l.initial.digits;
  digits : decimal l.i l.rest ++ drop l.i l.digits ≡ decimal (length l.initial.digits) l.value;
}
