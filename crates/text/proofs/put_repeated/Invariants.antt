-- `put_repeated` meets its contract. The loop's invariant: so many characters are appended as turns have passed. Assumes nothing.
use Rattle.std.proofs.Common.{◌≡◌, ◌++◌, replicate}
use Rattle.text.proofs.put_repeated.Given as goal

abbrev pub invariant-loop : goal.invariant-loop
invariant-loop g l = l.lines.items ≡ l.initial.lines.items ++ replicate l.counter l.b
