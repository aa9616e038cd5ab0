-- `choose::end` meets its contract. The loop's invariant: the slots that it has passed are empty. Assumes nothing.
use Rattle.passes.specs.Empty.{EmptyFrom}
use Rattle.rules.specs.Board.{board8}
use Rattle.choose.proofs.end.Given as goal

abbrev pub invariant-loop-i : goal.invariant-loop-i
invariant-loop-i l = EmptyFrom board8 l.state l.i
