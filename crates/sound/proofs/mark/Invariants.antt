-- `sound::mark` meets its contract. The loop's invariant: `Marked` of the entries passed. Assumes nothing.
use Rattle.rules.specs.Board.{board8}
use Rattle.passes.specs.Stack.{Marked}
use Rattle.sound.proofs.mark.Given as goal

abbrev pub invariant-loop-i : goal.invariant-loop-i
invariant-loop-i l = Marked board8 l.state l.i l.seen l.distinct
