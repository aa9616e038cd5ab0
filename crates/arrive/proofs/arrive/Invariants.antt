-- `arrive::arrive` meets its contract. The loop's invariant: the store and the answers are those of the ports below p. Assumes nothing.
use Rattle.rules.specs.Board.{board8}
use Rattle.passes.specs.Stores.{store}
use Rattle.passes.proofs.Arrivals.{ArrivedBelow}
use Rattle.arrive.proofs.arrive.Given as goal

abbrev pub invariant-loop-p : goal.invariant-loop-p
invariant-loop-p l = ArrivedBelow board8 (store l.initial.state l.initial.memory) l.arriving l.arrivals l.p (store l.state l.memory) l.answers
