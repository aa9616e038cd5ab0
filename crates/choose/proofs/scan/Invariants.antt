-- `choose::scan` meets its contract. The loop's invariant: `bests` has the least ranks of the slots below `i`; those past `end` change none. Assumes nothing.
use Rattle.passes.specs.Ports.{EachPort}
use Rattle.passes.specs.Ranks.{best}
use Rattle.rules.specs.Board.{board8}
use Rattle.choose.proofs.scan.Given as goal

abbrev pub invariant-loop-i : goal.invariant-loop-i
invariant-loop-i l = EachPort (best board8 l.state l.i) l.bests
