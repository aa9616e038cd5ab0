-- `arrive::take` meets its contract: an arrival that no question refuses has an idle address to take. Assumes nothing.
use mathlib.Core.Path.{sym}
use Rattle.rules.specs.Board.{board8}
use Rattle.passes.proofs.Arrivals.{passed-has-free}
use Rattle.arrive.proofs.take.Goals as goal

pub place-requires : goal.place-requires
place-requires c = passed-has-free board8 _ _ (sym c.in_ok-meets.ensures)
