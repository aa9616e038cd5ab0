-- `table1::place` meets its contract: two queues a port, the one on time first. Assumes nothing.
use native.Mathlib.Omega.{arith}
use Rattle.rules.specs.Order.{counted}
use Rattle.table1.proofs.place.Goals as goal

pub returns-in-OnTime-clause-start : goal.returns-in-OnTime-clause-start
unfolding counted
returns-in-OnTime-clause-start c = rw c.in-OnTime.is (omega arith)

pub returns-in-Early-clause-start : goal.returns-in-Early-clause-start
unfolding counted
returns-in-Early-clause-start c = rw c.in-Early.is (omega arith)
