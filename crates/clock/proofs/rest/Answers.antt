-- `clock::rest` meets its contract: 255 less n and 1 is 256 less n, in numbers that a byte holds. Assumes nothing.
use Rattle.rules.specs.Areas.{bits}
use Rattle.std.proofs.Common.{arith, ne_eqb}
use Rattle.clock.proofs.rest.Goals as goal

pub returns : goal.returns
unfolding bits
returns c = rw (ne_eqb _ _ c.if-n-eq0.false) (omega arith)
