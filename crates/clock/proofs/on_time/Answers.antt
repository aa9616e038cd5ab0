-- `clock::on_time` meets its contract: an offset of at most 0 is a difference of 0 or from 128 on. Assumes nothing.
use Rattle.rules.proofs.Offsets.{offset-at-most-0}
use Rattle.rules.specs.Areas.{half, bits}
use Rattle.std.proofs.Common.{eq-eqb, ne_eqb}
use Rattle.clock.proofs.on_time.Goals as goal

pub returns-then-x-eq0 : goal.returns-then-x-eq0
unfolding half bits
returns-then-x-eq0 c = rw (offset-at-most-0 1 _ _ _ c.ahead-x.ensures.difference, eq-eqb _ _ c.if-x-eq0.true)

pub returns-else-x-eq0 : goal.returns-else-x-eq0
unfolding half bits
returns-else-x-eq0 c = rw (offset-at-most-0 1 _ _ _ c.ahead-x.ensures.difference, ne_eqb _ _ c.if-x-eq0.false)
