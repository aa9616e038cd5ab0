-- `clock::in_time` meets its contract: an offset of at least -d is a difference below 128, or one that d more makes a turn. Assumes nothing.
use Rattle.rules.proofs.Offsets.{offset-at-least}
use Rattle.rules.specs.Areas.{half, bits}
use Rattle.std.proofs.Common.{le-ltb, lt-ltb}
use Rattle.clock.proofs.in_time.Goals as goal

pub returns-then-x-lt-HALF : goal.returns-then-x-lt-HALF
unfolding half bits
returns-then-x-lt-HALF c = rw (offset-at-least 1 _ _ _ c.since-x.ensures, lt-ltb _ 128 c.if-x-lt-HALF.true)

pub returns-else-x-lt-HALF : goal.returns-else-x-lt-HALF
unfolding half bits
returns-else-x-lt-HALF c = rw (offset-at-least 1 _ _ _ c.since-x.ensures, le-ltb _ 128 c.if-x-lt-HALF.false, c.from.ensures, c.from-else-x-lt-HALF.ensures)
