-- `digits` meets its contract: one more than the power of ten at or below the number, and 0 has one digit. Assumes nothing.
use Rattle.std.proofs.Common.{sym, arith}
use Rattle.text.proofs.Numbers.{digits-by-power, digits-short}
use Rattle.text.proofs.digits.Goals as goal

pub returns-in-Some-clause-count : goal.returns-in-Some-clause-count
returns-in-Some-clause-count c =
    digits-by-power c.in-Some.power c.args.number c.in-Some.ensures.power_le c.in-Some.ensures.next_power_gt c.in-Some.ensures.bound

pub returns-in-None-clause-count : goal.returns-in-None-clause-count
returns-in-None-clause-count c = sym (digits-short 19 c.args.number (omega (arith, c.in-None.ensures.none)))
