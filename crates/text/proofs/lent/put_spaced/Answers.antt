-- `lent::put_spaced` meets its contract: the digits are stored behind the space, as many as the part has places. Assumes nothing.
use Rattle.std.proofs.Common.{arith}
use Rattle.text.proofs.Put.{put-digits}
use Rattle.text.proofs.lent.put_spaced.Goals as goal

pub returns-clause-put : goal.returns-clause-put
returns-clause-put c = put-digits 32 c.args.lines.now c.fill_decimal.new.digits c.args.at c.args.width c.args.value (omega arith) c.fill_decimal.ensures
