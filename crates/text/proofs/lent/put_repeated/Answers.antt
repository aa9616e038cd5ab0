-- `lent::put_repeated` meets its contract: the part that is filled has as many places as there are characters. Assumes nothing.
use Rattle.std.proofs.Common.{arith}
use Rattle.text.proofs.Put.{put-repeated}
use Rattle.text.proofs.lent.put_repeated.Goals as goal

pub returns-clause-put : goal.returns-clause-put
returns-clause-put c = put-repeated c.args.lines.now c.fill.new.self c.args.at c.args.count c.args.b (omega arith) (c.fill.ensures.after (λ y e. e))
