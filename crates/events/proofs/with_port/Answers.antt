-- `with_port` meets its contract: the mask has room for the bit (`room-for-port` of Masks). Assumes nothing.
use Rattle.std.proofs.Common.{arith, rules}
use Rattle.events.proofs.Masks.{room-for-port}
use Rattle.events.proofs.with_port.Goals as goal

pub overflow_add-result : goal.overflow_add-result
overflow_add-result c = omega (arith, (room-for-port c.args.mask c.args.port.index (search rules) (search rules) c.requires).0)
