-- `arrive::store_packet` meets its contract: the packet is stored, and over its first two bytes a header. Assumes nothing.
use native.Mathlib.Omega.{arith}
use Rattle.rules.proofs.FieldBytes.{packed-one}
use Rattle.passes.proofs.Packets.{sets-header}
use Rattle.arrive.proofs.store_packet.Goals as goal

pub returns : goal.returns
returns c = rw (packed-one, c.copy_in.ensures) (sets-header _ _ _ _ c.args.packet.now (omega arith))
