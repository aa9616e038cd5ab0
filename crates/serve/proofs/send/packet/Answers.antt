-- `serve::send::packet` meets its contract: the part of the memory that it gives is the slot's packet. Assumes nothing.
use Rattle.passes.proofs.Packets.{part-packet}
use mathlib.Core.Path.{◌∙◌}
use Rattle.serve.proofs.send.packet.Goals as goal

pub returns : goal.returns
returns c = (rw c.unwrap.ensures at c.as_array.ensures.cases).same ∙ part-packet c.args.memory.now c.args.s.0
