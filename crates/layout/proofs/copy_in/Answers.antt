-- `layout::copy_in` meets its contract: the part copied over is as long as what is copied. Assumes nothing.
use native.Mathlib.Omega.{arith}
use Prim.Native.Nat.{◌+◌}
use lib.ListN.{length}
use Rattle.layout.proofs.Parts.{part-stored}
use Rattle.layout.proofs.copy_in.Goals as goal

pub returns : goal.returns
returns c = rw c.copy_from_slice.ensures.after (part-stored c.args.dst.now c.args.src.now c.args.at (c.args.at + length c.args.src.now) (omega arith) (omega arith) (omega arith))
