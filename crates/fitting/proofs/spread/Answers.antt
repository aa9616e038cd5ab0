-- `fitting::spread` meets its contract: a mask's number is that of its five low bits. Assumes nothing.
use Rattle.fitting.proofs.PackedCounts.{table_at}
use Rattle.fitting.proofs.spread.Goals as goal

pub returns : goal.returns
returns c = rw c.requires (table_at c.args.mask)
