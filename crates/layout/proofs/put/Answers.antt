-- `layout::put` meets its contract: the store of a field of one byte is the store of the byte at its place. Assumes nothing.
use Rattle.layout.proofs.OneByte.{one_byte}
use Rattle.rules.proofs.FieldBytes.{put_one}
use Rattle.rules.specs.Board.{table8}
use Rattle.layout.specs.Fields.{field_of}
use Rattle.layout.proofs.put.Goals as goal

pub returns : goal.returns
returns c = rw (put_one table8 c.args.state.now (field_of c.args.f) (one_byte c.args.f), ← c.place.ensures) c.put_byte.ensures
