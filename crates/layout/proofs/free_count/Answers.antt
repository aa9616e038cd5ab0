-- `layout::free_count` meets its contract: the free count has two bytes, high first. Assumes nothing.
use Rattle.rules.proofs.FieldBytes.{get-two}
use Rattle.rules.specs.Board.{free, table8}
use mathlib.Core.Path.{refl}
use native.Mathlib.Omega.{arith}
use Rattle.layout.proofs.free_count.Goals as goal

pub returns : goal.returns
returns c = rw (get-two table8 c.args.state.now free refl (omega arith)) (omega arith)
