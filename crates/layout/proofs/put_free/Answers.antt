-- `layout::put_free` meets its contract: the free count has two bytes, high first. Assumes nothing.
use Rattle.rules.proofs.FieldBytes.{put_two}
use Rattle.rules.specs.Board.{free, table8}
use mathlib.Core.Path.{refl, sym, ◌∙◌}
use Rattle.layout.proofs.put_free.Goals as goal

pub returns : goal.returns
returns c = c.put_pair.ensures ∙ sym (put_two table8 _ free refl _)
