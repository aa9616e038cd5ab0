-- `sound::all_listed` meets its contract: it asks about every slot. Assumes nothing.
use mathlib.Core.Path.{refl}
use Rattle.passes.proofs.Ranges.{all-by_range}
use borrow.Author.Rules.{rules}
use Rattle.sound.proofs.all_listed.Goals as goal

pub returns : goal.returns
returns c = all-by_range 256 _ c.all.ensures.ran refl (λ x b q k. search rules)
