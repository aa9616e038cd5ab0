-- `sound::horizons_sound` meets its contract: it asks about every port. Assumes nothing.
use mathlib.Core.Path.{refl}
use Rattle.passes.proofs.Ranges.{all-by_range}
use Rattle.rules.specs.Areas.{half}
use borrow.Author.Rules.{rules}
use Rattle.sound.proofs.horizons_sound.Goals as goal

pub returns : goal.returns
unfolding half
returns c = all-by_range 5 _ c.all.ensures.ran refl (λ x b q k. search rules)
