-- `fitting::first_fits` meets its contract: there is no first, or it waits. Assumes nothing.
use borrow.Author.Rules.{rules}
use Rattle.fitting.proofs.FirstOnes.{first-fits}
use Rattle.fitting.proofs.first_fits.Goals as goal

pub returns : goal.returns
returns c = first-fits _ _ _ _ _ _ c.front.ensures c.is_none_or.ensures (λ s e. search rules)
