-- `engine::heading` meets its contract: there is no first, or its mask tells whether it waits for the port. Assumes nothing.
use borrow.Author.Rules.{rules}
use Rattle.engine.proofs.Headings.{first-heads}
use Rattle.engine.proofs.heading.Goals as goal

pub returns : goal.returns
returns c = first-heads _ _ _ _ _ c.front-first.ensures c.filter.ensures (λ i b e. search rules)
