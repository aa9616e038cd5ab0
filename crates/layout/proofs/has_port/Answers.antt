-- `layout::has_port` meets its contract: a shift to the right divides by a power of two. Assumes nothing.
use Rattle.rules.specs.Areas.{has}
use borrow.Author.Rules.{rules}
use Rattle.layout.proofs.has_port.Goals as goal

pub returns : goal.returns
unfolding has
returns c = search rules
