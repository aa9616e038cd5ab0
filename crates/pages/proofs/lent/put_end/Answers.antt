-- `lent::put_end` meets its contract: a page with no tick has nothing left to print. Assumes nothing.
use Rattle.std.proofs.Common.{refl, sym, add-zero}
use Rattle.pages.specs.Printing.{ending}
use Rattle.pages.proofs.lent.put_end.Goals as goal

pub returns-then-ticks-eq0-clause-put : goal.returns-then-ticks-eq0-clause-put
unfolding ending
returns-then-ticks-eq0-clause-put c = λ number. rw c.if-ticks-eq0.true (record { stored = refl; ends = sym (add-zero _) })
