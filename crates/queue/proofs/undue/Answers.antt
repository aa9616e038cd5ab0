-- `queue::undue` meets its contract. The loop's invariant: of the last `j` entries as many are left as of all at the start. Assumes nothing.
use mathlib.Core.Path.{◌∙◌}
use native.Mathlib.Omega.{arith}
use borrow.Author.Tests.{eq-eqb, ne_eqb}
use Rattle.queue.proofs.Steps.{rest-below, rest-here, rest-none}
use Rattle.queue.proofs.undue.Goals as goal

pub returns-then-get-t : goal.returns-then-get-t
returns-then-get-t c =
    rest-here _ _ _ _ (omega arith) c.entry-s.ensures _ (rw (← c.get.ensures, ← c.get-t.ensures) (ne_eqb _ _ c.if-get-t.true)) ∙ c.loop-j.invariant

pub loop-j-preserved : goal.loop-j-preserved
loop-j-preserved c =
    rest-below _ _ _ _ (omega arith) c.entry-s.ensures _ (rw (← c.get.ensures, ← c.get-t.ensures) (eq-eqb _ _ c.if-get-t.false)) ∙ c.loop-j.invariant

pub returns : goal.returns
returns c = rest-none _ _ _ (omega arith) ∙ c.loop-j.invariant
