-- `Router::fresh` meets its contract. The loop's invariant: the bytes have the stack's entries below `i`. The measure is what is left of 256.
-- With all of them the bytes are the fresh state, by computation. Assumes nothing.
use mathlib.Core.Path.{◌≡◌, refl, ◌∙◌}
use native.Mathlib.Numerals.{add-one}
use native.Mathlib.Omega.{arith}
use lib.ListN.{length-set}
use Rattle.layout.proofs.FreshState.{stacked, stacked-fresh}
use borrow.Author.Rules.{rules}
use Rattle.layout.proofs.Router.fresh.Goals as goal

pub loop-i-init : goal.loop-i-init
unfolding stacked
loop-i-init c = (search rules, refl, refl)

pub loop-i-preserved : goal.loop-i-preserved
unfolding stacked
loop-i-preserved c = (search rules, simp length-set c.loop-i.invariant.1, rw (add-one c.loop-i.i, c.loop-i.invariant.2))

pub returns : goal.returns
returns c = let e : c.loop-i.i ≡ 256 = omega arith in (c.loop-i.invariant.2 ∙ rw e (stacked-fresh c.args.clock.0), refl)
