-- `choose::look` meets its contract: a slot without a port is ineligible on each and changes no least rank, and any other is offered to its ports. Assumes nothing.
use Rattle.passes.proofs.Ranks.{bests-suc, bests-none}
use Rattle.choose.proofs.Lines.{offered-none, offered-some}
use Rattle.passes.specs.Ranks.{lesser}
use Rattle.passes.proofs.MaskPorts.{each-changed}
use Rattle.rules.specs.Board.{board8}
use Prim.Native.Nat.{ℕ, ◌%◌, min}
use mathlib.Core.Path.{◌≡◌, ◌∙◌}
use lib.ListN.{get_or}
use borrow.Author.Rules.{rules}
use Rattle.std.proofs.lemmas.Bool.Decides.{nat_tests}
use native.Mathlib.Omega.{arith}
use Rattle.choose.proofs.look.Goals as goal

pub returns-then-mask-eq0-clause-least : goal.returns-then-mask-eq0-clause-least
returns-then-mask-eq0-clause-least c = bests-none board8 _ _ (omega arith) _ c.get-mask.ensures _ c.requires.1 c.if-mask-eq0.true

pub returns-then-mask-eq0-clause-lines : goal.returns-then-mask-eq0-clause-lines
returns-then-mask-eq0-clause-lines c = offered-none _ _ _ c.get-mask.ensures _ c.if-mask-eq0.true

-- The lesser of two, by a test.
min-lesser : (r b : ℕ) → min r b ≡ lesser r b
min-lesser r b = grind (arith, nat_tests)

pub returns : goal.returns
returns c =
    let e = each-changed (lesser c.rank-rank.result) (c.get-mask.result % 32) c.args.bests.now c.change_ports.new.cells c.change_ports.array_long (λ p x h t. let k = c.change_ports.ensures.changed p x h t in let m : get_or c.change_ports.new.cells p x ≡ min c.rank-rank.result (get_or c.args.bests.now p x) = search rules in m ∙ min-lesser _ _) c.change_ports.ensures.rest in
    record {
      least = bests-suc board8 _ _ (omega arith) _ c.get-mask.ensures _ c.requires.1 _ c.rank-rank.ensures.rank _ e;
      lines = offered-some _ _ _ c.get-mask.ensures _ _ c.rank-rank.ensures.line _ e;
    }
