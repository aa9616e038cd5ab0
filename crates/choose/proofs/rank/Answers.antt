-- `choose::rank` meets its contract: the key's digits and the slot's are the rank's, and the key is the slot's line. Assumes nothing.
use Prim.Native.Nat.{ℕ, ◌+◌}
use mathlib.Core.Path.{sym, ap, ◌∙◌}
use Rattle.choose.proofs.SlotKeys.{rank-by-key}
use Rattle.choose.proofs.Lines.{rank-of-line}
use Rattle.choose.proofs.rank.Goals as goal

pub returns-in-OnTime-clause-rank : goal.returns-in-OnTime-clause-rank
returns-in-OnTime-clause-rank c = c.digits.ensures ∙ rank-by-key _ _ _ _ _ c.requires c.times-slot.ensures.0 c.times-slot.ensures.1 _ (sym c.in-OnTime.is ∙ c.key_of.ensures.key)

pub returns-in-OnTime-clause-line : goal.returns-in-OnTime-clause-line
returns-in-OnTime-clause-line c = rank-of-line _ _ _ _ _ c.requires c.times-slot.ensures.0 c.times-slot.ensures.1 _ (rw c.in-OnTime.is at c.key_of.ensures.line) c.digits.ensures

pub returns-in-Early-clause-rank : goal.returns-in-Early-clause-rank
returns-in-Early-clause-rank c =
    let e = ap (λ (n : ℕ). 16777216 + n) c.digits-in-Early.ensures in e ∙ rank-by-key _ _ _ _ _ c.requires c.times-slot.ensures.0 c.times-slot.ensures.1 _ (sym c.in-Early.is ∙ c.key_of.ensures.key)

pub returns-in-Early-clause-line : goal.returns-in-Early-clause-line
returns-in-Early-clause-line c =
    let e = ap (λ (n : ℕ). 16777216 + n) c.digits-in-Early.ensures in rank-of-line _ _ _ _ _ c.requires c.times-slot.ensures.0 c.times-slot.ensures.1 _ (rw c.in-Early.is at c.key_of.ensures.line) e
