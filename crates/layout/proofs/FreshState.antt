-- The fresh state store by store: the stack's entries over zero bytes, computed. Assumes nothing.
use Prim.Native.Nat.{ℕ, zero, suc, ◌+◌, ◌-◌}
use mathlib.Core.Path.{◌≡◌, sym, ap}
use mathlib.Core.List.{List, ◌∷◌}
use native.Mathlib.Omega.{arith}
use lib.ListN.{set, replicate}
use Rattle.rules.specs.Areas.{digits}
use Rattle.rules.specs.Board.{fresh8, board8}
use Rattle.rules.specs.Order.{top_first}

-- Entry i of the stack holds 255 - i, for the entries below k.
unfoldable pub stacked : ℕ → List ℕ → List ℕ
stacked zero s = s
stacked (suc k) s = let s' = stacked k s in set s' (12 + k) (255 - k)

module _ (t : ℕ) where
  -- The clock is one byte.
  pub fresh-cons : board8.fresh_state t ≡ t ∷ fresh8
  unfolding digits
  fresh-cons = ap (λ (x : ℕ). x ∷ fresh8) (omega arith)

  -- Computed: what the stores make of zero bytes.
  pub stacked-fresh : stacked 256 (set (set (replicate 1804 0) 0 t) 10 1) ≡ board8.fresh_state t
  unfolding stacked fresh8 top_first
  stacked-fresh = sym fresh-cons
