-- The order of the queues: strict, total on different slots, that of the slots' ranks, on-time slots first; and it depends on the keys alone. By cases of what the comparator sees. Assumes nothing.
use Prim.Native.Nat.{ℕ, ◌<◌}
use mathlib.Core.Path.{◌≡◌, refl, sym, ap₂, ◌∙◌}
use mathlib.Core.Bool.{Bool, true, false, not, ◌&&◌, ◌||◌, true≢false}
use mathlib.Core.Logic.{◌⊎◌, inl, inr}
use mathlib.Core.List.{List}
use native.Mathlib.Decide.{dec_lt}
use native.Mathlib.Omega.{arith}
use lib.Dec.{ltb}
use borrow.Author.Tests.{lt-ltb, ltb-true, ltb-false}
use Rattle.rules.specs.Order.{Key, by, then, on_time_first, comparator}
use Rattle.rules.specs.Board.{Board}
use Rattle.rules.specs.Tick.{is_early, slot_key}
use Rattle.rules.proofs.OrderLaws.{Strict, strict-by, strict-then, strict-comparator}
use Rattle.passes.specs.Ranks.{slot_rank}
use Rattle.passes.proofs.Ranks.{rank-order}
use Rattle.queues.specs.Table1.{before}
use Rattle.queues.proofs.ListLaws.{Total}

-- ---- numbers

-- Their order is strict.
strict-numbers : Strict ltb
strict-numbers = record {
  irrefl = λ x e. let h = ltb-true x x e in omega arith;
  trans = λ x y z e f. let h = ltb-true x y e in let k = ltb-true y z f in lt-ltb x z (omega arith);
  cotrans = λ x y z e. go x y z (ltb-true x z e) (dec_lt x y);
}
  where
    go : (x y z : ℕ) → x < z → Dec (x < y) → (ltb x y ≡ true) ⊎ (ltb y z ≡ true)
    go x y z h (yes l) = inl (lt-ltb x y l)
    go x y z h (no l) = inr (lt-ltb y z (omega arith))

-- ---- keys

-- Whether a slot with the key k goes before one with the key l; t if it is the lower.
abbrev pub goes : Key → Key → Bool → Bool
goes k l t = comparator k l || (not (comparator l k) && t)

-- A slot on time goes before an early one.
goes-early : (k l : Key) (t : Bool) → k.early ≡ false → l.early ≡ true → goes k l t ≡ true
unfolding comparator then by on_time_first
goes-early k l t p q = rw (p, q)

-- ---- slots

module _ (B : Board) where
  open B use {clock_bytes as c}

  -- By its parts.
  pub strict-before : (s : List ℕ) → Strict (before B s)
  unfolding before
  strict-before s = strict-then _ _ (strict-by _ strict-comparator) strict-numbers

  -- Slots go as their keys do.
  pub before-goes : (s : List ℕ) (i j : ℕ) → before B s i j ≡ goes (slot_key B s i) (slot_key B s j) (ltb i j)
  unfolding before then by
  before-goes s i j = refl

  -- Where neither key goes before the other, the lower slot does.
  pub total-before : (s : List ℕ) → Total (before B s)
  unfolding before then by
  total-before s i j n e = go (comparator (slot_key B s i) (slot_key B s j)) (comparator (slot_key B s j) (slot_key B s i)) (ltb i j) refl e
    where
      go : (a b d : Bool) → ltb i j ≡ d → (a || (not b && d)) ≡ false → (b || (not a && ltb j i)) ≡ true
      go true b d q e = absurd (true≢false e)
      go false true d q e = refl
      go false false d q e = let h = ltb-false i j (q ∙ e) in lt-ltb j i (omega (arith, n))

  -- Equal keys go in the same order.
  pub before_same : (s s' : List ℕ) (i j : ℕ) → slot_key B s i ≡ slot_key B s' i → slot_key B s j ≡ slot_key B s' j → before B s i j ≡ before B s' i j
  before_same s s' i j p q = before-goes s i j ∙ ap₂ (λ (k l : Key). goes k l (ltb i j)) p q ∙ sym (before-goes s' i j)

  -- A slot on time goes before an early one.
  pub before-early : (s : List ℕ) (i j : ℕ) → is_early B s i ≡ false → is_early B s j ≡ true → before B s i j ≡ true
  unfolding slot_key
  before-early s i j p q = before-goes s i j ∙ goes-early (slot_key B s i) (slot_key B s j) (ltb i j) p q

  -- The lower rank goes first.
  pub before-rank : (s : List ℕ) (i j : ℕ) → i < 256 → j < 256 → before B s i j ≡ ltb (slot_rank B s i) (slot_rank B s j)
  unfolding before
  before-rank s i j hi hj = sym (rank-order B s i j hi hj)
