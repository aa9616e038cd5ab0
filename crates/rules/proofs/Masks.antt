-- Masks of five ports, by one computed test over all of them. Assumes nothing.
use Prim.Native.Nat.{ℕ, ◌<◌, ◌≤◌}
use mathlib.Core.Path.{◌≡◌, refl, subst}
use mathlib.Core.Bool.{Bool, true, false, not, ◌&&◌, ◌||◌, beq}
use mathlib.Core.Logic.{◌≢◌}
use native.Mathlib.Omega.{arith}
use lib.Dec.{leb, ltb, eqb}
use borrow.Author.Tests.{ne_eqb, leb-true, ltb-true}
use Rattle.rules.specs.Areas.{has, without}
use Rattle.rules.specs.Order.{all, count, counted}
use Rattle.rules.proofs.Booleans.{and_left, and_right, not-false, beq-eq}
use Rattle.rules.proofs.IndexLaws.{all-at, count-some}

-- Port q leaves the mask m: the mask does not grow, q is gone, and any other port p stays as it was.
rule : ℕ → ℕ → ℕ → Bool
rule m q p = leb (without m q) m && not (has (without m q) q) && (eqb p q || beq (has (without m q) p) (has m p))

-- Computed.
rules : all 32 (λ m. all 5 (λ q. all 5 (λ p. rule m q p))) ≡ true
unfolding all rule has without
rules = refl

module _ (m q p : ℕ) (hm : m ≤ 31) (hq : q < 5) (hp : p < 5) where
  -- The computed test, at one mask and two ports.
  at : rule m q p ≡ true
  at = all-at (λ p. rule m q p) 5 p (all-at (λ q. all 5 (λ p. rule m q p)) 5 q (all-at (λ m. all 5 (λ q. all 5 (λ p. rule m q p))) 32 m rules (omega arith)) hq) hp

  -- From the computed test.
  pub has-without-other : p ≢ q → has (without m q) p ≡ has m p
  unfolding rule
  has-without-other n =
      let e = and_right (leb (without m q) m && not (has (without m q) q)) (eqb p q || beq (has (without m q) p) (has m p)) at in
      beq-eq (has (without m q) p) (has m p) (rw (ne_eqb p q n) at e)

module _ (m q : ℕ) (hm : m ≤ 31) (hq : q < 5) where
  -- Its part that needs no second port.
  without-rule : (leb (without m q) m && not (has (without m q) q)) ≡ true
  unfolding rule
  without-rule = and_left (leb (without m q) m && not (has (without m q) q)) (eqb q q || beq (has (without m q) q) (has m q)) (at m q q hm hq hq)

  -- From the computed test.
  pub without-le : without m q ≤ 31
  without-le = let h = leb-true (without m q) m (and_left (leb (without m q) m) (not (has (without m q) q)) without-rule) in omega arith

  -- From the computed test.
  pub has-without-same : has (without m q) q ≡ false
  has-without-same = not-false (has (without m q) q) (and_right (leb (without m q) m) (not (has (without m q) q)) without-rule)

-- No port is in mask 0.
has-none : all 5 (λ p. not (has 0 p)) ≡ true
unfolding all has
has-none = refl

-- From a computed test.
pub has-zero : (p : ℕ) → p < 5 → has 0 p ≡ false
has-zero p h = not-false (has 0 p) (all-at (λ p. not (has 0 p)) 5 p has-none h)

-- A mask other than 0 has a port.
some-ports : all 32 (λ m. eqb m 0 || ltb 0 (count 5 (has m))) ≡ true
unfolding all count counted has
some-ports = refl

-- From the computed test.
pub some_port : (m : ℕ) → 0 < m → m ≤ 31 → (p : ℕ) × (p < 5) × (has m p ≡ true)
some_port m h l = count-some (has m) 5 (ltb-true 0 (count 5 (has m)) (subst (λ (t : Bool). (t || ltb 0 (count 5 (has m))) ≡ true) (ne_eqb m 0 (λ e. omega arith)) (all-at (λ m. eqb m 0 || ltb 0 (count 5 (has m))) 32 m some-ports (omega arith))))
