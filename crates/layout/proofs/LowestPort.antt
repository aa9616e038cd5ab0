-- The lowest port of a mask is its lowest bit, and what is done for one port of a mask after the other, lowest first, is done for each of them. Assumes nothing.
use Prim.Native.Nat.{ℕ, ◌-◌, ◌<◌}
use mathlib.Core.Path.{◌≡◌, refl, sym, ◌∙◌}
use mathlib.Core.Bool.{Bool, true, false, ◌&&◌, ◌||◌}
use mathlib.Core.List.{List}
use mathlib.Core.Logic.{◌≢◌}
use native.Mathlib.Decide.{ℕ_discrete}
use native.Mathlib.Omega.{arith}
use lib.Bits.{bit_and, and_le_r}
use lib.Count.{count_trailing_zeros}
use lib.Dec.{eqb, ltb}
use lib.ListN.{length, get_or, set, length-set}
use lib.Seq.{get_or-set_same, get_or-set_other}
use borrow.Author.Tests.{ne_eqb, eqb-true, ltb-true}
use Rattle.rules.specs.Order.{all}
use Rattle.rules.specs.Areas.{has, without}
use Rattle.rules.proofs.Booleans.{and_left, and_right}
use Rattle.rules.proofs.IndexLaws.{all-at}
use Rattle.rules.proofs.Masks.{has-zero, has-without-same, has-without-other}

-- It is one of the five, the mask has it, and to take the lowest bit away is to leave that port.
rule : ℕ → ℕ → Bool
rule m p = ltb p 5 && has m p && eqb (bit_and m (m - 1)) (without m p)

-- Computed.
rules : all 32 (λ m. eqb m 0 || rule m (count_trailing_zeros 8 m)) ≡ true
unfolding all rule count_trailing_zeros has without
rules = refl

module _ (m : ℕ) (hm : m < 32) (n : m ≢ 0) where
  abbrev lowest : ℕ
  lowest = count_trailing_zeros 8 m

  -- The computed test, at one mask.
  at : rule m lowest ≡ true
  at = rw (ne_eqb m 0 n) at (all-at (λ m. eqb m 0 || rule m (count_trailing_zeros 8 m)) 32 m rules hm)

  lowest-there : (ltb lowest 5 && has m lowest) ≡ true
  unfolding rule
  lowest-there = and_left (ltb lowest 5 && has m lowest) (eqb (bit_and m (m - 1)) (without m lowest)) at

  pub lowest-port : lowest < 5
  lowest-port = ltb-true lowest 5 (and_left (ltb lowest 5) (has m lowest) lowest-there)

  pub has-lowest : has m lowest ≡ true
  has-lowest = and_right (ltb lowest 5) (has m lowest) lowest-there

  without-lowest : bit_and m (m - 1) ≡ without m lowest
  unfolding rule
  without-lowest = eqb-true (bit_and m (m - 1)) (without m lowest) (and_right (ltb lowest 5 && has m lowest) (eqb (bit_and m (m - 1)) (without m lowest)) at)

  rest-without : has (bit_and m (m - 1)) lowest ≡ false
  rest-without = rw without-lowest (has-without-same m lowest (omega arith) lowest-port)

  rest-with : (p : ℕ) → p < 5 → p ≢ lowest → has (bit_and m (m - 1)) p ≡ has m p
  rest-with p h d = rw without-lowest (has-without-other m lowest p (omega arith) lowest-port h d)

-- The cells new, once the ports of the mask m that aren't left have theirs changed as R says from those of old.
pub record Changed {T : Type 0} (R : T → T → Type 0) (m left : ℕ) (old new : List T) : Type 0 where
  pub fits : left < 32
  pub five : length new ≡ 5
  pub among : (p : ℕ) → p < 5 → has left p ≡ true → has m p ≡ true
  pub waits : (p : ℕ) (d : T) → p < 5 → has left p ≡ true → get_or new p d ≡ get_or old p d
  pub done : (p : ℕ) (d : T) → p < 5 → has m p ≡ true → has left p ≡ false → R (get_or old p d) (get_or new p d)
  pub rest : (p : ℕ) (d : T) → p < 5 → has m p ≡ false → get_or new p d ≡ get_or old p d

-- None is changed.
pub changed-none : {T : Type 0} (R : T → T → Type 0) (m : ℕ) (old : List T) → m < 32 → length old ≡ 5 → Changed R m m old old
changed-none R m old h e = record { fits = h; five = e; among = λ p l t. t; waits = λ p d l t. refl; done = λ p d l t f. absurd (cc); rest = λ p d l f. refl }

-- The lowest that is left is changed.
pub changed-lowest : {T : Type 0} (R : T → T → Type 0) (m left : ℕ) (old new : List T) → (n : left ≢ 0) → (C : Changed R m left old new) → (y : T)
    → ((d : T) → R (get_or new (count_trailing_zeros 8 left) d) y) → Changed R m (bit_and left (left - 1)) old (set new (count_trailing_zeros 8 left) y)
changed-lowest {T} R m left old new n C y r = record {
  fits = omega (arith, and_le_r left (left - 1), C.fits);
  five = length-set new l y ∙ C.five;
  among = λ p h t. C.among p h (still p h t);
  waits = λ p d h t. other p d (apart p h t) ∙ C.waits p d h (still p h t);
  done = λ p d h t f. done p d h t f (ℕ_discrete p l);
  rest = λ p d h f. other p d (λ e. differ p h f e) ∙ C.rest p d h f;
}
  where
    l : ℕ
    l = count_trailing_zeros 8 left

    other : (p : ℕ) (d : T) → p ≢ l → get_or (set new l y) p d ≡ get_or new p d
    other p d e = get_or-set_other new l p y d e

    apart : (p : ℕ) → p < 5 → has (bit_and left (left - 1)) p ≡ true → p ≢ l
    apart p h t e = let f = rest-without left C.fits n in absurd (cc)

    still : (p : ℕ) → p < 5 → has (bit_and left (left - 1)) p ≡ true → has left p ≡ true
    still p h t = sym (rest-with left C.fits n p h (apart p h t)) ∙ t

    differ : (p : ℕ) → p < 5 → has m p ≡ false → p ≡ l → ⊥
    differ p h f e = let g = C.among l (lowest-port left C.fits n) (has-lowest left C.fits n) in cc

    done : (p : ℕ) (d : T) → p < 5 → has m p ≡ true → has (bit_and left (left - 1)) p ≡ false → Dec (p ≡ l) → R (get_or old p d) (get_or (set new l y) p d)
    done p d h t f (yes e) =
        let k : has left p ≡ true = rw e (has-lowest left C.fits n) in
        let b : l < length new = omega (arith, C.five, lowest-port left C.fits n) in
        let s : get_or (set new l y) p d ≡ y = rw e (get_or-set_same new l y d b) in
        let w : get_or new l d ≡ get_or old p d = rw (← e) (C.waits p d h k) in
        rw (s, ← w) (r d)
    done p d h t f (no e) = rw (other p d e) (C.done p d h t (sym (rest-with left C.fits n p h e) ∙ f))

-- None is left.
pub changed-all : {T : Type 0} {R : T → T → Type 0} {m left : ℕ} {old new : List T} → Changed R m left old new → left ≡ 0 → (p : ℕ) (d : T) → p < 5 → has m p ≡ true → R (get_or old p d) (get_or new p d)
changed-all {T} {R} {m} {left} C z p d h t = C.done p d h t (rw z (has-zero p h))

-- The lowest that is left has what it had at first.
pub lowest-waits : {T : Type 0} {R : T → T → Type 0} {m left : ℕ} {old new : List T} → (n : left ≢ 0) → (C : Changed R m left old new) → (d : T)
    → get_or new (count_trailing_zeros 8 left) d ≡ get_or old (count_trailing_zeros 8 left) d
lowest-waits {T} {R} {m} {left} n C d = C.waits _ d (lowest-port left C.fits n) (has-lowest left C.fits n)
