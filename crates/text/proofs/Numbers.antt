-- Numbers in decimal digits: how many there are, and that they read back. Assumes nothing.
use Prim.Native.Nat.{ℕ, zero, suc, ◌+◌, ◌-◌, ◌*◌, ◌/◌, ◌%◌, ◌^◌, ◌≤◌, ◌<◌}
use mathlib.Core.Path.{◌≡◌, refl, ◌∙◌}
use mathlib.Core.List.{List, [], ◌∷◌, ◌++◌}
use native.Mathlib.Nat.{pow-suc, one-le-pow}
use native.Mathlib.Omega.{arith}
use lib.ListN.{length, length-append, get_or, replicate, get_or-append}
use borrow.Author.Tests.{lt-ltb, le-ltb, ltb-true, ltb-false}
use Rattle.text.specs.Lines.{decimal, digits_up_to, digits_of, unpadded}
use Rattle.text.specs.Characters.{Digits, read_from, Reads, ReadsAtRight}
use mathlib.Core.Bool.{Bool, true, false, cond}
use mathlib.Core.Logic.{◌≢◌}
use lib.Dec.{ltb}

pub length-decimal : (k v : ℕ) → length (decimal k v) ≡ k
unfolding decimal
length-decimal zero v = refl
length-decimal (suc k) v = length-append (decimal k (v / 10)) ((48 + v % 10) ∷ []) ∙ rw (length-decimal k (v / 10)) (omega arith)

-- The digits of a number of one digit, and of one that is divided by ten.
pub digits-short : (k v : ℕ) → v < 10 → digits_up_to k v ≡ 1
unfolding digits_up_to
digits-short zero v h = refl
digits-short (suc k) v h = rw (lt-ltb v 10 h)

pub digits_long : (k v : ℕ) → 10 ≤ v → digits_up_to (suc k) v ≡ suc (digits_up_to k (v / 10))
unfolding digits_up_to
digits_long k v h = rw (le-ltb v 10 h)

-- No more digits than a power of ten that is above the number.
pub digits-few : (k j v : ℕ) → v < 10 ^ suc j → digits_up_to k v ≤ suc j
unfolding digits_up_to
digits-few zero j v h = omega arith
digits-few (suc k) zero v h = rw (lt-ltb v 10 h) (omega arith)
digits-few (suc k) (suc j) v h = go (ltb v 10) (digits-few k j (v / 10) (omega (arith, pow-suc 10 (suc j), h)))
  where
    go : (b : Bool) → digits_up_to k (v / 10) ≤ suc j → cond b 1 (suc (digits_up_to k (v / 10))) ≤ suc (suc j)
    go true shorter = omega arith
    go false shorter = omega arith

digits-some : (k v : ℕ) → 0 < digits_up_to k v
unfolding digits_up_to
digits-some zero v = omega arith
digits-some (suc k) v = go (ltb v 10)
  where
    go : (b : Bool) → 0 < cond b 1 (suc (digits_up_to k (v / 10)))
    go true = omega arith
    go false = omega arith

-- And more than a power of ten that is not.
digits-more : (k j v : ℕ) → j ≤ k → 10 ^ j ≤ v → j < digits_up_to k v
digits-more k zero v l h = digits-some k v
digits-more zero (suc j) v l h = absurd (omega arith)
digits-more (suc k) (suc j) v l h =
    let shorter : 10 ^ j ≤ v / 10 = omega (arith, pow-suc 10 j, h) in
    omega (arith, digits_long k v (omega (arith, pow-suc 10 j, h, one-le-pow j 10 (omega arith))), digits-more k j (v / 10) (omega arith) shorter)

-- So the power of ten at or below a number says how many there are.
pub digits-by-power : (k v : ℕ) → 10 ^ k ≤ v → v < 10 * 10 ^ k → k < 20 → k + 1 ≡ digits_of v
digits-by-power k v low high fits = omega (arith, digits-few 19 k v (omega (arith, pow-suc 10 k, high)), digits-more 19 k v (omega arith) low)

-- ---- digits read back

digits_append : (a b : List ℕ) → Digits a → Digits b → Digits (a ++ b)
unfolding Digits
digits_append [] b x y = y
digits_append (c ∷ a) b x y = (x.0, digits_append a b x.1 y)

digits_decimal : (k v : ℕ) → Digits (decimal k v)
unfolding Digits decimal
digits_decimal zero v = tt
digits_decimal (suc k) v = digits_append (decimal k (v / 10)) ((48 + v % 10) ∷ []) (digits_decimal k (v / 10)) ((omega arith, omega arith), tt)

read-append : (n : ℕ) (a : List ℕ) (c : ℕ) → read_from n (a ++ (c ∷ [])) ≡ 10 * read_from n a + (c - 48)
unfolding read_from
read-append n [] c = refl
read-append n (x ∷ a) c = read-append (10 * n + (x - 48)) a c

read-decimal : (k v : ℕ) → v < 10 ^ k → read_from 0 (decimal k v) ≡ v
unfolding read_from decimal
read-decimal zero v h = omega arith
read-decimal (suc k) v h =
    let e = read-append 0 (decimal k (v / 10)) (48 + v % 10) in
    let shorter : v / 10 < 10 ^ k = omega (arith, pow-suc 10 k, h) in
    omega (arith, e, read-decimal k (v / 10) shorter)

pub decimal-reads : (k v : ℕ) → v < 10 ^ k → Reads (decimal k v) v
decimal-reads k v h = record { digits = digits_decimal k v; value = read-decimal k v h }

-- A number's digits hold it, and the first is no zero unless it is the only one.
pub digits-hold : (k v : ℕ) → v < 10 ^ suc k → v < 10 ^ digits_up_to k v
unfolding digits_up_to
digits-hold zero v h = h
digits-hold (suc k) v h = go (digits-hold k (v / 10) (omega (arith, pow-suc 10 (suc k), h))) (ltb v 10) refl
  where
    go : v / 10 < 10 ^ digits_up_to k (v / 10) → (b : Bool) → ltb v 10 ≡ b → v < 10 ^ cond b 1 (suc (digits_up_to k (v / 10)))
    go shorter true e = ltb-true v 10 e
    go shorter false e = omega (arith, pow-suc 10 (digits_up_to k (v / 10)), shorter)

pub first-no-zero : (k v : ℕ) → 0 < v → v < 10 ^ suc k → get_or (decimal (digits_up_to k v) v) 0 0 ≢ 48
unfolding digits_up_to decimal
first-no-zero zero v p h = λ e. omega arith
first-no-zero (suc k) v p h = go (λ q. first-no-zero k (v / 10) q (omega (arith, pow-suc 10 (suc k), h))) (ltb v 10) refl
  where
    front : List ℕ
    front = decimal (digits_up_to k (v / 10)) (v / 10)

    some : 0 < length front
    some = rw (length-decimal (digits_up_to k (v / 10)) (v / 10)) (digits-some k (v / 10))

    go : (0 < v / 10 → get_or front 0 0 ≢ 48) → (b : Bool) → ltb v 10 ≡ b → get_or (decimal (cond b 1 (suc (digits_up_to k (v / 10)))) v) 0 0 ≢ 48
    go shorter true t e = let below = ltb-true v 10 t in omega arith
    go shorter false t e =
        let above = ltb-false v 10 t in
        shorter (omega arith) (rw (get_or-append front ((48 + v % 10) ∷ []) 0 0 some) at e)

-- A number without zeros in front, after so many spaces.
pub unpadded-reads : (blanks v : ℕ) → v < 10 ^ 20 → ReadsAtRight (replicate blanks 32 ++ unpadded v) v
unfolding unpadded
unpadded-reads blanks v h =
    record {
      blanks = blanks;
      number = decimal (digits_of v) v;
      placed = refl;
      reads = decimal-reads (digits_of v) v (digits-hold 19 v h);
      some = rw (length-decimal (digits_of v) v) (digits-some 19 v);
      unpadded = λ more. first-no-zero 19 v (positive more) h;
    }
  where
    positive : 1 < length (decimal (digits_of v) v) → 0 < v
    positive more = go v (rw (length-decimal (digits_of v) v) at more)
      where
        go : (w : ℕ) → 1 < digits_of w → 0 < w
        go zero m = absurd (omega (arith, digits-short 19 0 (omega arith), m))
        go (suc w) m = omega arith
