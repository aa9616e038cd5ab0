-- Whole numbers by naturals: each is one natural less another, so that `omega` settles what is linear in them. Assumes nothing.
use Prim.Native.Nat.{ℕ, zero, suc, ◌+◌, ◌≤◌, ◌<◌}
use mathlib.Core.Path.{◌≡◌, refl, ap, subst}
use mathlib.Core.Bool.{false}
use mathlib.Core.Logic.{◌≢◌}
use native.Mathlib.Decide.{dec_lt}
use native.Mathlib.Omega.{arith}
use lib.Dec.{T, ltb, leb→le, le→leb, ltb→lt, lt→ltb}
use lib.IntN.{ℤ, pos, negsuc, neg_ℤ, sub_ℕ, suc_ℤ, ◌+ℤ◌, ◌-ℤ◌}
use lib.Signed.{le_z, lt_z}
use borrow.Author.Tests.{lt-ltb, le-ltb}
use Rattle.rules.proofs.Booleans.{same_test}

-- z is up z less down z.
abbrev pub up : ℤ → ℕ
up (pos n) = n
up (negsuc n) = 0

abbrev pub down : ℤ → ℕ
down (pos n) = 0
down (negsuc n) = suc n

-- ---- orders and equality

-- By cases of the signs, as all of this section.
pub le-nat : (u v : ℤ) → T (le_z u v) → up u + down v ≤ up v + down u
le-nat (pos a) (pos b) t = omega (arith, leb→le a b t)
le-nat (pos a) (negsuc b) t = absurd t
le-nat (negsuc a) (pos b) t = omega arith
le-nat (negsuc a) (negsuc b) t = omega (arith, leb→le b a t)

pub nat_le : (u v : ℤ) → up u + down v ≤ up v + down u → T (le_z u v)
nat_le (pos a) (pos b) h = le→leb a b (omega arith)
nat_le (pos a) (negsuc b) h = absurd (omega arith)
nat_le (negsuc a) (pos b) h = tt
nat_le (negsuc a) (negsuc b) h = le→leb b a (omega arith)

pub lt-nat : (u v : ℤ) → T (lt_z u v) → up u + down v < up v + down u
lt-nat (pos a) (pos b) t = omega (arith, ltb→lt a b t)
lt-nat (pos a) (negsuc b) t = absurd t
lt-nat (negsuc a) (pos b) t = omega arith
lt-nat (negsuc a) (negsuc b) t = omega (arith, ltb→lt b a t)

pub nat_lt : (u v : ℤ) → up u + down v < up v + down u → T (lt_z u v)
nat_lt (pos a) (pos b) h = lt→ltb a b (omega arith)
nat_lt (pos a) (negsuc b) h = absurd (omega arith)
nat_lt (negsuc a) (pos b) h = tt
nat_lt (negsuc a) (negsuc b) h = lt→ltb b a (omega arith)

pub nat_eq : (u v : ℤ) → up u + down v ≡ up v + down u → u ≡ v
nat_eq (pos a) (pos b) h = ap pos (omega arith)
nat_eq (pos a) (negsuc b) h = absurd (omega arith)
nat_eq (negsuc a) (pos b) h = absurd (omega arith)
nat_eq (negsuc a) (negsuc b) h = ap negsuc (omega arith)

pub ruleset orders = (le-nat, nat_le, lt-nat, nat_lt)

-- ---- sums and differences

-- By cases of the order.
pub sub-nat : (a b : ℕ) → up (sub_ℕ a b) + b ≡ a + down (sub_ℕ a b)
sub-nat a b = go (dec_lt a b)
  where
    go : Dec (a < b) → up (sub_ℕ a b) + b ≡ a + down (sub_ℕ a b)
    go (yes h) = rw (lt-ltb a b h) (omega arith)
    go (no h) = rw (le-ltb a b (omega arith)) (omega arith)

-- By cases of the signs.
pub add-nat : (u v : ℤ) → up (u +ℤ v) + (down u + down v) ≡ down (u +ℤ v) + (up u + up v)
add-nat (pos a) (pos b) = omega arith
add-nat (pos a) (negsuc b) = omega (arith, sub-nat a (suc b))
add-nat (negsuc a) (pos b) = omega (arith, sub-nat b (suc a))
add-nat (negsuc a) (negsuc b) = omega arith

pub neg-nat : (v : ℤ) → (up (neg_ℤ v) ≡ down v) × (down (neg_ℤ v) ≡ up v)
neg-nat (pos zero) = (refl, refl)
neg-nat (pos (suc n)) = (refl, refl)
neg-nat (negsuc n) = (refl, refl)

-- A difference is a sum with the negative.
pub diff-nat : (u v : ℤ) → up (u -ℤ v) + (down u + up v) ≡ down (u -ℤ v) + (up u + down v)
diff-nat u v = omega (arith, add-nat u (neg_ℤ v), (neg-nat v).0, (neg-nat v).1)

pub suc-nat : (u : ℤ) → up (suc_ℤ u) + down u ≡ down (suc_ℤ u) + up u + 1
suc-nat (pos n) = omega arith
suc-nat (negsuc zero) = omega arith
suc-nat (negsuc (suc n)) = omega arith

-- ---- laws of the order

-- Two numbers each at most the other are equal.
pub antisym : (u v : ℤ) → T (le_z u v) → T (le_z v u) → u ≡ v
antisym u v s t = nat_eq u v (omega (arith, orders))

-- Of two numbers the later is another.
pub later-differs : (u v : ℤ) → T (le_z (suc_ℤ u) v) → u ≢ v
later-differs u v l e = let k = subst (λ (z : ℤ). T (le_z (suc_ℤ z) v)) e l in omega (arith, orders, suc-nat v)

-- A test that fails is the other order.
pub not-lt : (u v : ℤ) → lt_z u v ≡ false → T (le_z v u)
not-lt u v e = go (dec_lt (up u + down v) (up v + down u))
  where
    go : Dec (up u + down v < up v + down u) → T (le_z v u)
    go (yes h) = absurd (subst T e (nat_lt u v h))
    go (no h) = nat_le v u (omega arith)

pub not-le : (u v : ℤ) → le_z u v ≡ false → T (lt_z v u)
not-le u v e = go (dec_lt (up v + down u) (up u + down v))
  where
    go : Dec (up v + down u < up u + down v) → T (lt_z v u)
    go (yes h) = nat_lt v u h
    go (no h) = absurd (subst T e (nat_le u v (omega arith)))

-- ---- tests of differences

-- An offset is at most 0 where the time is not after the clock.
pub diff-le : (u v : ℤ) → le_z (u -ℤ v) (pos 0) ≡ le_z u v
diff-le u v = let d = diff-nat u v in same_test (le_z (u -ℤ v) (pos 0)) (le_z u v) (λ t. omega (arith, orders)) (λ t. omega (arith, orders))

-- It is above 0 where the time is after the clock.
pub diff-gt : (u v : ℤ) → lt_z (pos 0) (u -ℤ v) ≡ lt_z v u
diff-gt u v = let d = diff-nat u v in same_test (lt_z (pos 0) (u -ℤ v)) (lt_z v u) (λ t. omega (arith, orders)) (λ t. omega (arith, orders))

-- It is at least - n where the time and n are not before the clock.
pub diff-in-time : (n : ℕ) (u v : ℤ) → le_z (neg_ℤ (pos n)) (u -ℤ v) ≡ le_z v (u +ℤ pos n)
diff-in-time n u v =
    let d = diff-nat u v in
    let a = add-nat u (pos n) in
    let m = neg-nat (pos n) in
    same_test (le_z (neg_ℤ (pos n)) (u -ℤ v)) (le_z v (u +ℤ pos n)) (λ t. omega (arith, orders)) (λ t. omega (arith, orders))

-- Numbers that are more by the same are in one order.
pub sum_lt : (v u w : ℤ) → lt_z (u +ℤ v) (w +ℤ v) ≡ lt_z u w
sum_lt v u w =
    let d = add-nat u v in
    let e = add-nat w v in
    same_test (lt_z (u +ℤ v) (w +ℤ v)) (lt_z u w) (λ t. omega (arith, orders)) (λ t. omega (arith, orders))

-- So offsets at one clock are in the order of the times.
pub diff-lt : (v u w : ℤ) → lt_z (u -ℤ v) (w -ℤ v) ≡ lt_z u w
diff-lt v u w = sum_lt (neg_ℤ v) u w

-- ---- tests of naturals

-- Orders that say the same.
pub ltb_iff : (a b c d : ℕ) → (a < b → c < d) → (c < d → a < b) → ltb a b ≡ ltb c d
ltb_iff a b c d f g = same_test (ltb a b) (ltb c d) (λ t. lt→ltb c d (f (ltb→lt a b t))) (λ t. lt→ltb a b (g (ltb→lt c d t)))
