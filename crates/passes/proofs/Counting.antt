-- Counts of the indices below k, against each other: they grow with k and with the test. Assumes nothing.
use Prim.Native.Nat.{ℕ, zero, suc, ◌+◌, ◌-◌, ◌<◌, ◌≤◌}
use mathlib.Core.Path.{◌≡◌, ap}
use mathlib.Core.Bool.{Bool, true, false, cond, ◌&&◌}
use native.Mathlib.Omega.{arith}
use Rattle.rules.specs.Order.{count, counted}

-- By one index after the other.
count-mono : (f : ℕ → Bool) (i d : ℕ) → count i f ≤ count (i + d) f
unfolding count
count-mono f i zero = let e : i ≡ i + 0 = omega arith in rw (← e) (omega arith)
count-mono f i (suc d) = let e : i + suc d ≡ suc (i + d) = omega arith in rw e (let h = count-mono f i d in omega arith)

pub count-le : (f : ℕ → Bool) (i k : ℕ) → i ≤ k → count i f ≤ count k f
count-le f i k h =
    let e : i + (k - i) ≡ k = omega arith in
    omega (arith, count-mono f i (k - i), ap (λ (n : ℕ). count n f) e)

-- Below an index that is counted there is one less at most.
pub count-below : (f : ℕ → Bool) (i k : ℕ) → i < k → f i ≡ true → suc (count i f) ≤ count k f
unfolding count counted
count-below f i k h e =
    let a = count-le f (suc i) k h in
    let b : ◌≡◌ {A = ℕ} (cond (f i) 1 0) 1 = rw e in
    omega arith

-- Two tests count no more than the first.
pub count-and : (f g : ℕ → Bool) (k : ℕ) → count k (λ i. f i && g i) ≤ count k f
unfolding count counted
count-and f g zero = omega arith
count-and f g (suc k) = go (f k) (g k) (count-and f g k)
  where
    go : (a b : Bool) → count k (λ i. f i && g i) ≤ count k f → count k (λ i. f i && g i) + cond (a && b) 1 0 ≤ count k f + cond a 1 0
    go true true h = omega arith
    go true false h = omega arith
    go false b h = omega arith

-- No more are counted than there are.
pub count-at-most : (f : ℕ → Bool) (k : ℕ) → count k f ≤ k
unfolding count counted
count-at-most f zero = omega arith
count-at-most f (suc k) = go (f k) (count-at-most f k)
  where
    go : (b : Bool) → count k f ≤ k → count k f + cond b 1 0 ≤ suc k
    go true h = omega arith
    go false h = omega arith
