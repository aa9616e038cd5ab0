-- One step down a queue, from its last j entries to its last k, one less: what it makes of a slot's place, and of the first ones that pass a test. Assumes nothing.
use Prim.Native.Nat.{ℕ, ◌+◌}
use mathlib.Core.Path.{◌≡◌}
use mathlib.Core.Bool.{Bool, true, false}
use mathlib.Core.List.{List}
use native.Mathlib.Numerals.{add-one}
use Rattle.rules.specs.Order.{Order}
use Rattle.queues.specs.Area.{entry, put_entry, placed, rest}

-- Entry k is o.
module _ (x : List ℕ) (o j k : ℕ) (n : j ≡ k + 1) (e : o ≡ entry x k) where
  -- It goes before slot i and moves up, and the place is below.
  pub placed-below : (less : Order ℕ) (i : ℕ) → less o i ≡ true → placed less i k (put_entry x (k + 1) o) ≡ placed less i j x
  unfolding placed
  placed-below less i t = rw (n, add-one k, placed, ← e, t)

  -- It does not, and the place is here.
  pub placed-here : (less : Order ℕ) (i : ℕ) → less o i ≡ false → put_entry x (k + 1) i ≡ placed less i j x
  unfolding placed
  placed-here less i t = rw (n, add-one k, placed, ← e, t)

  -- It passes the test and leaves.
  pub rest-below : (test : ℕ → Bool) → test o ≡ true → rest test x k ≡ rest test x j
  unfolding rest
  rest-below test t = rw (n, add-one k, rest, ← e, t)

  -- It does not, and all j are left.
  pub rest-here : (test : ℕ → Bool) → test o ≡ false → k + 1 ≡ rest test x j
  unfolding rest
  rest-here test t = rw (n, add-one k, rest, ← e, t)

-- With none to look at, the place is the last.
pub placed-last : (less : Order ℕ) (i j : ℕ) (x : List ℕ) → j ≡ 0 → put_entry x 0 i ≡ placed less i j x
unfolding placed
placed-last less i j x e = rw e

-- And none is left.
pub rest-none : (test : ℕ → Bool) (j : ℕ) (x : List ℕ) → j ≡ 0 → 0 ≡ rest test x j
unfolding rest
rest-none test j x e = rw e
