-- The library's `all` and `find` over the indices below n, which stop at the first whose test fails or that is sought: they answer as the rules' `all` and
-- `first_failing`. Assumes nothing.
use Prim.Native.Nat.{ℕ, zero, suc, ◌<◌, ◌≤◌}
use mathlib.Core.Path.{◌≡◌, refl, sym, ap, subst, ◌∙◌}
use mathlib.Core.Bool.{Bool, true, false, ◌&&◌, true≢false, and-false}
use mathlib.Core.List.{List, map}
use native.Mathlib.Omega.{arith}
use denote.Param.Members.{Mut}
use lib.ListN.{length}
use Rattle.std.specs.declared.option.Option.{Option}
use Rattle.std.specs.declared.option.Option.TheVariants.{None, Some}
use Rattle.std.specs.declared.ops.Range.{Range}
use Rattle.std.specs.Bool.{MatchBool}
use Rattle.std.specs.Fn.{Called}
use Rattle.std.specs.Iterator.{YieldsThen}
use Rattle.std.specs.List.{range_with_len, FoldsTo, AllWithin, HoldsAt}
use Rattle.std.specs.Option.{MatchOption}
use Rattle.std.proofs.iter.Yields.{nat_range_steps}
use Rattle.std.proofs.lemmas.Iterator.{cases_from_all, YieldsList-from_range}
use Rattle.std.proofs.lemmas.List.FromFn.{length-range_with_len, get_or-range_with_len, length-map-range_with_len, get_or-map-range_with_len}
use Rattle.rules.specs.Order.{all, first_failing}
use Rattle.rules.proofs.IndexLaws.{all-at, all_true, first-failing-one}

module _ (n : ℕ) (test : ℕ → Bool) where
  -- ---- all

  -- Element k of the indices is k.
  at : (P : ℕ → Type 0) (k : ℕ) → k < n → HoldsAt P (range_with_len 0 n) k → P k
  at P k l h = subst P (get_or-range_with_len 0 n k 0 l ∙ omega arith) (h 0)

  -- An index whose test fails fails the test of all.
  pub fails-at : (i : ℕ) → i < n → test i ≡ false → false ≡ all n test
  fails-at i l f = go (all n test) refl
    where
      go : (a : Bool) → all n test ≡ a → false ≡ all n test
      go true e = absurd (true≢false (sym (all-at test n i e l) ∙ f))
      go false e = sym e

  -- Every test holds, or one fails.
  answer : (r : Bool) → MatchBool r (AllWithin (λ x. x < n → true ≡ test x) (range_with_len 0 n) 0 (length (range_with_len 0 n))) ((k : ℕ) × (k < length (range_with_len 0 n)) × HoldsAt (λ x. x < n → false ≡ test x) (range_with_len 0 n) k)
      → r ≡ all n test
  answer true h = sym (all_true test n (λ i l. sym (at (λ x. x < n → true ≡ test x) i l (λ d. h i d (omega arith) (omega (arith, length-range_with_len 0 n))) l)))
  answer false (k, l, h) = let inside : k < n = omega (arith, length-range_with_len 0 n) in fails-at k inside (sym (at (λ x. x < n → false ≡ test x) k inside h inside))

  -- The closure, f, is left as it was and answers as the test at each index below n.
  pub all-by_range : {F : Type 0} {g : Mut F (ℕ × Unit {0}) Bool} {s u : Range ℕ} {f : F} {r : Bool}
      → (xs : List ℕ) × (o : Option ℕ) × (j : F) × YieldsThen nat_range_steps s xs o u × FoldsTo (λ p x q. Called g p (x, tt) true q) f xs j × MatchOption o (r ≡ true) (λ x. (r ≡ false) × ((h : F) × Called g j (x, tt) false h))
      → s ≡ record { start = 0; end = n } → ((x : ℕ) (b : Bool) (q : F) → Called g f (x, tt) b q → (q ≡ f) × (x < n → b ≡ test x)) → r ≡ all n test
  all-by_range {r = r} ran e k = answer r (cases_from_all _ _ r _ _ ran (YieldsList-from_range 0 n n e (omega arith)) (λ x q c. k x true q c) (λ x q c. (k x false q c).1))

  -- ---- find

  -- The indices have names x, and these are sought; an answer is `number_of` it, and n for none.
  module _ {X : Type 0} (name : ℕ → X) (number : X → ℕ) (number_of : Option X → ℕ) (named : (i : ℕ) → i < n → number (name i) ≡ i) (none : number_of None ≡ n) (some : (x : X) → number_of (Some x) ≡ number x) where
    abbrev names : List X
    names = map name (range_with_len 0 n)

    abbrev Passes : X → Type 0
    Passes x = test (number x) ≡ true

    abbrev Fails : X → Type 0
    Fails x = test (number x) ≡ false

    many : length names ≡ n
    many = length-map-range_with_len name 0 n

    -- Name k is that of k.
    name-at : (P : X → Type 0) (k : ℕ) → k < n → HoldsAt P names k → P (name k)
    name-at P k l h = subst P (get_or-map-range_with_len name 0 n k k (name 0) l (omega arith)) (h (name 0))

    passed : (i k : ℕ) → i ≤ n → AllWithin Passes names 0 i → k < i → test k ≡ true
    passed i k l h m = subst (λ j. test j ≡ true) (named k (omega arith)) (name-at Passes k (omega arith) (λ d. h k d (omega arith) m))

    -- No name is found if the test holds of each, else the first of which it fails.
    pub first-by_find : (r : Option X) → MatchOption r (AllWithin Passes names 0 (length names)) (λ x. Fails x × (i : ℕ) × (i < length names) × HoldsAt (λ y. y ≡ x) names i × AllWithin Passes names 0 i) → number_of r ≡ first_failing n test
    first-by_find None h = none ∙ sym (first-failing-one test n n (record { within = omega arith; below = λ k l. passed n k (omega arith) (rw many at h) l; fails = λ l. absurd (omega arith) }))
    first-by_find (Some x) (f, i, l, a, p) = some x ∙ is ∙ sym (first-failing-one test n i (record { within = omega (arith, many); below = λ k m. passed i k (omega (arith, many)) p m; fails = λ m. subst (λ j. test j ≡ false) is f }))
      where
        inside : i < n
        inside = omega (arith, many)

        is : number x ≡ i
        is = ap number (sym (name-at (λ y. y ≡ x) i inside a)) ∙ named i inside

-- ---- two tests of each index
module _ (f g : ℕ → Bool) where
  swap : (a b x y : Bool) → ((a && b) && (x && y)) ≡ ((a && x) && (b && y))
  swap true b true y = refl
  swap true b false y = and-false b
  swap false b x y = refl

  -- Both hold of all just if each does.
  pub all-both : (n : ℕ) → all n (λ i. f i && g i) ≡ (all n f && all n g)
  unfolding all
  all-both zero = refl
  all-both (suc n) = rw (all-both n) (swap (all n f) (all n g) (f n) (g n))
