-- Orders, the comparator's (document 01, "A tick", step 2), and the indices below k: the least of their keys, tests over them, and lists by them. Assumes nothing.
use Rattle.std.specs.Prelude.{ℕ, zero, suc, ◌+◌, Bool, true, cond, not, ◌&&◌, ◌||◌, List, [], ◌∷◌, eqb, ℤ}
use Rattle.std.proofs.Math.Option.{Option, none, some}
use Rattle.std.specs.Int.Signed.{lt_z}

-- Whether the first of two goes before the second.
abbrev pub Order : Type 0 → Type 0
Order A = A → A → Bool

-- By a key.
unfoldable pub by : {A K : Type 0} → (A → K) → Order K → Order A
by key less x y = less (key x) (key y)

-- One order, and another between those that the first doesn't tell apart.
unfoldable pub then : {A : Type 0} → Order A → Order A → Order A
then first second x y = first x y || (not (first y x) && second x y)

-- What the comparator sees of a packet: early or on time, its key, and its second key, which decides among equal keys (document 02, [4]).
pub record Key : Type 0 where
  pub early : Bool
  pub key : ℤ
  pub second : ℤ

-- Every on-time key precedes every early one; the smaller key wins, and among equal keys the smaller second key.
unfoldable pub on_time_first : Order Bool
on_time_first x y = not x && y

unfoldable pub comparator : Order Key
comparator = then (by (λ k. k.early) on_time_first) (then (by (λ k. k.key) lt_z) (by (λ k. k.second) lt_z))

module _ {A : Type 0} (less : Order A) where
  -- `w` is the least so far, an index with its key; `x` is the key at i, if i has one.
  unfoldable pub better : Option (ℕ × A) → ℕ → Option A → Option (ℕ × A)
  better none i none = none
  better none i (some x) = some (i, x)
  better (some w) i none = some w
  better (some w) i (some x) = cond (less x w.1) (some (i, x)) (some w)

  -- The index below k with the least key, and that key; of equal keys the lowest index.
  unfoldable pub least : (ℕ → Option A) → ℕ → Option (ℕ × A)
  least key zero = none
  least key (suc k) = better (least key k) k (key k)

-- f holds at each index below k.
unfoldable pub all : ℕ → (ℕ → Bool) → Bool
all zero f = true
all (suc k) f = all k f && f k

-- The lowest index below k at which f fails; k if it fails at none.
unfoldable pub first_failing : ℕ → (ℕ → Bool) → ℕ
first_failing zero f = 0
first_failing (suc k) f = let i = first_failing k f in cond (eqb i k && f k) (suc k) i

-- 1 for a test that holds.
unfoldable pub counted : Bool → ℕ
counted b = cond b 1 0

-- At how many indices below k f holds.
unfoldable pub count : ℕ → (ℕ → Bool) → ℕ
count zero f = 0
count (suc k) f = count k f + counted (f k)

-- f (n - 1), .., f 0
unfoldable pub top_first : (ℕ → ℕ) → ℕ → List ℕ
top_first f zero = []
top_first f (suc n) = let t = top_first f n in f n ∷ t
