-- Five counts of up to 256 in one number: a mask adds one to the count of each of its ports, and each count is read back by its twelve bits. Assumes nothing.
use Prim.Native.Nat.{ℕ, zero, suc, ◌+◌, ◌/◌, ◌%◌, ◌^◌, ◌<◌, ◌≤◌}
use mathlib.Core.Path.{◌≡◌, ap, ◌∙◌}
use mathlib.Core.List.{List}
use native.Mathlib.Nat.{div-div-eq-div-mul, pow-suc}
use native.Mathlib.Numerals.{add-one}
use native.Mathlib.Omega.{arith}
use lib.ListN.{get_or}
use Rattle.rules.specs.Order.{count}
use Rattle.rules.specs.Areas.{has}
use Rattle.rules.specs.Board.{Mask, board8}
use Rattle.passes.proofs.Counting.{count-at-most}
use Rattle.passes.proofs.MaskPorts.{has-low}
use Rattle.fitting.specs.Counts.{packed_counts, spread, spreads, wait_for}

-- ---- one for each port of a mask

-- A mask's ports are those of its five low bits.
spread-low : (m : ℕ) → spread (m % 32) ≡ spread m
unfolding spread packed_counts
spread-low m = rw (has-low m 0 (omega arith), has-low m 1 (omega arith), has-low m 2 (omega arith), has-low m 3 (omega arith), has-low m 4 (omega arith))

-- Number j of n masks' from i on.
spreads-at : (n i j : ℕ) → j < n → get_or (spreads n i) j 0 ≡ spread (i + j)
unfolding spreads
spreads-at zero i j h = absurd (omega arith)
spreads-at (suc n) i zero h = let e : i ≡ i + zero = omega arith in ap spread e
spreads-at (suc n) i (suc j) h = let e : suc i + j ≡ i + suc j = omega arith in spreads-at n (suc i) j (omega arith) ∙ ap spread e

-- A table of those of the 32 masks has every mask's.
pub table_at : (m : ℕ) → get_or (spreads 32 0) (m % 32) 0 ≡ spread m
table_at m = let e : 0 + m % 32 ≡ m % 32 = omega arith in spreads-at 32 0 (m % 32) (omega arith) ∙ ap spread e ∙ spread-low m

-- ---- the slots counted one after the other

-- Slot i's mask is counted.
pub packed-next : (s : List ℕ) (i n m : ℕ) → n ≡ packed_counts (wait_for s i) → m ≡ spread (board8.get s (Mask, i)) → n + m ≡ packed_counts (wait_for s (i + 1))
unfolding packed_counts spread count
packed-next s i n m en em = rw (add-one i) (omega arith)

-- The five counts of the slots below i are at most i.
module _ (s : List ℕ) (i : ℕ) where
  most : (p : ℕ) → wait_for s i p ≤ i
  most p = count-at-most (λ j. has (board8.get s (Mask, j)) p) i

  -- Their number fits in 60 bits.
  pub packed_lt : i ≤ 256 → packed_counts (wait_for s i) < 1152921504606846976
  unfolding packed_counts
  packed_lt h = omega (arith, most 0, most 1, most 2, most 3, most 4)

  -- Port p's is read back from it.
  pub packed-count : i ≤ 256 → (p : ℕ) → p < 5 → packed_counts (wait_for s i) / 4096 ^ p % 4096 ≡ wait_for s i p
  unfolding packed_counts
  packed-count l zero h = omega (arith, most 0, most 1, most 2, most 3, most 4)
  packed-count l (suc zero) h = omega (arith, most 0, most 1, most 2, most 3, most 4)
  packed-count l (suc (suc zero)) h = omega (arith, most 0, most 1, most 2, most 3, most 4)
  packed-count l (suc (suc (suc zero))) h = omega (arith, most 0, most 1, most 2, most 3, most 4)
  packed-count l (suc (suc (suc (suc zero)))) h = omega (arith, most 0, most 1, most 2, most 3, most 4)
  packed-count l (suc (suc (suc (suc (suc p))))) h = absurd (omega arith)

-- What is left above port p's.
pub packed_above : (n p m : ℕ) → m ≡ n / 4096 ^ p → m / 4096 ≡ n / 4096 ^ (p + 1)
packed_above n p m e = rw (e, add-one p, pow-suc 4096 p) (div-div-eq-div-mul n (4096 ^ p) 4096)
