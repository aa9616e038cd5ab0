-- Joined inputs are one input: after whole records, what follows comes to what it comes to by itself. Assumes nothing.
use Prim.Native.Nat.{ℕ, zero, suc, ◌+◌, ◌*◌, ◌≤◌}
use mathlib.Core.Path.{◌≡◌, refl}
use mathlib.Core.List.{List, ◌++◌, append-nil, append_assoc}
use native.Mathlib.Nat.{add-zero, add-suc}
use native.Mathlib.Omega.{arith}
use lib.ListN.{length}
use Rattle.records.specs.Records.{record_length}
use Rattle.records.proofs.Parts.{record-of-first, record-of-second}
use Rattle.events.specs.Tape.{Tape, Passed, after}

-- One after the other.
abbrev pub then : Passed → Passed → Passed
then a b = record { tape = b.tape; events = a.events ++ b.events }

module _ (σ : Tape) (k : ℕ) (a b : List ℕ) where
  after_first : (i : ℕ) → record_length * i ≤ length a → after σ k (a ++ b) i ≡ after σ k a i
  unfolding after
  after_first zero h = refl
  after_first (suc i) h = rw (after_first i (omega arith), record-of-first a b i h)

  -- After a first input of n records, and then after i of the second.
  pub after-joined : (n : ℕ) → length a ≡ record_length * n → (i : ℕ) → after σ k (a ++ b) (n + i) ≡ then (after σ k a n) (after (after σ k a n).tape (k + n) b i)
  unfolding after
  after-joined n whole zero = rw (add-zero n, after_first n (omega arith), append-nil (after σ k a n).events)
  after-joined n whole (suc i) =
      let e : k + suc (n + i) ≡ k + n + suc i = omega arith in
      rw (add-suc n i, after-joined n whole i, record-of-second a b n i whole, e, append_assoc)
