-- Blank bytes one after the other, and what is known of an accepted record. Assumes nothing.
use Prim.Native.Nat.{ℕ, suc, ◌-◌, ◌≤◌, ◌<◌}
use mathlib.Core.Path.{◌≡◌, refl}
use mathlib.Core.Bool.{Bool, true, false, cond, ◌&&◌}
use mathlib.Core.List.{List}
use native.Mathlib.Omega.{arith}
use lib.ListN.{length}
use lib.Seq.{drop-cons}
use lib.Dec.{leb, eqb}
use borrow.Author.Tests.{eqb-true, leb-true}
use Rattle.rules.specs.Areas.{byte, has}
use Rattle.rules.proofs.Booleans.{and_right}
use Rattle.records.specs.Records.{record_length, arrival_kind, blank_part, arrival_refusal, kind_refusal, record_refusal}

-- The part between two places is blank: where it is empty, and by its first byte.
module _ (r : List ℕ) (i to : ℕ) where
  pub blank-empty : to ≤ i → blank_part r i to ≡ true
  blank-empty h = let e : to - i ≡ 0 = omega arith in rw e

  pub blank-first : i < to → to ≤ length r → blank_part r i to ≡ (eqb (byte r i) 0 && blank_part r (suc i) to)
  blank-first h l =
      let e : to - i ≡ suc (to - suc i) = omega arith in
      let k : i < length r = omega arith in
      rw (e, drop-cons r i 0 k)

-- An answer of 0 was reached by a yes, or by a no.
answered-yes : (b : Bool) (m n : ℕ) → cond b m (suc n) ≡ 0 → (b ≡ true) × (m ≡ 0)
answered-yes true m n e = (refl, e)
answered-yes false m n e = absurd (omega arith)

answered-no : (b : Bool) (n : ℕ) → cond b (suc n) 0 ≡ 0 → b ≡ false
answered-no true n e = absurd (omega arith)
answered-no false n e = refl

-- An accepted record is whole; an accepted arrival's port is one of the five, without a packet.
module _ (pending : ℕ) (r : List ℕ) (accepted : record_refusal pending r ≡ 0) where
  whole-and-kind : (eqb (length r) record_length ≡ true) × (kind_refusal pending r ≡ 0)
  unfolding record_refusal
  whole-and-kind = answered-yes (eqb (length r) record_length) (kind_refusal pending r) 8 accepted

  pub accepted-length : length r ≡ record_length
  accepted-length = eqb-true (length r) record_length whole-and-kind.0

  pub accepted-port : byte r 0 ≡ arrival_kind → (byte r 1 ≤ 4) × (has pending (byte r 1) ≡ false)
  unfolding kind_refusal arrival_refusal
  accepted-port e =
      let used = answered-yes (blank_part r 2 4 && leb (byte r 1) 4) (cond (has pending (byte r 1)) 12 0) 10 (rw e at whole-and-kind.1) in
      (search (leb-true, and_right), answered-no (has pending (byte r 1)) 11 used.1)
