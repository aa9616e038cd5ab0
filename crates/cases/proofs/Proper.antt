-- A test that a list of calls is proper, so that demand 3 speaks of it: each thing asked of a call is a test that can be computed. Assumes nothing.
use Prim.Native.Nat.{ℕ, zero, suc, ◌+◌, ◌*◌, ◌^◌, ◌<◌}
use mathlib.Core.Path.{◌≡◌, sym}
use mathlib.Core.Bool.{Bool, true, false, not, ◌&&◌, ◌||◌, true≢false}
use mathlib.Core.List.{List, [], ◌∷◌}
use native.Mathlib.Omega.{arith}
use lib.ListN.{length}
use lib.Dec.{ltb, eqb}
use lib.IntN.{ℤ, pos, neg_ℤ, ◌-ℤ◌}
use lib.Signed.{le_z, lt_z}
use borrow.Author.Tests.{ltb-true, eqb-true}
use Rattle.rules.specs.Clock.{cut}
use Rattle.rules.specs.Order.{all}
use Rattle.rules.specs.Areas.{byte, Bytes, bits, half, has}
use Rattle.rules.specs.Whole.{TickCall}
use Rattle.rules.specs.Calls.{Call, control, tick}
use Rattle.rules.specs.Given.{number, ByteCall, TrueTime, TrueTimes, clock_after, Proper}
use Rattle.rules.proofs.Booleans.{true→T, and_left, and_right}
use Rattle.rules.proofs.IndexLaws.{all-at}

unfoldable pub are_bytes : List ℕ → Bool
are_bytes [] = true
are_bytes (x ∷ xs) = ltb x 256 && are_bytes xs

module _ (c : ℕ) where
  unfoldable pub is_true_time : ℤ → TickCall → ℕ → Bool
  is_true_time T k p =
      le_z (neg_ℤ (pos (half c))) (k.times p -ℤ T)
      && (lt_z (k.times p -ℤ T) (pos (half c)) && eqb (number c k.arrivals (20 * p + 1)) (cut (bits c) (k.times p)))

  unfoldable pub is_proper_call : ℤ → Call → Bool
  is_proper_call T (control q v) = ltb q 256 && ltb v (2 ^ bits c)
  is_proper_call T (tick k out ans) =
      (ltb k.arriving 256 && (ltb k.best_effort 256 && (are_bytes k.arrivals && (are_bytes out && are_bytes ans))))
      && all 5 (λ p. not (has k.arriving p) || is_true_time T k p)

  unfoldable pub is_proper : ℤ → List Call → Bool
  is_proper T [] = true
  is_proper T (k ∷ ks) = is_proper_call T k && is_proper (clock_after c T k) ks

are-bytes : (l : List ℕ) → are_bytes l ≡ true → (i : ℕ) → i < length l → byte l i < 256
unfolding are_bytes
are-bytes [] e i h = absurd (omega arith)
are-bytes (x ∷ xs) e zero h = search (ltb-true, and_left)
are-bytes (x ∷ xs) e (suc i) h = are-bytes xs (search and_right) i (omega arith)

implied : (a b : Bool) → (not a || b) ≡ true → a ≡ true → b ≡ true
implied true b e h = e
implied false b e h = absurd (true≢false (sym h))

module _ (c : ℕ) where
  byte-call : (T : ℤ) (k : Call) → is_proper_call c T k ≡ true → ByteCall c k
  unfolding is_proper_call ByteCall Bytes
  byte-call T (control q v) e = search (ltb-true, and_left, and_right)
  byte-call T (tick k out ans) e = search (ltb-true, are-bytes, and_left, and_right)

  true-time : (T : ℤ) (k : TickCall) (p : ℕ) → is_true_time c T k p ≡ true → TrueTime c T k p
  unfolding is_true_time
  true-time T k p e = search (true→T, eqb-true, and_left, and_right)

  true-times : (T : ℤ) (k : Call) → is_proper_call c T k ≡ true → TrueTimes c T k
  unfolding is_proper_call TrueTimes
  true-times T (control q v) e = tt
  true-times T (tick k out ans) e =
      let f : ℕ → Bool = λ p. not (has k.arriving p) || is_true_time c T k p in
      let each : all 5 f ≡ true = search and_right in
      λ n p h t. true-time T k p (implied (has k.arriving p) (is_true_time c T k p) (all-at f 5 p each h) t)

  -- What passes the test is proper.
  pub proper : (ks : List Call) (T : ℤ) → is_proper c T ks ≡ true → Proper c T ks
  unfolding is_proper Proper
  proper [] T e = tt
  proper (k ∷ ks) T e =
      let first : is_proper_call c T k ≡ true = search and_left in
      (byte-call T k first, true-times T k first, proper ks (clock_after c T k) (search and_right))
