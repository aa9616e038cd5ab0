-- Any bytes have true times: the clock and the offset of the header's time. So what demand 3 asks of the calls can always be met. Assumes nothing.
use Prim.Native.Nat.{ℕ, ◌*◌, ◌^◌, ◌<◌, ◌-◌}
use mathlib.Core.Path.{◌≡◌, refl, sym, ap, ap₂, subst, ◌∙◌}
use mathlib.Core.List.{List, [], ◌∷◌, map, Memᴰ}
use native.Mathlib.Omega.{arith}
use lib.ListN.{length, take, drop}
use lib.IntN.{ℤ, pos, ◌+ℤ◌, ◌-ℤ◌}
use borrow.Author.Tests.{eqb-true}
use Rattle.rules.specs.Areas.{Bytes, bits, half, value, packet, stamp}
use Rattle.rules.specs.Calls.{Call, control, tick}
use Rattle.rules.specs.Given.{number_due, is_tick, ByteCall, TrueTime, TrueTimes, clock_after, Proper, untimed, Feedable}
use Rattle.rules.specs.Clock.{cut, minus, signed, offset}
use Rattle.rules.specs.Whole.{start, TickCall}
use Rattle.rules.proofs.AreaLaws.{length-packet, bytes-part, part-lt, full-bits}
use Rattle.rules.proofs.ByteLaws.{stamp-number}
use Rattle.rules.proofs.ClockLaws.{minus-lt, signed-view}
use Rattle.rules.proofs.GivenLaws.{number-due}
use Rattle.rules.proofs.Integers.{nat_eq, orders, add-nat, neg-nat, diff-nat}
use Rattle.rules.proofs.TimeLaws.{cut-back}
use Rattle.rules.proofs.Runs.{whole-area}

-- ---- the clock and an offset

-- By naturals.
sum-diff : (t o : ℤ) → (t +ℤ o) -ℤ t ≡ o
sum-diff t o = nat_eq ((t +ℤ o) -ℤ t) o (omega (arith, diff-nat (t +ℤ o) t, add-nat t o))

module _ (c : ℕ) where
  -- The calls from the clock T on, each with these times.
  unfoldable pub fed : ℤ → Call → Call
  fed T (control register v) = control register v
  fed T (tick k out ans) = tick (record { arriving = k.arriving; best_effort = k.best_effort; arrivals = k.arrivals; times = λ p. T +ℤ offset (bits c) (stamp c (packet k.arrivals p)) (cut (bits c) T) }) out ans

  unfoldable pub feed : ℤ → List Call → List Call
  feed T [] = []
  feed T (k ∷ ks) = fed T k ∷ feed (clock_after c T (fed T k)) ks

  -- Nothing else changes.
  fed-untimed : (T : ℤ) (k : Call) → untimed (fed T k) ≡ untimed k
  unfolding fed untimed
  fed-untimed T (control register v) = refl
  fed-untimed T (tick k out ans) = refl

  feed-untimed : (ks : List Call) (T : ℤ) → map untimed (feed T ks) ≡ map untimed ks
  unfolding feed
  feed-untimed [] T = refl
  feed-untimed (k ∷ ks) T = ap₂ (λ (k : Call) (l : List Call). k ∷ l) (fed-untimed T k) (feed-untimed ks (clock_after c T (fed T k)))

module _ (c : ℕ) (some_bytes : 0 < c) (few_bytes : c < 20) where
  -- The header's time is made of c bytes of the area.
  stamp-lt : (area : List ℕ) (p : ℕ) → length area ≡ 100 → p < 5 → Bytes area → stamp c (packet area p) < 2 ^ bits c
  unfolding stamp packet
  stamp-lt area p e hp h =
      let k = take 20 (drop (20 * p) area) in
      subst (λ (n : ℕ). value (take c (drop 1 k)) < n) (full-bits c some_bytes) (part-lt c 1 k (bytes-part 20 (20 * p) area h) (let l : length k ≡ 20 = length-packet area p (omega arith) in omega arith))

  -- The offset is in the signed range, and its sum with the clock is cut to the header's time.
  pub true-time : (T : ℤ) (k : TickCall) → ((p : ℕ) → k.times p ≡ T +ℤ offset (bits c) (stamp c (packet k.arrivals p)) (cut (bits c) T)) → length k.arrivals ≡ 100 → Bytes k.arrivals → (p : ℕ) → p < 5 → TrueTime c T k p
  unfolding half bits offset
  true-time T k u e h p hp =
      let x = stamp c (packet k.arrivals p) in
      let t = cut (bits c) T in
      let o : k.times p -ℤ T ≡ signed (bits c) (minus (bits c) x t) = ap (λ (z : ℤ). z -ℤ T) (u p) ∙ sum-diff T (offset (bits c) x t) in
      let (e', s, from, to) = signed-view (8 * c - 1) (minus (bits c) x t) (minus-lt (bits c) x t) in
      record {
        from = record { le = rw o (omega (arith, orders, neg-nat (pos (half c)))) };
        to = record { lt = rw o (omega (arith, orders)) };
        header = sym (stamp-number c k.arrivals p few_bytes (omega arith)) ∙ cut-back (8 * c - 1) T x (stamp-lt k.arrivals p e hp h) ∙ ap (cut (bits c)) (sym (u p));
      }

  -- By induction over the calls.
  pub feed-proper : (ks : List Call) (T : ℤ) → ((k : Call) → Memᴰ k ks → ByteCall c k) → Proper c T (feed c T ks)
  unfolding Proper feed fed ByteCall TrueTimes is_tick
  feed-proper [] T h = tt
  feed-proper (control register v ∷ ks) T h = (h (control register v) (Memᴰ.head refl), tt, feed-proper ks (clock_after c T (control register v)) (λ k m. h k (Memᴰ.tail m)))
  feed-proper (tick k out ans ∷ ks) T h =
      let b = h (tick k out ans) (Memᴰ.head refl) in
      (b, λ e p hp q. true-time T k' (λ p. refl) (whole-area c (start 0) k' out ans (number-due c (start 0) (tick k' out ans) ∙ eqb-true (number_due c (tick k' out ans)) 0 e)) b.2 p hp, feed-proper ks (clock_after c T (tick k' out ans)) (λ k m. h k (Memᴰ.tail m)))
    where
      k' : TickCall
      k' = record { arriving = k.arriving; best_effort = k.best_effort; arrivals = k.arrivals; times = λ p. T +ℤ offset (bits c) (stamp c (packet k.arrivals p)) (cut (bits c) T) }

  -- Each call is given its true times.
  pub feedable : Feedable c
  unfolding Feedable
  feedable T ks b = (feed c T ks, feed-untimed c ks T, feed-proper ks T b)
