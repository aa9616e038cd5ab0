-- The signed reading of a number of b bits, by tests of the number: from half a turn on it is below zero, by what is left of the turn. Assumes nothing.
use Prim.Native.Nat.{ℕ, zero, suc, ◌+◌, ◌-◌, ◌*◌, ◌/◌, ◌%◌, ◌^◌, ◌<◌, ◌≤◌}
use mathlib.Core.Path.{◌≡◌, refl, sym, ap, ap₂, ◌∙◌}
use mathlib.Core.Bool.{Bool, true, not, not-not, ◌&&◌, ◌||◌, or-true, or-false}
use native.Mathlib.Decide.{dec_lt}
use native.Mathlib.Omega.{arith}
use native.Mathlib.Nat.{mod-lt, div-add-mod'}
use lib.Pow.{pow_pos}
use lib.Dec.{leb, ltb, eqb, leb-suc-suc}
use lib.IntN.{ℤ, pos, negsuc, neg_ℤ, ◌+ℤ◌}
use lib.Signed.{le_z, lt_z}
use borrow.Author.Tests.{lt-ltb, le-ltb, lt-leb, le-leb, eq-eqb, ne_eqb}
use Rattle.rules.specs.Clock.{plus, minus, signed, offset}
use Rattle.rules.specs.Areas.{bits, half}
use Rattle.rules.proofs.ClockLaws.{turns, pow-double, minus-view, minus-lt, signed-view}
use Rattle.rules.proofs.Integers.{up, down, nat_eq, add-nat, sum_lt}

-- At least - d.
not-below : (d x : ℕ) → le_z (neg_ℤ (pos d)) (pos x) ≡ true
not-below zero x = le-leb 0 x (omega arith)
not-below (suc d) x = refl

below : (d y : ℕ) → le_z (neg_ℤ (pos d)) (negsuc y) ≡ leb (suc y) d
below zero y = sym (lt-leb (suc y) 0 (omega arith))
below (suc d) y = sym (leb-suc-suc y d)

-- No less than 0 is 0.
at_zero : (x : ℕ) → leb x 0 ≡ eqb x 0
at_zero zero = le-leb 0 0 (omega arith) ∙ sym (eq-eqb 0 0 refl)
at_zero (suc x) = lt-leb (suc x) 0 (omega arith) ∙ sym (ne_eqb (suc x) 0 (λ e. absurd (omega arith)))

-- A reading x of suc k bits.
module _ (k x : ℕ) (h : x < 2 ^ suc k) where
  -- By cases of the sign.
  at_least : (d : ℕ) → le_z (neg_ℤ (pos d)) (signed (suc k) x) ≡ (ltb x (2 ^ k) || leb (2 ^ suc k - x) d)
  unfolding signed
  at_least d = go (dec_lt x (2 ^ k))
    where
      go : Dec (x < 2 ^ k) → le_z (neg_ℤ (pos d)) (signed (suc k) x) ≡ (ltb x (2 ^ k) || leb (2 ^ suc k - x) d)
      go (yes l) = rw (lt-ltb x (2 ^ k) l) (not-below d x)
      go (no n) =
          let e : suc (2 ^ suc k - suc x) ≡ 2 ^ suc k - x = omega arith in
          rw (le-ltb x (2 ^ k) (omega arith), lt-ltb x (2 ^ suc k) h) (below d (2 ^ suc k - suc x) ∙ ap (λ (y : ℕ). leb y d) e)

  pub at-most-0 : le_z (signed (suc k) x) (pos 0) ≡ (eqb x 0 || leb (2 ^ k) x)
  unfolding signed
  at-most-0 = go (dec_lt x (2 ^ k))
    where
      go : Dec (x < 2 ^ k) → le_z (signed (suc k) x) (pos 0) ≡ (eqb x 0 || leb (2 ^ k) x)
      go (yes l) = rw (lt-ltb x (2 ^ k) l, lt-leb (2 ^ k) x l) (at_zero x ∙ sym (or-false (eqb x 0)))
      go (no n) = rw (le-ltb x (2 ^ k) (omega arith), lt-ltb x (2 ^ suc k) h, le-leb (2 ^ k) x (omega arith)) (sym (or-true (eqb x 0)))

-- One order is the other's no.
flip : (a b : ℕ) → ltb a b ≡ not (leb b a)
flip a b = go (dec_lt a b)
  where
    go : Dec (a < b) → ltb a b ≡ not (leb b a)
    go (yes l) = rw (lt-ltb a b l, lt-leb b a l)
    go (no n) = let h : b ≤ a = omega arith in rw (le-ltb a b h, le-leb b a h)

pub above : (a b : ℤ) → lt_z a b ≡ not (le_z b a)
above (pos a) (pos b) = flip a b
above (pos a) (negsuc b) = refl
above (negsuc a) (pos b) = refl
above (negsuc a) (negsuc b) = flip b a

pub at_most : (t u : ℤ) (d : Bool) → lt_z t u ≡ d → le_z u t ≡ not d
at_most t u d e = sym (not-not (le_z u t)) ∙ ap not (sym (above t u) ∙ e)

-- The offset of the time a at t, by their difference x, at a clock reading of c bytes.
module _ (c a t x : ℕ) (e : x ≡ minus (bits c) a t) where
  pub difference-lt : x < 2 ^ bits c
  difference-lt = rw e (minus-lt (bits c) a t)

  offset-signed : offset (bits c) a t ≡ signed (bits c) x
  unfolding offset
  offset-signed = ap (signed (bits c)) (sym e)

  pub offset-at-most-0 : le_z (offset (bits c) a t) (pos 0) ≡ (eqb x 0 || leb (half c) x)
  unfolding bits half
  offset-at-most-0 = rw offset-signed (at-most-0 (8 * c - 1) x difference-lt)

  pub offset-at-least : (d : ℕ) → le_z (neg_ℤ (pos d)) (offset (bits c) a t) ≡ (ltb x (half c) || leb (2 ^ bits c - x) d)
  unfolding bits half
  offset-at-least d = rw offset-signed (at_least (8 * c - 1) x difference-lt d)

-- ---- the order of offsets

-- The signed reading and half a turn, from 0 to less than a turn.
raised : (k x : ℕ) → x < 2 ^ suc k → pos (plus (suc k) x (2 ^ k)) ≡ signed (suc k) x +ℤ pos (2 ^ k)
unfolding plus
raised k x h =
    let s = signed (suc k) x in
    let (e, f, low, high) = signed-view k x h in
    let a = add-nat s (pos (2 ^ k)) in
    let m = mod-lt (x + 2 ^ k) (pow_pos (suc k)) in
    nat_eq (pos ((x + 2 ^ k) % 2 ^ suc k)) (s +ℤ pos (2 ^ k))
    (turns (2 ^ suc k) ((x + 2 ^ k) % 2 ^ suc k + down (s +ℤ pos (2 ^ k))) (up (s +ℤ pos (2 ^ k)) + 0) ((x + 2 ^ k) / 2 ^ suc k) e
    (omega (arith, div-add-mod' (x + 2 ^ k) (2 ^ suc k))) (omega arith) (omega (arith, pow-double k)))

-- So offsets are in the order of differences that count from half a turn before the clock.
pub raised-order : (c x y t : ℕ) → ltb (plus (bits c) (minus (bits c) x t) (half c)) (plus (bits c) (minus (bits c) y t) (half c)) ≡ lt_z (offset (bits c) x t) (offset (bits c) y t)
unfolding offset bits half
raised-order c x y t =
    let k = 8 * c - 1 in
    ap₂ lt_z (raised k (minus (suc k) x t) (minus-lt (suc k) x t)) (raised k (minus (suc k) y t) (minus-lt (suc k) y t)) ∙ sum_lt (pos (2 ^ k)) (offset (suc k) x t) (offset (suc k) y t)

-- ---- the window of a stored packet's time

-- A time less the clock, and the same d later: z + d, but for a turn.
module _ (b x t d : ℕ) (hx : x < 2 ^ b) (ht : t < 2 ^ b) (hd : d < 2 ^ b) where
  later-difference : (q p : ℕ) × (minus b (plus b x d) t + p * 2 ^ b ≡ minus b x t + d + q * 2 ^ b)
  unfolding plus
  later-difference =
      let (q, e, h) = minus-view b x t hx ht in
      let (r, f, k) = minus-view b ((x + d) % 2 ^ b) t (mod-lt (x + d) (pow_pos b)) ht in
      let g = div-add-mod' (x + d) (2 ^ b) in
      (r, (x + d) / 2 ^ b + q, omega arith)

  pub later-inside : minus b x t + d < 2 ^ b → minus b (plus b x d) t ≡ minus b x t + d
  later-inside l =
      let (q, p, e) = later-difference in
      let h = minus-lt b (plus b x d) t in
      turns (2 ^ b) (minus b (plus b x d) t) (minus b x t + d) p q e (omega arith) (omega arith)

  pub later-turned : 2 ^ b ≤ minus b x t + d → minus b (plus b x d) t + 2 ^ b ≡ minus b x t + d
  later-turned l =
      let (q, p, e) = later-difference in
      let h = minus-lt b (plus b x d) t in
      let k = minus-lt b x t in
      turns (2 ^ b) (minus b (plus b x d) t + 2 ^ b) (minus b x t + d) p (suc q) (omega arith) (omega arith) (omega arith)

-- At most 2 ^ k - 2.
at-near : (k x : ℕ) → 2 ≤ 2 ^ k → x < 2 ^ suc k → le_z (signed (suc k) x) (pos (2 ^ k - 2)) ≡ not (eqb x (2 ^ k - 1))
unfolding signed
at-near k x n h = go (dec_lt x (2 ^ k - 1)) (dec_lt x (2 ^ k))
  where
    go : Dec (x < 2 ^ k - 1) → Dec (x < 2 ^ k) → le_z (signed (suc k) x) (pos (2 ^ k - 2)) ≡ not (eqb x (2 ^ k - 1))
    go (yes m) d = rw (lt-ltb x (2 ^ k) (omega arith), ne_eqb x (2 ^ k - 1) (λ e. omega arith)) (le-leb x (2 ^ k - 2) (omega arith))
    go (no m) (yes l) = rw (lt-ltb x (2 ^ k) l, eq-eqb x (2 ^ k - 1) (omega arith)) (lt-leb x (2 ^ k - 2) (omega arith))
    go (no m) (no l) = rw (le-ltb x (2 ^ k) (omega arith), lt-ltb x (2 ^ suc k) h, ne_eqb x (2 ^ k - 1) (λ e. omega arith))

-- Where z is a time less the clock and w is z + d but for a turn: w is below d + 2 ^ k - 1 just if z is below 2 ^ k - 1 or w turns over.
window : (k z d w : ℕ) → 2 ≤ 2 ^ k → z < 2 ^ suc k → d < 2 ^ k → (z + d < 2 ^ suc k → w ≡ z + d) → (2 ^ suc k ≤ z + d → w + 2 ^ suc k ≡ z + d)
    → ltb w (d + (2 ^ k - 1)) ≡ ((ltb z (2 ^ k) || leb (2 ^ suc k - z) d) && not (eqb z (2 ^ k - 1)))
window k z d w n hz hd inside turned = go (dec_lt z (2 ^ k - 1)) (dec_lt z (2 ^ k)) (dec_lt (z + d) (2 ^ suc k))
  where
    two : 2 ^ suc k ≡ 2 ^ k + 2 ^ k
    two = pow-double k

    go : Dec (z < 2 ^ k - 1) → Dec (z < 2 ^ k) → Dec (z + d < 2 ^ suc k) → ltb w (d + (2 ^ k - 1)) ≡ ((ltb z (2 ^ k) || leb (2 ^ suc k - z) d) && not (eqb z (2 ^ k - 1)))
    go (yes l) m (yes i) = let e = inside i in rw (lt-ltb w (d + (2 ^ k - 1)) (omega arith), lt-ltb z (2 ^ k) (omega arith), ne_eqb z (2 ^ k - 1) (λ q. omega arith))
    go (yes l) m (no i) = absurd (omega (arith, two))
    go (no l) (yes m) (yes i) = let e = inside i in rw (le-ltb w (d + (2 ^ k - 1)) (omega arith), lt-ltb z (2 ^ k) m, eq-eqb z (2 ^ k - 1) (omega arith))
    go (no l) (yes m) (no i) = absurd (omega (arith, two))
    go (no l) (no m) (yes i) = let e = inside i in rw (le-ltb w (d + (2 ^ k - 1)) (omega arith), le-ltb z (2 ^ k) (omega arith), lt-leb (2 ^ suc k - z) d (omega arith))
    go (no l) (no m) (no i) =
        let e = turned (omega arith) in
        rw (lt-ltb w (d + (2 ^ k - 1)) (omega arith), le-ltb z (2 ^ k) (omega arith), le-leb (2 ^ suc k - z) d (omega arith), ne_eqb z (2 ^ k - 1) (λ q. omega arith))

-- So the offset of the time x at t is - d to half - 2 just if x + d less t is below d + half - 1.
pub offset-window : (c x t d y w : ℕ) → 2 ≤ half c → x < 2 ^ bits c → t < 2 ^ bits c → d < half c → y ≡ plus (bits c) x d → w ≡ minus (bits c) y t
    → ltb w (d + (half c - 1)) ≡ (le_z (neg_ℤ (pos d)) (offset (bits c) x t) && le_z (offset (bits c) x t) (pos (half c - 2)))
unfolding offset bits half
offset-window c x t d y w n hx ht hd p e =
    let k = 8 * c - 1 in
    let z = minus (suc k) x t in
    let l : d < 2 ^ suc k = omega (arith, pow-double k) in
    rw (e, p, at_least k z (minus-lt (suc k) x t) d, at-near k z n (minus-lt (suc k) x t))
    (window k z d (minus (suc k) (plus (suc k) x d) t) n (minus-lt (suc k) x t) hd (later-inside (suc k) x t d hx ht l) (later-turned (suc k) x t d hx ht l))
