-- A packet's times cut to clock readings, against its whole-number times: they lie within half a turn of the clock, where a difference of cut times is the difference. Assumes nothing.
use Prim.Native.Nat.{ℕ, suc, ◌+◌, ◌*◌, ◌%◌, ◌^◌, ◌<◌, ◌-◌}
use mathlib.Core.Path.{◌≡◌, refl, sym, ap, subst, ◌∙◌}
use mathlib.Core.Bool.{Bool, true, false, ◌&&◌}
use native.Mathlib.Nat.{mod-eq_of_lt, add-mul-mod_self_right}
use native.Mathlib.Omega.{arith}
use lib.Pow.{pow_pos}
use lib.Dec.{T, eqb}
use lib.IntN.{ℤ, pos, neg_ℤ, suc_ℤ, ◌+ℤ◌, ◌-ℤ◌, +ℤ_one}
use lib.Signed.{le_z, lt_z}
use borrow.Author.Tests.{eq-eqb, ne_eqb}
use Rattle.rules.specs.Areas.{bits, half}
use Rattle.rules.specs.Clock.{cut, plus, minus, signed, offset}
use Rattle.rules.specs.Whole.{Packet, is_due}
use Rattle.rules.proofs.ClockLaws.{turns, pow-double, cut-view, minus-view, signed-view, offset-true, key-true}
use Rattle.rules.proofs.Integers.{up, down, nat_eq, orders, add-nat, neg-nat, diff-nat, antisym, not-le}
use Rattle.rules.proofs.Good.{InWindow}

-- ---- cutting

-- A whole number that differs from x by whole turns is cut as x is.
pub cut_of : (b : ℕ) (z : ℤ) (x k q : ℕ) → up z + q * 2 ^ b ≡ down z + (x + k * 2 ^ b) → cut b z ≡ x % 2 ^ b
cut_of b z x k q e =
    let (i, j, f, l) = cut-view b z in
    let t : cut b z + (i + q) * 2 ^ b ≡ x + (k + j) * 2 ^ b = omega arith in
    sym (mod-eq_of_lt l) ∙ sym (add-mul-mod_self_right (cut b z) (i + q) (2 ^ b)) ∙ ap (λ (n : ℕ). n % 2 ^ b) t ∙ add-mul-mod_self_right x (k + j) (2 ^ b)

-- The sum that turns over is the sum, cut.
pub plus-cut : (b : ℕ) (z : ℤ) (d : ℕ) → plus b (cut b z) d ≡ cut b (z +ℤ pos d)
unfolding plus
plus-cut b z d = let (i, j, f, l) = cut-view b z in sym (cut_of b (z +ℤ pos d) (cut b z + d) i j (omega (arith, add-nat z (pos d))))

-- The clock that turns over is the clock, cut.
pub cut-suc : (b : ℕ) (z : ℤ) → plus b (cut b z) 1 ≡ cut b (suc_ℤ z)
cut-suc b z = plus-cut b z 1 ∙ ap (cut b) (+ℤ_one z)

-- A reading is its own cut.
pub cut-pos : (b t : ℕ) → t < 2 ^ b → cut b (pos t) ≡ t
unfolding cut
cut-pos b t l = mod-eq_of_lt l

-- A difference that turned over, added back, turns over to what it was taken from.
pub plus-minus : (b x y : ℕ) → x < 2 ^ b → y < 2 ^ b → plus b y (minus b x y) ≡ x
unfolding plus
plus-minus b x y hx hy =
    let (q, e, l) = minus-view b x y hx hy in
    let f : y + minus b x y ≡ x + q * 2 ^ b = omega arith in
    ap (λ (n : ℕ). n % 2 ^ b) f ∙ add-mul-mod_self_right x q (2 ^ b) ∙ mod-eq_of_lt hx

-- The clock and the offset of x make x again, cut.
pub cut-back : (k : ℕ) (t : ℤ) (x : ℕ) → x < 2 ^ suc k → x ≡ cut (suc k) (t +ℤ offset (suc k) x (cut (suc k) t))
unfolding offset
cut-back k t x h =
    let (i, j, f, b) = cut-view (suc k) t in
    let l = minus (suc k) x (cut (suc k) t) in
    let (q, g, m) = minus-view (suc k) x (cut (suc k) t) h b in
    let (e, s, low, high) = signed-view k l m in
    sym (cut_of (suc k) (t +ℤ signed (suc k) l) x (q + i) (j + e) (omega (arith, add-nat t (signed (suc k) l))) ∙ mod-eq_of_lt h)

-- Of two numbers less than a turn apart, the later is cut as the other is only where they are equal.
cut-same : (b : ℕ) (u v : ℤ) → T (lt_z (u -ℤ v) (pos (2 ^ b))) → T (le_z v u) → eqb (cut b u) (cut b v) ≡ (le_z u v && le_z v u)
cut-same b u v l h = go (le_z u v) refl (le_z v u) h
  where
    equal : cut b u ≡ cut b v → u ≡ v
    equal q =
        let (i, j, f, a) = cut-view b u in
        let (k, n, g, d) = cut-view b v in
        let e = diff-nat u v in
        nat_eq u v (turns (2 ^ b) (up u + down v) (up v + down u) (j + k) (n + i) (omega arith) (omega (arith, orders)) (omega (arith, orders, pow_pos b)))

    go : (s : Bool) → le_z u v ≡ s → (t : Bool) → T t → eqb (cut b u) (cut b v) ≡ (s && t)
    go true e true tv = eq-eqb (cut b u) (cut b v) (ap (cut b) (antisym u v (subst T (sym e) tt) h))
    go false e true tv = ne_eqb (cut b u) (cut b v) (λ q. let k = not-le u v e in let z = subst (λ (z : ℤ). T (lt_z z u)) (sym (equal q)) k in omega (arith, orders))
    go s e false tv = absurd tv

-- ---- a packet's readings

module _ (c : ℕ) (u t : ℤ) where
  -- The offset of a true time.
  pub offset-difference : T (le_z (neg_ℤ (pos (half c))) (u -ℤ t)) → T (lt_z (u -ℤ t) (pos (half c))) → offset (bits c) (cut (bits c) u) (cut (bits c) t) ≡ u -ℤ t
  unfolding half bits
  offset-difference from to = offset-true (8 * c - 1) u t (record { le = from }) (record { lt = to })

  -- The key of a time from the clock on, less than a turn ahead.
  key-difference : T (le_z t u) → T (lt_z (u -ℤ t) (pos (2 ^ bits c))) → pos (minus (bits c) (cut (bits c) u) (cut (bits c) t)) ≡ u -ℤ t
  key-difference from to = key-true (bits c) u t (record { le = omega (arith, orders, diff-nat u t) }) (record { lt = to })

-- A turn is two halves.
turn : (c : ℕ) → 2 ^ bits c ≡ half c + half c
unfolding half bits
turn c = pow-double (8 * c - 1)

-- The half is not 0.
pub half_pos : (c : ℕ) → 0 < half c
unfolding half
half_pos c = pow_pos (8 * c - 1)

module _ (c : ℕ) (t : ℤ) (x : Packet) (F : InWindow c t (half c) x) where
  -- Its deadline is its time and the delay.
  sum : up x.deadline + down x.time ≡ down x.deadline + (up x.time + F.delay)
  sum = let a = add-nat x.time (pos F.delay) in rw F.sum (omega arith)

  -- Its offset is at least - d.
  pub window-from : T (le_z (neg_ℤ (pos F.delay)) (x.time -ℤ t))
  window-from = let l = F.due in omega (arith, orders, sum, diff-nat x.time t, neg-nat (pos F.delay))

  -- Its offset is its time less the clock.
  pub window-offset : offset (bits c) (cut (bits c) x.time) (cut (bits c) t) ≡ x.time -ℤ t
  window-offset = offset-difference c x.time t (let l = window-from in omega (arith, orders, F.small, neg-nat (pos F.delay), neg-nat (pos (half c)))) F.soon

  -- Early, its time without sign is its time less the clock.
  pub window-early : T (lt_z t x.time) → pos (minus (bits c) (cut (bits c) x.time) (cut (bits c) t)) ≡ x.time -ℤ t
  window-early l = key-difference c x.time t (omega (arith, orders)) (let s = F.soon in omega (arith, orders, turn c))

  -- Its deadline is less than a turn ahead.
  near : T (lt_z (x.deadline -ℤ t) (pos (2 ^ bits c)))
  near = let s = F.soon in omega (arith, orders, sum, F.small, diff-nat x.deadline t, diff-nat x.time t, turn c)

  -- So, without sign, it is its deadline less the clock, of either sort.
  pub window-deadline : pos (minus (bits c) (cut (bits c) x.deadline) (cut (bits c) t)) ≡ x.deadline -ℤ t
  window-deadline = key-difference c x.deadline t F.due near

  -- And it reads as the clock only where it is the clock.
  pub window-due : eqb (cut (bits c) x.deadline) (cut (bits c) t) ≡ is_due t x
  unfolding is_due
  window-due = cut-same (bits c) x.deadline t near F.due

  -- The delay, read back from the two readings.
  pub window-delay : minus (bits c) (cut (bits c) x.deadline) (cut (bits c) x.time) ≡ F.delay
  window-delay =
      let d = diff-nat x.deadline x.time in
      let k = key-difference c x.deadline x.time (omega (arith, orders, sum)) (omega (arith, orders, sum, F.small, turn c)) in
      omega (arith, ap up k, ap down k, sum)
