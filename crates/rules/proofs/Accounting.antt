-- What a tick does with a packet on a port: as often as it is left before and accepted, it is left after, sent and withdrawn. Assumes nothing.
use Prim.Native.Nat.{ℕ, zero, suc, ◌+◌, ◌<◌, ◌≤◌}
use mathlib.Core.Path.{◌≡◌, refl, sym, ap, subst, ◌∙◌}
use mathlib.Core.Bool.{Bool, true, false, cond, ◌&&◌, ◌||◌, true≢false, and-false}
use mathlib.Core.List.{List, [], ◌∷◌, ◌++◌}
use mathlib.Core.Option.{Option, none, some}
use native.Mathlib.Decide.{ℕ_discrete}
use native.Mathlib.Omega.{arith}
use lib.Dec.{eqb}
use lib.IntN.{ℤ}
use borrow.Author.Tests.{eq-eqb, ne_eqb, eqb-true, le-ltb}
use Rattle.rules.specs.Account.{same_packet, is_sent, times, is_left, left_on, Kept}
use Rattle.rules.specs.Areas.{packet, has, Grant, nobody, best_effort, on_time, early}
use Rattle.rules.specs.Order.{count, counted}
use Rattle.rules.specs.Whole.{Packet, Held, Router, TickCall, Arrival, absent, refused, accepted, placed, admitted, to_serve, lose, sent, served, is_due, due, withdrawn, remaining, emptied, meets, arrived}
use Rattle.rules.proofs.IndexLaws.{count-only, counted-false}
use Rattle.rules.proofs.Masks.{has-without-same, has-without-other, has-zero}
use Rattle.rules.proofs.WholeLaws.{AllHeld, tally, tally-put, fresh-held, loses, lost-in, first-place, first-empty, emptied-at, arrival-passed, arrival-room}
use Rattle.rules.proofs.Grants.{Rests, grant-rests, to_serve-held}
use Rattle.rules.proofs.Good.{Good, Input, after, arrivals-kept, serving, chosen, served-window}

-- The arrival is x's, and of a packet with the test m.
unfoldable pub taken : (Packet → Bool) → Packet → Arrival → Bool
taken m x absent = false
taken m x (refused q) = false
taken m x (accepted y) = m y && same_packet x y

abbrev pub for-port : ℕ → Packet → Bool
for-port p y = has y.mask p

-- ---- what a tick does to the places with a test

-- An arrival adds the packet that it brings: it takes an empty place.
admitted-tally : (t : Option Held → Bool) (m : Packet → Bool) (x : Packet) → t none ≡ false → ((y : Packet) → t (some (fresh-held y)) ≡ (m y && same_packet x y)) → (a : Arrival) (w : Router) → Kept w.place w.free
    → ((y : Packet) → a ≡ accepted y → w.free ≡ [] → ⊥) → tally t (admitted a w).place ≡ tally t w.place + counted (taken m x a)
unfolding admitted placed taken counted
admitted-tally t m x e₀ e₁ absent w K r = omega arith
admitted-tally t m x e₀ e₁ (refused q) w K r = omega arith
admitted-tally t m x e₀ e₁ (accepted y) w K r = go w.free refl
  where
    go : (l : List ℕ) → w.free ≡ l → tally t (placed l y w).place ≡ tally t w.place + counted (m y && same_packet x y)
    go [] e = absurd (r y refl e)
    go (i ∷ l) e =
        let K' = subst (Kept w.place) e K in
        let h = tally-put t w.place i (some (fresh-held y)) (first-place K') in
        let a = ap counted (ap t (first-empty K') ∙ e₀) in
        let b = ap counted (e₁ y) in
        omega arith

-- ---- the places where x is left on port p

module _ (p : ℕ) (x : Packet) where
  abbrev left : Option Held → Bool
  left v = is_left x (to_serve v p)

  -- x is left there with its port.
  left-some : (h : Held) → left (some h) ≡ (has h.left p && same_packet x h.packet)
  unfolding is_left to_serve
  left-some h = go (has h.left p)
    where
      go : (t : Bool) → is_left x (cond t (some h.packet) none) ≡ (t && same_packet x h.packet)
      go true = refl
      go false = refl

  left-none : left none ≡ false
  unfolding is_left to_serve
  left-none = refl

  module _ (hp : p < 5) where
    -- Losing port q takes x from port p only where q is p and the packet that waits is x.
    lose-left : (q : ℕ) → q < 5 → (v : Option Held) (y : Packet) → to_serve v q ≡ some y → ((h : Held) → v ≡ some h → h.left ≤ 31)
        → counted (left (lose q v)) + counted (eqb q p && same_packet x y) ≡ counted (left v)
    unfolding lose counted
    lose-left q hq v y e m = let (h, ev, ey, t) = to_serve-held v q y e in go h ev ey t (ℕ_discrete p q)
      where
        go : (h : Held) → v ≡ some h → h.packet ≡ y → has h.left q ≡ true → Dec (p ≡ q) → counted (left (lose q v)) + counted (eqb q p && same_packet x y) ≡ counted (left v)
        go h ev ey t (yes d) = rw (ev, ← ey, left-some (loses q h), left-some h, d, has-without-same h.left q (m h ev) hq, t, eq-eqb q q refl) (omega arith)
        go h ev ey t (no d) = rw (ev, ← ey, left-some (loses q h), left-some h, has-without-other h.left q p (m h ev) hq hp d, ne_eqb q p (λ k. d (sym k))) (omega arith)

    -- Where a packet y waits for port q, that port is lost once.
    lost-left : (q : ℕ) → q < 5 → (w : Router) → AllHeld (λ h. h.left ≤ 31) w.place → (i : ℕ) (y : Packet) → i < 256 → to_serve (w.place i) q ≡ some y
        → left_on p x (lost-in i q w).place + counted (eqb q p && same_packet x y) ≡ left_on p x w.place
    unfolding left_on tally
    lost-left q hq w m i y l e = let h = tally-put left w.place i (lose q (w.place i)) l in let k = lose-left q hq (w.place i) y e (m i l) in omega arith

    -- Sending takes what it sends away.
    sent-left : (q : ℕ) → q < 5 → (g : Grant (ℕ × Packet)) (w : Router) → Rests w q g → AllHeld (λ h. h.left ≤ 31) w.place
        → left_on p x (sent q g w).place + counted (eqb q p && is_sent x g) ≡ left_on p x w.place
    unfolding sent is_sent
    sent-left q hq nobody w R m = omega (arith, ap counted (and-false (eqb q p)), counted-false)
    sent-left q hq best_effort w R m = omega (arith, ap counted (and-false (eqb q p)), counted-false)
    sent-left q hq (on_time (i, y)) w R m = lost-left q hq w m i y R.0 R.1
    sent-left q hq (early (i, y)) w R m = lost-left q hq w m i y R.0 R.1

    -- By induction over the first list.
    times-append : (a b : List Packet) → times x (a ++ b) ≡ times x a + times x b
    unfolding times
    times-append [] b = omega arith
    times-append (y ∷ a) b = let h = times-append a b in omega arith

    -- What is left of a place, and what is withdrawn from it, is what it had.
    remaining-left : (T : ℤ) (v : Option Held) → counted (left (remaining T v)) + times x (due T (to_serve v p)) ≡ counted (left v)
    unfolding remaining due times to_serve is_left counted
    remaining-left T none = refl
    remaining-left T (some h) = go (has h.left p) refl (is_due T h.packet) refl (eqb h.left 0) refl
      where
        go : (s : Bool) → has h.left p ≡ s → (t : Bool) → is_due T h.packet ≡ t → (z : Bool) → eqb h.left 0 ≡ z
            → counted (is_left x (to_serve (cond (is_due T h.packet || z) none (some h)) p)) + times x (due T (cond s (some h.packet) none)) ≡ counted (is_left x (cond s (some h.packet) none))
        go true es true et z ez = rw et (omega arith)
        go true es false et true ez = let q : has h.left p ≡ false = ap (λ (n : ℕ). has n p) (eqb-true h.left 0 ez) ∙ has-zero p hp in absurd (true≢false (sym es ∙ q))
        go true es false et false ez = rw (et, es) (omega arith)
        go false es true et z ez = rw et refl
        go false es false et true ez = rw et refl
        go false es false et false ez = rw (et, es) refl

    -- By induction over the places: each loses what is withdrawn from it.
    emptied-left : (T : ℤ) (n : ℕ) (w : Router) → n ≤ 256 → left_on p x (emptied T n w).place + times x (withdrawn T w.place p n) ≡ left_on p x w.place
    unfolding emptied withdrawn times left_on tally
    emptied-left T zero w l = omega arith
    emptied-left T (suc n) w l =
        let f = (emptied T n w).place in
        let e : f n ≡ w.place n = emptied-at T n w n ∙ ap (λ (t : Bool). cond t (remaining T (w.place n)) (w.place n)) (le-ltb n n (omega arith)) in
        let a = emptied-left T n w (omega arith) in
        let b = tally-put left f n (remaining T (f n)) (omega arith) in
        let d = remaining-left T (f n) in
        let g = times-append (withdrawn T w.place p n) (due T (to_serve (w.place n) p)) in
        let k : times x (due T (to_serve (f n) p)) ≡ times x (due T (to_serve (w.place n) p)) = ap (λ v. times x (due T (to_serve v p))) e in
        omega arith

-- ---- the whole tick

module _ (c : ℕ) (w : Router) (call : TickCall) (G : Good c w) (I : Input c w.clock call) where
  abbrev now : ℕ → Router
  now = after c w call

  abbrev then : ℕ → Router
  then = serving c w call

  abbrev brought : (Packet → Bool) → Packet → ℕ → ℕ
  brought m x n = count n (λ q. taken m x (meets c call (now q) q))

  -- The arrivals add what they bring.
  arrivals-tally : (t : Option Held → Bool) (m : Packet → Bool) (x : Packet) → t none ≡ false → ((y : Packet) → t (some (fresh-held y)) ≡ (m y && same_packet x y)) → (n : ℕ) → tally t (now n).place ≡ tally t w.place + brought m x n
  unfolding arrived count
  arrivals-tally t m x e₀ e₁ zero = omega arith
  arrivals-tally t m x e₀ e₁ (suc n) =
      let a = arrivals-tally t m x e₀ e₁ n in
      let b = admitted-tally t m x e₀ e₁ (meets c call (now n) n) (now n) (arrivals-kept c w call G I n) (λ y e. arrival-room c (now n) (packet call.arrivals n) (call.times n) (arrival-passed c (now n) call.arriving n (packet call.arrivals n) (call.times n) y e).refusal) in
      omega arith

  module _ (p : ℕ) (hp : p < 5) (x : Packet) where
    pub arrivals-left : (n : ℕ) → left_on p x (now n).place ≡ left_on p x w.place + brought (for-port p) x n
    unfolding left_on tally
    arrivals-left = arrivals-tally (left p x) (for-port p) x (left-none p x) (λ y. left-some p x (fresh-held y))

    -- Each grant takes what it sends away.
    pub served-left : (n : ℕ) → n ≤ 5 → left_on p x (then n).place + count n (λ q. eqb q p && is_sent x (chosen c w call q)) ≡ left_on p x (now 5).place
    unfolding served count
    served-left zero l = omega arith
    served-left (suc n) l =
        let a = served-left n (omega arith) in
        let d = sent-left p x hp n (omega arith) (chosen c w call n) (then n) (grant-rests (then n) call.best_effort n) (λ i m h e. (served-window c w call G I n (omega arith) i m h e).left) in
        omega arith

    -- Left after, sent and withdrawn are left before and accepted.
    pub tick-left : left_on p x (emptied (then 5).clock 256 (then 5)).place + counted (is_sent x (chosen c w call p)) + times x (withdrawn (then 5).clock (then 5).place p 256) ≡ left_on p x w.place + brought (for-port p) x 5
    tick-left =
        let a = arrivals-left 5 in
        let s = served-left 5 (omega arith) in
        let o = count-only (λ q. eqb q p && is_sent x (chosen c w call q)) p 5 hp (λ q l n. ap (λ (t : Bool). t && is_sent x (chosen c w call q)) (ne_eqb q p n)) in
        let k : counted (eqb p p && is_sent x (chosen c w call p)) ≡ counted (is_sent x (chosen c w call p)) = ap (λ (t : Bool). counted (t && is_sent x (chosen c w call p))) (eq-eqb p p refl) in
        let e = emptied-left p x hp (then 5).clock 256 (then 5) (omega arith) in
        omega arith
