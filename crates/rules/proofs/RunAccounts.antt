-- The accounts of a run, by induction over it: what its ticks send and withdraw is what they accepted or found; each accepted packet is one by its tick and port of arrival. Assumes nothing.
use Prim.Native.Nat.{ℕ, zero, suc, ◌+◌, ◌-◌, ◌<◌, ◌≤◌}
use mathlib.Core.Path.{◌≡◌, refl, sym, ap, ap₂, subst, ◌∙◌}
use mathlib.Core.Bool.{Bool, true, false, cond, ◌&&◌, true≢false, and-true, and-false}
use mathlib.Core.Logic.{◌≢◌, ◌⊎◌, inl, inr}
use mathlib.Core.List.Memᴰ
use mathlib.Core.List.{List, [], ◌∷◌, ◌++◌, Memᴰ}
use mathlib.Core.Option.{Option, none, some}
use native.Mathlib.Omega.{arith}
use lib.ListN.{length, get_or, drop}
use lib.Seq.{get_or-drop, drop-drop}
use lib.Dec.{T, eqb}
use lib.IntN.{ℤ, pos, ◌-ℤ◌}
use lib.Signed.{le_z, lt_z, ◌≤ℤ◌}
use borrow.Author.Tests.{eq-eqb, eqb-true}
use Rattle.rules.specs.Account.{NotedTick, same_packet, is_sent, times, is_left, left_on, sent_on, withdrawn_on, stored_below, Accepted, Permitted, Genuine}
use Rattle.rules.specs.Areas.{byte, packet, grant_code, Grant, nobody, best_effort, on_time, early}
use Rattle.rules.specs.Given.{last_horizon}
use Rattle.rules.specs.Order.{count, counted}
use Rattle.rules.specs.Whole.{Packet, Held, Router, with_places, Arrival, absent, refused, accepted, to_serve, grant, is_due, due, withdrawn, meets, arrived, ticked, Report, arrival_code, answer_bytes}
use Rattle.rules.proofs.Booleans.{none-some, and_left, and_right, true→T, T→true, ¬T→false}
use Rattle.rules.proofs.IndexLaws.{count_none, count-only, count-some, count_same}
use Rattle.rules.proofs.Integers.{orders, diff-nat, antisym, later-differs}
use Rattle.rules.proofs.WholeLaws.{AllAt, arrival-drop, emptied-held}
use Rattle.rules.proofs.ByteLaws.{answer_at}
use Rattle.rules.proofs.Grants.{Rests, grant-rests, to_serve-held}
use Rattle.rules.proofs.Good.{Good, after, after-all, accepted-passed, serving, clock-at, served-all, served-window, served-frame}
use Rattle.rules.proofs.Accounting.{taken, for-port, tick-left}
use Rattle.rules.proofs.Runs.{next, Ticking, Run, rest, quiet, ticks, moment, over, after-tick, same-tick}

-- ---- packets that are the same

-- The same packet has the same tick and port of arrival.
same_keys : (x y : Packet) → same_packet x y ≡ true → (x.arrived ≡ y.arrived) × (x.input ≡ y.input)
unfolding same_packet
same_keys x y e =
    let a = le_z x.arrived y.arrived in
    let b = le_z y.arrived x.arrived in
    let d = eqb x.input y.input in
    let f = and_left (a && b) d e in
    (antisym x.arrived y.arrived (true→T a (and_left a b f)) (true→T b (and_right a b f)), eqb-true x.input y.input (and_right (a && b) d e))

-- A packet is the same as itself.
pub same_self : (x : Packet) → same_packet x x ≡ true
unfolding same_packet
same_self x = rw (T→true (le_z x.arrived x.arrived) (omega (arith, orders)), eq-eqb x.input x.input refl)

-- What differs in tick or port is not the same.
differs : (x y : Packet) → (x.arrived ≡ y.arrived → x.input ≡ y.input → ⊥) → same_packet x y ≡ false
differs x y n = ¬T→false (same_packet x y) (λ h. let (a, b) = same_keys x y (T→true (same_packet x y) h) in n a b)

-- Of a list, some packet is the same as x.
times-some : (x : Packet) (l : List Packet) → 0 < times x l → (y : Packet) × Memᴰ y l × (same_packet x y ≡ true)
unfolding times counted
times-some x [] n = absurd (omega arith)
times-some x (y ∷ l) n = go (same_packet x y) refl n (λ k. times-some x l k)
  where
    go : (t : Bool) → same_packet x y ≡ t → 0 < cond t 1 0 + times x l → (0 < times x l → (z : Packet) × Memᴰ z l × (same_packet x z ≡ true)) → (z : Packet) × Memᴰ z (y ∷ l) × (same_packet x z ≡ true)
    go true e n f = (y, Memᴰ.head refl, e)
    go false e n f = let (z, m, q) = f (omega arith) in (z, Memᴰ.tail m, q)

-- What is left is the same as x.
pub left-x : (x : Packet) (v : Option Packet) → is_left x v ≡ true → (y : Packet) × (v ≡ some y) × (same_packet x y ≡ true)
unfolding is_left
left-x x none e = absurd (true≢false (sym e))
left-x x (some y) e = (y, refl, e)

-- A withdrawn packet is held at a place with the port left, and due.
withdrawn-held : (t : ℤ) (f : ℕ → Option Held) (p n : ℕ) (x : Packet) → Memᴰ x (withdrawn t f p n) → (i : ℕ) × (i < n) × (to_serve (f i) p ≡ some x) × (is_due t x ≡ true)
unfolding withdrawn due
withdrawn-held t f p zero x m = absurd (Memᴰ.not-nil m)
withdrawn-held t f p (suc n) x m = go (Memᴰ.append_cases (withdrawn t f p n) m) (λ k. withdrawn-held t f p n x k)
  where
    one : (v : Option Packet) → Memᴰ x (due t v) → (v ≡ some x) × (is_due t x ≡ true)
    one none m = absurd (Memᴰ.not-nil m)
    one (some y) m = at (is_due t y) refl m
      where
        at : (s : Bool) → is_due t y ≡ s → Memᴰ x (cond s (y ∷ []) []) → (some y ≡ some x) × (is_due t x ≡ true)
        at true e m = let q = Memᴰ.eq_of_singleton m in (ap some (sym q), ap (is_due t) q ∙ e)
        at false e m = absurd (Memᴰ.not-nil m)

    go : Memᴰ x (withdrawn t f p n) ⊎ Memᴰ x (due t (to_serve (f n) p)) → (Memᴰ x (withdrawn t f p n) → (i : ℕ) × (i < n) × (to_serve (f i) p ≡ some x) × (is_due t x ≡ true))
        → (i : ℕ) × (i < suc n) × (to_serve (f i) p ≡ some x) × (is_due t x ≡ true)
    go (inl k) g = let (i, l, a, b) = g k in (i, omega arith, a, b)
    go (inr k) g = let (a, b) = one (to_serve (f n) p) k in (n, omega arith, a, b)

module _ (c : ℕ) where
  -- ---- one tick

  -- x was accepted by the tick d, and took the place i.
  abbrev Taken : NotedTick → Packet → ℕ → Type 0
  Taken d x i = (q : ℕ) × (q < 5) × (d.report.arrival q ≡ accepted x) × (i ≡ get_or d.met.free (stored_below d q) 0)

  -- Sent in its window.
  abbrev Sent : NotedTick → ℕ → Packet → Type 0
  Sent d p x = (x.arrived ≤ℤ d.met.clock) × ((x.time -ℤ pos (last_horizon c p d.past)) ≤ℤ d.met.clock) × (d.met.clock ≤ℤ x.deadline)

  module _ {d : NotedTick} (t : Ticking c d) where
    abbrev r : Router
    r = d.met

    abbrev then : ℕ → Router
    then = serving c d.met d.call

    -- The router while port p is served, with the settings met.
    abbrev pub router-at : ℕ → Router
    router-at p = with_places r (then p).place (then p).free

    -- What the report says of a port.
    pub arrival-reported : (q : ℕ) → d.report.arrival q ≡ meets c d.call (after c r d.call q) q
    unfolding ticked
    arrival-reported q = ap (λ (k : Report). k.arrival q) t.report

    pub grant-reported : (p : ℕ) → d.report.grant p ≡ grant (router-at p) d.call.best_effort p
    unfolding ticked
    grant-reported p = ap (λ (k : Report). k.grant p) t.report ∙ ap (λ (v : Router). grant v d.call.best_effort p) (served-frame c r d.call p)

    withdrawn-reported : (p : ℕ) → d.report.withdrawn p ≡ withdrawn (then 5).clock (then 5).place p 256
    unfolding ticked
    withdrawn-reported p = ap (λ (k : Report). k.withdrawn p) t.report

    -- An accepted packet bears the clock and the port of its tick.
    pub dated : (q : ℕ) (y : Packet) → d.report.arrival q ≡ accepted y → (y.arrived ≡ r.clock) × (y.input ≡ q)
    dated q y e =
        let m = accepted-passed c r d.call q y (sym (arrival-reported q) ∙ e) in
        (sym (ap (λ (z : Packet). z.arrived) m.packet), sym (ap (λ (z : Packet). z.input) m.packet))

    -- What the answers say was stored, was.
    pub stored-below : (p : ℕ) → p ≤ 5 → stored_below d p ≡ count p (λ q. eqb (arrival_code (meets c d.call (after c r d.call q) q)) 1)
    unfolding stored_below answer_bytes
    stored-below p l = count_same (λ q. eqb (byte d.answers (5 + q)) 1) (λ q. eqb (arrival_code (meets c d.call (after c r d.call q) q)) 1) p (λ q m.
        ap (λ (n : ℕ). eqb n 1)
        (ap (λ (a : List ℕ). byte a (5 + q)) t.answers ∙ (answer_at (λ p. grant_code (d.report.grant p)) (λ p. arrival_code (d.report.arrival p)) (λ p. length (d.report.withdrawn p)) q (omega arith)).1 ∙ ap arrival_code (arrival-reported q)))

    -- Each accepted packet takes the first free place, so the free list is what they leave of the one met: by induction over the ports.
    arrivals-drop : (p : ℕ) → (after c r d.call p).free ≡ drop (count p (λ q. eqb (arrival_code (meets c d.call (after c r d.call q) q)) 1)) r.free
    unfolding arrived count
    arrivals-drop zero = refl
    arrivals-drop (suc p) =
        let k = counted (eqb (arrival_code (meets c d.call (after c r d.call p) p)) 1) in
        arrival-drop c (after c r d.call p) d.call.arriving p (packet d.call.arrivals p) (d.call.times p) ∙ ap (drop k) (arrivals-drop p) ∙ drop-drop k (count p (λ q. eqb (arrival_code (meets c d.call (after c r d.call q) q)) 1)) r.free

    pub free-taken : (p : ℕ) → p ≤ 5 → (after c r d.call p).free ≡ drop (stored_below d p) r.free
    free-taken p l = arrivals-drop p ∙ ap (λ (k : ℕ). drop k r.free) (sym (stored-below p l))

    place-taken : (p : ℕ) → p ≤ 5 → (i : ℕ) (l : List ℕ) → (after c r d.call p).free ≡ i ∷ l → i ≡ get_or r.free (stored_below d p) 0
    place-taken p h i l e = ap (λ (l : List ℕ). get_or l 0 0) (sym e ∙ free-taken p h) ∙ get_or-drop (stored_below d p) r.free 0 0 ∙ ap (λ (k : ℕ). get_or r.free k 0) (omega arith)

    -- An arrival that brings no packet the same as x takes none.
    untaken : (m : Packet → Bool) (x : Packet) (q : ℕ) → ((y : Packet) → d.report.arrival q ≡ accepted y → same_packet x y ≡ false) → taken m x (d.report.arrival q) ≡ false
    unfolding taken
    untaken m x q n = go (d.report.arrival q) refl
      where
        go : (a : Arrival) → d.report.arrival q ≡ a → taken m x a ≡ false
        go absent e = refl
        go (refused k) e = refl
        go (accepted y) e = ap (λ (t : Bool). m y && t) (n y e) ∙ and-false (m y)

    -- A tick at another clock accepts no x.
    none-taken : (m : Packet → Bool) (x : Packet) → x.arrived ≢ r.clock → count 5 (λ q. taken m x (d.report.arrival q)) ≡ 0
    none-taken m x n = count_none (λ q. taken m x (d.report.arrival q)) 5 (λ q l. untaken m x q (λ y e. differs x y (λ a b. n (a ∙ (dated q y e).0))))

    -- Its own tick accepts x once.
    one-taken : (m : Packet → Bool) (x : Packet) (q : ℕ) → q < 5 → d.report.arrival q ≡ accepted x → count 5 (λ q. taken m x (d.report.arrival q)) ≡ counted (m x)
    unfolding taken
    one-taken m x q hq ex =
        count-only (λ q. taken m x (d.report.arrival q)) q 5 hq (λ k l n. untaken m x k (λ y e. differs x y (λ a b. n (sym (dated k y e).1 ∙ sym b ∙ (dated q x ex).1))))
        ∙ ap (λ a. counted (taken m x a)) ex ∙ ap (λ (t : Bool). counted (m x && t)) (same_self x) ∙ ap counted (and-true (m x))

    -- Left after, sent and withdrawn are left before and accepted.
    done-left : (p : ℕ) → p < 5 → (x : Packet) → left_on p x (next c d).place + counted (is_sent x (d.report.grant p)) + times x (d.report.withdrawn p) ≡ left_on p x r.place + count 5 (λ q. taken (for-port p) x (d.report.arrival q))
    unfolding ticked
    done-left p hp x =
        subst (λ (k : Report). left_on p x (next c d).place + counted (is_sent x (k.grant p)) + times x (k.withdrawn p) ≡ left_on p x r.place + count 5 (λ q. taken (for-port p) x (k.arrival q))) (sym t.report)
        (tick-left c r d.call t.good t.input p hp x)

    -- ---- what it may do with a packet

    -- What waits fits the clock.
    pub window-at : (p q : ℕ) → q ≤ 5 → (i : ℕ) (x : Packet) → i < 256 → to_serve ((then q).place i) p ≡ some x → T (le_z x.arrived r.clock) × T (le_z r.clock x.deadline)
    window-at p q hq i x l e =
        let (h, ev, ex, b) = to_serve-held ((then q).place i) p x e in
        let f = served-window c r d.call t.good t.input q hq i l h ev in
        (subst (λ (y : Packet). T (le_z y.arrived r.clock)) ex f.window.arrived, subst (λ (y : Packet). T (le_z r.clock y.deadline)) ex f.window.due)

    -- And has its data whole.
    pub size-at : (p q : ℕ) → q ≤ 5 → (i : ℕ) (x : Packet) → i < 256 → to_serve ((then q).place i) p ≡ some x → length x.payload ≡ 20 - (1 + c)
    size-at p q hq i x l e =
        let (h, ev, ex, b) = to_serve-held ((then q).place i) p x e in
        subst (λ (y : Packet). length y.payload ≡ 20 - (1 + c)) ex (served-window c r d.call t.good t.input q hq i l h ev).window.size

    -- A granted packet rests at its place, by the clock and horizon met.
    pub rests : (p : ℕ) (g : Grant (ℕ × Packet)) → d.report.grant p ≡ g → Rests (router-at p) p g
    rests p g e = subst (Rests (router-at p) p) (sym (grant-reported p) ∙ e) (grant-rests (router-at p) d.call.best_effort p)

    module _ (p : ℕ) (hp : p < 5) (i : ℕ) (x : Packet) where
      -- Its time has come, so it is not after the clock and horizon.
      sent-on-time : d.report.grant p ≡ on_time (i, x) → Sent d p x
      sent-on-time e =
          let (l, v, k) = rests p (on_time (i, x)) e in
          let (s, a) = window-at p p (omega arith) i x l v in
          (record { le = s }, record { le = omega (arith, orders, diff-nat x.time (pos (last_horizon c p d.past))) }, record { le = a })

      -- It is within the horizon.
      sent-early : d.report.grant p ≡ early (i, x) → Sent d p x
      sent-early e =
          let (l, v, b, k) = rests p (early (i, x)) e in
          let (s, a) = window-at p p (omega arith) i x l v in
          let h = t.settings.horizon p in
          (record { le = s }, record { le = omega (arith, orders, diff-nat x.time r.clock, diff-nat x.time (pos (last_horizon c p d.past))) }, record { le = a })

    -- A withdrawn packet waits, and is due.
    withdrawn-at : (p : ℕ) (x : Packet) → Memᴰ x (d.report.withdrawn p) → (i : ℕ) × (i < 256) × (to_serve ((then 5).place i) p ≡ some x) × (is_due (then 5).clock x ≡ true)
    withdrawn-at p x m = withdrawn-held (then 5).clock (then 5).place p 256 x (subst (Memᴰ x) (withdrawn-reported p) m)

    withdrawn-due : (p : ℕ) (x : Packet) → Memᴰ x (d.report.withdrawn p) → (x.arrived ≤ℤ r.clock) × (r.clock ≡ x.deadline)
    unfolding is_due
    withdrawn-due p x m =
        let (i, l, v, b) = withdrawn-at p x m in
        let (s, a) = window-at p 5 (omega arith) i x l v in
        let z = (then 5).clock in
        let f = and_left (le_z x.deadline z) (le_z z x.deadline) b in
        let g = and_right (le_z x.deadline z) (le_z z x.deadline) b in
        (record { le = s }, sym (clock-at c r d.call 5) ∙ antisym z x.deadline (true→T (le_z z x.deadline) g) (true→T (le_z x.deadline z) f))

    -- ---- where its packets come from

    -- K is known of what is held before the tick, and of what it accepts, with its place.
    module _ (K : ℕ → Packet → Type 0) (new : (x : Packet) (i : ℕ) → Taken d x i → K i x) (all : AllAt (λ i h. K i h.packet) r.place) where
      -- Serving makes no packet.
      served-known : (q : ℕ) → q ≤ 5 → AllAt (λ i h. K i h.packet) (then q).place
      served-known = served-all c r d.call (λ i h. K i h.packet) (λ p l i h k. k)
          (after-all c r d.call (λ i h. K i h.packet) all 5 (λ q m x i l e f. new x i (q, m, arrival-reported q ∙ e, place-taken q (omega arith) i l f)))

      -- Neither does emptying.
      ended-known : AllAt (λ i h. K i h.packet) (next c d).place
      unfolding ticked
      ended-known i l h e = served-known 5 (omega arith) i l h (emptied-held (then 5).clock (then 5) i l h e).0

      to_serve-known : (q : ℕ) → q ≤ 5 → (i p : ℕ) (x : Packet) → i < 256 → to_serve ((then q).place i) p ≡ some x → K i x
      to_serve-known q hq i p x l e = let (h, ev, ex, b) = to_serve-held ((then q).place i) p x e in subst (K i) ex (served-known q hq i l h ev)

  -- ---- the ticks of a run

  -- A run ends in a good router.
  pub run-good : {r w : Router} {h : List NotedTick} → Run c r h w → Good c w
  run-good (rest G) = G
  run-good (quiet ec ep ef R) = run-good R
  run-good (ticks d t R) = run-good R

  -- How often the ticks accepted x, counted where m holds.
  unfoldable pub accepted_on : (Packet → Bool) → Packet → List NotedTick → ℕ
  accepted_on m x [] = 0
  accepted_on m x (d ∷ ds) = count 5 (λ q. taken m x (d.report.arrival q)) + accepted_on m x ds

  -- Sent, withdrawn and left are what was accepted and what was left: by induction over the run.
  pub conserve : (p : ℕ) → p < 5 → (x : Packet) {r w : Router} {h : List NotedTick} → Run c r h w → sent_on p x h + withdrawn_on p x h + left_on p x w.place ≡ accepted_on (for-port p) x h + left_on p x r.place
  unfolding sent_on withdrawn_on accepted_on
  conserve p hp x (rest G) = omega arith
  conserve p hp x (quiet ec ep ef R) = let a = conserve p hp x R in let e = ap (left_on p x) ep in omega arith
  conserve p hp x (ticks d t R) = let a = conserve p hp x R in let k = done-left t p hp x in omega arith

  module _ (m : Packet → Bool) (x : Packet) where
    -- By induction over the first list.
    pub accepted-append : (a b : List NotedTick) → accepted_on m x (a ++ b) ≡ accepted_on m x a + accepted_on m x b
    unfolding accepted_on
    accepted-append [] b = omega arith
    accepted-append (d ∷ a) b = let k = accepted-append a b in omega arith

    -- Ticks at other clocks accept no x.
    none-accepted : (h : List NotedTick) → ((d : NotedTick) → Memᴰ d h → Ticking c d × (x.arrived ≢ d.met.clock)) → accepted_on m x h ≡ 0
    unfolding accepted_on
    none-accepted [] f = refl
    none-accepted (d ∷ h) f =
        let (t, n) = f d (Memᴰ.head refl) in
        let a = none-taken t m x n in
        let b = none-accepted h (λ e k. f e (Memᴰ.tail k)) in
        omega arith

    -- An accepted packet is accepted once, in its own tick: every other has another clock.
    pub once : {r w : Router} {h : List NotedTick} (i : ℕ) → Run c r h w → Accepted h x i → accepted_on m x h ≡ counted (m x)
    unfolding accepted_on Accepted
    once i R (d, q, k, l, e, z) =
        let M = moment c R k in
        let t = d.met.clock in
        let f = (dated M.tick q x e).0 in
        let a = none-accepted M.before (λ g n. ((moment c M.past n).tick, λ z. later-differs g.met.clock t (over c M.past n) (sym z ∙ f))) in
        let b = none-accepted M.later (λ g n. ((moment c M.future n).tick, λ z. later-differs t g.met.clock (after-tick c d M.future n) (sym f ∙ z))) in
        let o = one-taken M.tick m x q l e in
        let s = ap (accepted_on m x) M.parts ∙ accepted-append M.before (d ∷ M.later) in
        omega arith

  -- Two accepted packets that are the same are equal, and took one place: they came in one tick, at one port.
  pub unique : {r w : Router} {h : List NotedTick} → Run c r h w → (x y : Packet) (i j : ℕ) → Accepted h x i → Accepted h y j → same_packet x y ≡ true → (x ≡ y) × (i ≡ j)
  unfolding Accepted
  unique R x y i j (d, q, m, l, e, z) (d', q', m', l', e', z') s =
      let (a, b) = same_keys x y s in
      let (f, n) = dated (moment c R m).tick q x e in
      let (f', n') = dated (moment c R m').tick q' y e' in
      let k : d ≡ d' = same-tick c R m m' (sym f ∙ a ∙ f') in
      let o : q ≡ q' = sym n ∙ b ∙ n' in
      let v : accepted x ≡ accepted y = sym e ∙ ap₂ (λ (d : NotedTick) (q : ℕ). d.report.arrival q) k o ∙ e' in
      (same-packet v, z ∙ ap₂ (λ (d : NotedTick) (q : ℕ). get_or d.met.free (stored_below d q) 0) k o ∙ sym z')
    where
      same-packet : {x y : Packet} → accepted x ≡ accepted y → x ≡ y
      same-packet v = cc

  -- What is known of what is held at first, and of what the ticks accept, is known of what is held at the end.
  held-known : {r w : Router} {h : List NotedTick} (K : ℕ → Packet → Type 0) → Run c r h w → ((d : NotedTick) → Memᴰ d h → (x : Packet) (i : ℕ) → Taken d x i → K i x) → AllAt (λ i y. K i y.packet) r.place → AllAt (λ i y. K i y.packet) w.place
  held-known K (rest G) f a = a
  held-known K (quiet ec ep ef R) f a = held-known K R f (subst (AllAt (λ i y. K i y.packet)) (sym ep) a)
  held-known K (ticks d t R) f a = held-known K R (λ e m. f e (Memᴰ.tail m)) (ended-known t K (f d (Memᴰ.head refl)) a)

  -- ---- the accounts of a run from an empty router

  module _ {r w : Router} {h : List NotedTick} (R : Run c r h w) (empty : (i : ℕ) → r.place i ≡ none) where
    abbrev Known : ℕ → Packet → Type 0
    Known i x = Accepted h x i

    now-accepted : (d : NotedTick) → Memᴰ d h → (x : Packet) (i : ℕ) → Taken d x i → Known i x
    unfolding Accepted
    now-accepted d m x i (q, l, e, z) = (d, q, m, l, e, z)

    -- Nothing is held at first.
    nothing-held : AllAt (λ i y. Known i y.packet) r.place
    nothing-held i l y e = none-some (sym (empty i) ∙ e)

    -- Nothing is left on any port at first.
    pub left-nothing : (p : ℕ) (x : Packet) → left_on p x r.place ≡ 0
    unfolding left_on is_left to_serve
    left-nothing p x = count_none (λ i. is_left x (to_serve (r.place i) p)) 256 (λ i l. ap (λ v. is_left x (to_serve v p)) (empty i))

    -- What is held was accepted, and is in its place.
    pub held-accepted : (i : ℕ) → i < 256 → (x : Held) → w.place i ≡ some x → Accepted h x.packet i
    held-accepted = held-known Known R now-accepted nothing-held

    -- And so is what waits while a tick serves its ports.
    pub to_serve-accepted : (d : NotedTick) → Memᴰ d h → (q : ℕ) → q ≤ 5 → (i p : ℕ) (x : Packet) → i < 256 → to_serve ((serving c d.met d.call q).place i) p ≡ some x → Accepted h x i
    to_serve-accepted d m =
        let M = moment c R m in
        let a = held-known Known M.past (λ e n. now-accepted e (subst (Memᴰ e) (sym M.parts) (Memᴰ.append_left (d ∷ M.later) n))) nothing-held in
        to_serve-known M.tick Known (now-accepted d m) a

    -- What is left is x itself, and x fits the clock.
    pub in_time : (x : Packet) (j : ℕ) → Accepted h x j → (p : ℕ) → 0 < left_on p x w.place → w.clock ≤ℤ x.deadline
    unfolding left_on
    in_time x j a p n =
        let (i, l, e) = count-some (λ i. is_left x (to_serve (w.place i) p)) 256 n in
        let (y, ey, s) = left-x x (to_serve (w.place i) p) e in
        let (k, ev, ex, t) = to_serve-held (w.place i) p y ey in
        let q : k.packet ≡ x = ex ∙ sym (unique R x y j i a (subst (Known i) ex (held-accepted i l k ev)) s).0 in
        record { le = subst (λ (z : Packet). T (le_z w.clock z.deadline)) q ((run-good R).window i l k ev).window.due }

    -- What is sent or withdrawn was accepted.
    pub genuine : (d : NotedTick) → Memᴰ d h → (p : ℕ) → p < 5 → (x : Packet) → Genuine c h d p x
    genuine d m p hp x =
        let t = (moment c R m).tick in
        record {
          on_time = λ i e. let (l, v, b) = rests t p (on_time (i, x)) e in to_serve-accepted d m p (omega arith) i p x l v;
          early = λ i e. let (l, v, b, n) = rests t p (early (i, x)) e in to_serve-accepted d m p (omega arith) i p x l v;
          withdrawn = λ k. let (i, l, v, b) = withdrawn-at t p x k in (i, to_serve-accepted d m 5 (omega arith) i p x l v);
        }

    -- What is the same as an accepted packet, and is sent or withdrawn, is that packet.
    pub permitted : (x : Packet) (j : ℕ) → Accepted h x j → (p : ℕ) → p < 5 → (d : NotedTick) → Memᴰ d h → Permitted c d p x
    unfolding is_sent
    permitted x j a p hp d m = record {
      sent = λ s. go (d.report.grant p) refl s;
      on_time = λ i y e s. record { le = subst (λ (y : Packet). T (le_z y.time d.met.clock)) (is_x y i s ((genuine d m p hp y).on_time i e)) (rests t p (on_time (i, y)) e).2 };
      early = λ i y e s. record { lt = subst (λ (y : Packet). T (lt_z d.met.clock y.time)) (is_x y i s ((genuine d m p hp y).early i e)) (rests t p (early (i, y)) e).2 };
      withdrawn = λ n.
          let (y, k, s) = times-some x (d.report.withdrawn p) n in
          let (i, b) = (genuine d m p hp y).withdrawn k in
          subst (λ (y : Packet). (y.arrived ≤ℤ d.met.clock) × (d.met.clock ≡ y.deadline)) (is_x y i s b) (withdrawn-due t p y k);
    }
      where
        t : Ticking c d
        t = (moment c R m).tick

        is_x : (y : Packet) (i : ℕ) → same_packet x y ≡ true → Accepted h y i → y ≡ x
        is_x y i s b = sym (unique R x y j i a b s).0

        go : (g : Grant (ℕ × Packet)) → d.report.grant p ≡ g → is_sent x g ≡ true → Sent d p x
        go nobody e s = absurd (true≢false (sym s))
        go best_effort e s = absurd (true≢false (sym s))
        go (on_time (i, y)) e s = subst (Sent d p) (is_x y i s ((genuine d m p hp y).on_time i e)) (sent-on-time t p hp i y e)
        go (early (i, y)) e s = subst (Sent d p) (is_x y i s ((genuine d m p hp y).early i e)) (sent-early t p hp i y e)
