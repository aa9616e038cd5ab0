-- What holds of the router that never turns over throughout a proper list of calls: places are kept, and times and settings are in range. Assumes nothing.
use Prim.Native.Nat.{ℕ, zero, suc, ◌+◌, ◌-◌, ◌<◌, ◌≤◌}
use mathlib.Core.Path.{◌≡◌, refl, sym, ap, subst, ◌∙◌}
use mathlib.Core.Bool.{Bool, true, false, ◌&&◌, and-true}
use mathlib.Core.List.{List, ◌∷◌}
use mathlib.Core.Option.{some}
use native.Mathlib.Omega.{arith}
use lib.ListN.{length}
use lib.Dec.{T}
use lib.IntN.{ℤ, pos, neg_ℤ, suc_ℤ, ◌+ℤ◌, ◌-ℤ◌}
use lib.Signed.{le_z, lt_z}
use borrow.Author.Tests.{eqb-false}
use Rattle.rules.specs.Account.{Kept}
use Rattle.rules.specs.Areas.{byte, bits, half, stamp, packet, has, Grant}
use Rattle.rules.specs.Clock.{cut}
use Rattle.rules.specs.Whole.{Packet, Held, Entry, Router, TickCall, with_places, advanced, accepted, grant, lose, served, is_due, emptied, meets, arrived, is_held}
use Rattle.rules.proofs.Booleans.{some_inj}
use Rattle.rules.proofs.Integers.{orders, diff-nat, suc-nat, not-le}
use Rattle.rules.proofs.AreaLaws.{length-packet, length-payload}
use Rattle.rules.proofs.Masks.{without-le}
use Rattle.rules.proofs.WholeLaws.{AllAt, AllHeld, fresh-held, loses, put_all, lose-all, stored-in, lost-in, admitted-by, sent-by, Passed, arrival-passed, arrival-entry, kept-take, kept_same, held-put, held-lose, emptied-kept, emptied-frame, emptied-held}
use Rattle.rules.proofs.Grants.{grant-rests}

-- The times of a packet at the clock t: deadline by a delay in range, not past, and the time less than n ahead.
pub record InWindow (c : ℕ) (t : ℤ) (n : ℕ) (x : Packet) : Type 0 where
  pub delay : ℕ
  pub sum : x.deadline ≡ x.time +ℤ pos delay
  pub small : delay < half c
  pub due : T (le_z t x.deadline)
  pub soon : T (lt_z (x.time -ℤ t) (pos n))
  pub arrived : T (le_z x.arrived t)
  pub size : length x.payload ≡ 20 - (1 + c)

-- A held packet fits, and its ports are five at most.
pub record HeldInWindow (c : ℕ) (t : ℤ) (n : ℕ) (h : Held) : Type 0 where
  pub window : InWindow c t n h.packet
  pub left : h.left ≤ 31

-- A port is left.
abbrev pub Busy : Held → Type 0
Busy h = 0 < h.left

-- An entry's delay and mask are in range.
pub record EntryInRange (c : ℕ) (e : Entry) : Type 0 where
  pub delay : e.delay < half c
  pub mask : e.mask ≤ 31

-- The entry that waits in the latch.
abbrev pub latched : Router → Entry
latched w = record { identifier = w.latch 0; delay = w.latch 1; mask = w.latch 2 }

-- Every setting is in range.
pub record SettingsInRange (c : ℕ) (w : Router) : Type 0 where
  pub entry : (i : ℕ) → i < 256 → EntryInRange c (w.entry i)
  pub horizon : (p : ℕ) → p < 5 → w.horizon p < half c
  pub latch : EntryInRange c (latched w)
  pub ports : w.latch 3 ≤ 31

-- What every call keeps.
pub record Good (c : ℕ) (w : Router) : Type 0 where
  pub settings : SettingsInRange c w
  pub kept : Kept w.place w.free
  pub window : AllHeld (HeldInWindow c w.clock (half c - 1)) w.place
  pub busy : AllHeld Busy w.place

-- The bound ahead may grow.
pub window_more : (c : ℕ) (t : ℤ) (n m : ℕ) (x : Packet) → n ≤ m → InWindow c t n x → InWindow c t m x
window_more c t n m x l F = record { delay = F.delay; sum = F.sum; small = F.small; due = F.due; soon = let s = F.soon in omega (arith, orders); arrived = F.arrived; size = F.size }

-- A mask less a port is no larger.
lose-window : (c : ℕ) (t : ℤ) (n p : ℕ) → p < 5 → (h : Held) → HeldInWindow c t n h → HeldInWindow c t n (loses p h)
lose-window c t n p l h f = record { window = f.window; left = without-le h.left p f.left l }

-- ---- through a tick

-- What an accepted tick is given: the arrivals' area is whole and of bytes, and each arriving packet has its true time in its header, in range.
pub record Input (c : ℕ) (t : ℤ) (call : TickCall) : Type 0 where
  pub whole : length call.arrivals ≡ 100
  pub identifier : (p : ℕ) → p < 5 → byte (packet call.arrivals p) 0 < 256
  pub soon : (p : ℕ) → p < 5 → has call.arriving p ≡ true → T (lt_z (call.times p -ℤ t) (pos (half c)))
  pub from : (p : ℕ) → p < 5 → has call.arriving p ≡ true → T (le_z (neg_ℤ (pos (half c))) (call.times p -ℤ t))
  pub header : (p : ℕ) → p < 5 → has call.arriving p ≡ true → stamp c (packet call.arrivals p) ≡ cut (bits c) (call.times p)

module _ (c : ℕ) (w : Router) (call : TickCall) where
  -- The router after the arrivals below p.
  abbrev pub after : ℕ → Router
  after p = arrived c p call w

  -- What holds at first, and with each packet that is accepted, holds after the arrivals below n.
  after-by : (P : Router → Type 0) → P w → (n : ℕ) → ((p : ℕ) → p < n → P (after p) → (x : Packet) (i : ℕ) (l : List ℕ) → meets c call (after p) p ≡ accepted x → (after p).free ≡ i ∷ l → P (stored-in i l x (after p))) → P (after n)
  unfolding arrived
  after-by P b zero f = b
  after-by P b (suc n) f = let h = after-by P b n (λ p l. f p (omega arith)) in admitted-by P (meets c call (after n) n) (after n) h (f n (omega arith) h)

  -- The router after the ports below p are served.
  abbrev pub serving : ℕ → Router
  serving p = served p call.best_effort (after 5)

  -- Whom port p is granted.
  abbrev pub chosen : ℕ → Grant (ℕ × Packet)
  chosen p = grant (serving p) call.best_effort p

  -- What holds after the arrivals, and less a port somewhere, holds after the ports below n are served.
  pub serving-by : (P : Router → Type 0) → P (after 5) → (n : ℕ) → ((p : ℕ) → p < n → (r : Router) → P r → (i : ℕ) → i < 256 → P (lost-in i p r)) → P (serving n)
  unfolding served
  serving-by P b zero f = b
  serving-by P b (suc n) f =
      let h = serving-by P b n (λ p l. f p (omega arith)) in
      sent-by P n (chosen n) (serving n) (grant-rests (serving n) call.best_effort n) h (f n (omega arith) (serving n) h)

  -- The router after the places are emptied.
  abbrev pub ended : Router
  ended = emptied (serving 5).clock 256 (serving 5)

  -- ---- each step changes places and free places only

  abbrev Framed : Router → Type 0
  Framed r = r ≡ with_places w r.place r.free

  -- A stored packet leaves the settings, and so does a port lost.
  pub arrivals-frame : (p : ℕ) → Framed (after p)
  arrivals-frame p = after-by Framed refl p (λ q m e x i l a f. ap (λ s. stored-in i l x (with_places s (after q).place (after q).free)) e)

  pub served-frame : (p : ℕ) → Framed (serving p)
  served-frame p = serving-by Framed (arrivals-frame 5) p (λ q m r e i l. ap (λ s. lost-in i q (with_places s r.place r.free)) e)

  pub ended-frame : Framed ended
  ended-frame = emptied-frame (serving 5).clock 256 (serving 5) ∙ ap (λ r. with_places r ended.place ended.free) (served-frame 5)

  -- The clock stands still until the last step.
  pub clock-at : (p : ℕ) → (serving p).clock ≡ w.clock
  clock-at p = ap (λ r. r.clock) (served-frame p)

  -- What is accepted has passed the questions at the settings of the tick.
  pub accepted-passed : (p : ℕ) (x : Packet) → meets c call (after p) p ≡ accepted x → Passed c (with_places w (after p).place (after p).free) call.arriving p (packet call.arrivals p) (call.times p) x
  accepted-passed p x e = subst (λ r. Passed c r call.arriving p (packet call.arrivals p) (call.times p) x) (arrivals-frame p) (arrival-passed c (after p) call.arriving p (packet call.arrivals p) (call.times p) x e)

  -- ---- what holds of every held packet

  -- What is accepted has it in the place that it takes, so what is held after the arrivals has.
  pub after-all : (P : ℕ → Held → Type 0) → AllAt P w.place → (n : ℕ) → ((p : ℕ) → p < n → (x : Packet) (i : ℕ) (l : List ℕ) → meets c call (after p) p ≡ accepted x → (after p).free ≡ i ∷ l → P i (fresh-held x)) → AllAt P (after n).place
  after-all P a n f = after-by (λ r. AllAt P r.place) a n (λ p m b x i l e q. put_all P (after p).place i (some (fresh-held x)) (λ h k. subst (P i) (some_inj k) (f p m x i l e q)) b)

  -- What losing a port keeps, serving keeps.
  pub served-all : (P : ℕ → Held → Type 0) → ((p : ℕ) → p < 5 → (i : ℕ) (h : Held) → P i h → P i (loses p h)) → AllAt P (after 5).place → (n : ℕ) → n ≤ 5 → AllAt P (serving n).place
  served-all P f a n l = serving-by (λ r. AllAt P r.place) a n (λ p m r b i k. put_all P r.place i (lose p (r.place i)) (lose-all (P i) p (f p (omega arith) i) (r.place i) (b i k)) b)

  -- Serving empties no place.
  pub served-held : (p i : ℕ) → is_held ((serving p).place i) ≡ is_held ((after 5).place i)
  served-held p i = serving-by (λ r. is_held (r.place i) ≡ is_held ((after 5).place i)) refl p (λ q m r e j l. held-put r.place j (lose q (r.place j)) (held-lose q (r.place j)) i ∙ e)

-- A packet that is not due, and whose deadline is not past, has its deadline later.
not-due : (t : ℤ) (x : Packet) → is_due t x ≡ false → T (le_z t x.deadline) → T (le_z (suc_ℤ t) x.deadline)
unfolding is_due
not-due t x e d = let l = not-le x.deadline t (go (le_z x.deadline t) (le_z t x.deadline) e d) in omega (arith, orders, suc-nat t)
  where
    go : (a b : Bool) → (a && b) ≡ false → T b → a ≡ false
    go a true e d = sym (and-true a) ∙ e
    go a false e d = absurd d

-- Each step of a good router's tick keeps it good.
module _ (c : ℕ) (w : Router) (call : TickCall) (G : Good c w) (I : Input c w.clock call) where
  abbrev at : ℕ → Router
  at = after c w call

  abbrev then : ℕ → Router
  then = serving c w call

  abbrev last : Router
  last = ended c w call

  -- Arrivals lose no place.
  pub arrivals-kept : (p : ℕ) → Kept (at p).place (at p).free
  arrivals-kept p = after-by c w call (λ r. Kept r.place r.free) G.kept p (λ q m K x i l e f. kept-take (subst (Kept (at q).place) f K) (fresh-held x))

  -- By the questions that it passed, its delay and mask from an entry in range.
  accepted-window : (p : ℕ) → p < 5 → (x : Packet) → meets c call (at p) p ≡ accepted x → HeldInWindow c w.clock (half c) (fresh-held x)
  accepted-window p l x e =
      let m = accepted-passed c w call p x e in
      let i = byte (packet call.arrivals p) 0 in
      subst (λ y. HeldInWindow c w.clock (half c) (fresh-held y)) m.packet (record {
        window = record {
          delay = (w.entry i).delay;
          sum = refl;
          small = (G.settings.entry i (I.identifier p l)).delay;
          due = (arrival-entry c (with_places w (after c w call p).place (after c w call p).free) (packet call.arrivals p) (call.times p) m.refusal).1;
          soon = I.soon p l m.brought;
          arrived = omega (arith, orders);
          size = length-payload c (packet call.arrivals p) (length-packet call.arrivals p (let e = I.whole in omega arith));
        };
        left = (G.settings.entry i (I.identifier p l)).mask;
      })

  -- Its entry is open.
  accepted-busy : (p : ℕ) (x : Packet) → meets c call (at p) p ≡ accepted x → Busy (fresh-held x)
  accepted-busy p x e =
      let m = accepted-passed c w call p x e in
      subst (λ y. Busy (fresh-held y)) m.packet (arrival-entry c (with_places w (after c w call p).place (after c w call p).free) (packet call.arrivals p) (call.times p) m.refusal).0

  -- What they store fits, as what was stored does.
  arrivals-window : (p : ℕ) → p ≤ 5 → AllHeld (HeldInWindow c w.clock (half c)) (at p).place
  arrivals-window p l = after-all c w call (λ i. HeldInWindow c w.clock (half c)) (λ i m h e.
      let f = G.window i m h e in
      record { window = window_more c w.clock (half c - 1) (half c) h.packet (omega arith) f.window; left = f.left }) p (λ q m x i k e f. accepted-window q (omega arith) x e)

  -- What they store has a port left.
  pub arrivals-busy : (p : ℕ) → AllHeld Busy (at p).place
  arrivals-busy p = after-all c w call (λ i. Busy) G.busy p (λ q m x i l e f. accepted-busy q x e)

  -- Serving loses no place.
  pub served-kept : (p : ℕ) → Kept (then p).place (then p).free
  served-kept p = serving-by c w call (λ r. Kept r.place r.free) (arrivals-kept 5) p (λ q m r K i l. kept_same (held-put r.place i (lose q (r.place i)) (held-lose q (r.place i))) K)

  -- What is stored still fits.
  pub served-window : (p : ℕ) → p ≤ 5 → AllHeld (HeldInWindow c w.clock (half c)) (then p).place
  served-window = served-all c w call (λ i. HeldInWindow c w.clock (half c)) (λ p l i h f. lose-window c w.clock (half c) p l h f) (arrivals-window 5 (omega arith))

  -- And so it does at the clock of that router.
  pub window-then : (p : ℕ) → p ≤ 5 → AllHeld (HeldInWindow c (then p).clock (half c)) (then p).place
  window-then p l = subst (λ (t : ℤ). AllHeld (HeldInWindow c t (half c)) (then p).place) (sym (clock-at c w call p)) (served-window p l)

  -- The clock that the arrivals meet is the one met.
  pub input-then : (p : ℕ) → Input c (at p).clock call
  input-then p = subst (λ r. Input c r.clock call) (sym (arrivals-frame c w call p)) I

  -- What is still held was not due, so its deadline is after the clock; its time is one less ahead.
  ended-window : AllHeld (HeldInWindow c (suc_ℤ w.clock) (half c - 1)) last.place
  ended-window i l h e =
      let (p, q, s) = emptied-held (then 5).clock (then 5) i l h e in
      let f = served-window 5 (omega arith) i l h p in
      record {
        window = record {
          delay = f.window.delay;
          sum = f.window.sum;
          small = f.window.small;
          due = not-due w.clock h.packet (subst (λ (t : ℤ). is_due t h.packet ≡ false) (clock-at c w call 5) q) f.window.due;
          soon = let s = f.window.soon in omega (arith, orders, diff-nat h.packet.time w.clock, diff-nat h.packet.time (suc_ℤ w.clock), suc-nat w.clock);
          arrived = let a = f.window.arrived in omega (arith, orders, suc-nat w.clock);
          size = f.window.size;
        };
        left = f.left;
      }

  ended-busy : AllHeld Busy last.place
  ended-busy i l h e =
      let (p, q, s) = emptied-held (then 5).clock (then 5) i l h e in
      let n = eqb-false h.left 0 s in
      omega arith

  -- So a tick keeps the router good.
  pub tick-good : Good c (advanced last)
  tick-good = subst (λ r. Good c (advanced r)) (sym (ended-frame c w call)) (record {
    settings = record { entry = G.settings.entry; horizon = G.settings.horizon; latch = record { delay = G.settings.latch.delay; mask = G.settings.latch.mask }; ports = G.settings.ports };
    kept = emptied-kept (then 5).clock 256 (then 5) (omega arith) (served-kept 5);
    window = ended-window;
    busy = ended-busy;
  })
