-- The end of a tick keeps the queues right: slots that are due stand first among the on-time ones, slots whose time has come first among the early ones, and the
-- comparator's order of the others is still the same. Told of the packets that the slots show, whose times are whole numbers. Assumes nothing.
use Prim.Native.Nat.{ℕ, suc, ◌-◌, ◌<◌}
use mathlib.Core.Path.{◌≡◌, refl, sym, ap, ap₂, subst, ◌∙◌}
use mathlib.Core.Bool.{Bool, true, false, not, ◌&&◌, ◌||◌, true≢false, beq, and-true, and-false, not-not}
use mathlib.Core.List.{List}
use mathlib.Core.Option.{Option, none, some}
use mathlib.Core.Logic.{inr}
use native.Mathlib.Omega.{arith}
use lib.Dec.{T, ltb, eqb}
use lib.IntN.{ℤ, pos, suc_ℤ}
use lib.Signed.{le_z, lt_z}
use native.Mathlib.Decide.{dec_lt}
use borrow.Author.Tests.{eqb-true, lt-ltb, le-ltb}
use Rattle.rules.specs.Areas.{Store, half, has}
use Rattle.rules.specs.Board.{Board, Mask, clock}
use Rattle.rules.specs.Order.{Key, by, comparator}
use Rattle.rules.specs.Tick.{is_early, slot_key, is_due as is_due_now, arrived, served, ticked}
use Rattle.rules.specs.Whole.{Packet, Held, Router, TickCall, is_due, remaining, packet_key_of, packet_key}
use Rattle.rules.specs.Whole as Whole
use Rattle.rules.proofs.BoardLaws.{Laws}
use Rattle.rules.proofs.Booleans.{true→T, T→true, and_left, and_right, and_both, not-false}
use Rattle.rules.proofs.Comparator.{shown_key, comparator-less-clock, comparator-still, slot-key}
use Rattle.rules.proofs.Grants.{first-no-later, not-before}
use Rattle.rules.proofs.Good.{InWindow, HeldInWindow, Good, Input, window_more, serving, ended-frame, clock-at, window-then, tick-good}
use Rattle.rules.proofs.Integers.{orders, add-nat, suc-nat, not-lt}
use Rattle.rules.proofs.Masks.{has-zero}
use Rattle.rules.proofs.OrderLaws.{fails, strict-comparator}
use Rattle.rules.proofs.Refine.{tick-rel}
use Rattle.rules.proofs.RefineArrivals.{arrived-rel}
use Rattle.rules.proofs.RefineServed.{served-rel}
use Rattle.rules.proofs.Relation.{HeldShown, SlotShows, Rel, with-state}
use Rattle.rules.proofs.TimeLaws.{window-due}
use Rattle.rules.proofs.WholeLaws.{AllHeld, emptied-place}
use Rattle.queues.specs.Table1.{before, waits, Lists, Holds}
use Rattle.queues.proofs.ListLaws.{Front, dropped, moved, lists-as, lists-same, lists-dropped, lists-moved}
use Rattle.queues.proofs.BeforeLaws.{goes, before-goes, strict-before, total-before}
use Rattle.queues.proofs.ChoiceLaws.{waits-slot, slot-waits}

-- A due packet's deadline is the clock.
due-at : (t : ℤ) (x : Packet) → is_due t x ≡ true → T (le_z x.deadline t)
unfolding is_due
due-at t x e = true→T (le_z x.deadline t) (and_left (le_z x.deadline t) (le_z t x.deadline) e)

is-due : (t : ℤ) (x : Packet) → T (le_z x.deadline t) → T (le_z t x.deadline) → is_due t x ≡ true
unfolding is_due
is-due t x a b = and_both (le_z x.deadline t) (le_z t x.deadline) (T→true (le_z x.deadline t) a) (T→true (le_z t x.deadline) b)

-- What goes before by the comparator doesn't go after.
goes-not-back : (k l : Key) (t : Bool) → goes k l t ≡ true → comparator l k ≡ false
goes-not-back k l t e = go (comparator k l) (comparator l k) refl refl e
  where
    go : (a b : Bool) → comparator k l ≡ a → comparator l k ≡ b → (a || (not b && t)) ≡ true → comparator l k ≡ false
    go true true p q e = absurd (strict-comparator.irrefl k (strict-comparator.trans k l k p q))
    go a false p q e = q
    go false true p q e = absurd (true≢false (sym e))

-- Of packets of one sort, what another doesn't go before has no later key.
key-no-later : (t : ℤ) (x y : Packet) (e : Bool) → lt_z t x.time ≡ e → lt_z t y.time ≡ e → by (packet_key t) comparator y x ≡ false → T (le_z (packet_key_of e x).key (packet_key_of e y).key)
key-no-later t x y true p q n = first-no-later _ _ _ _ 0 0 (not-before t 0 y 0 x true true q p n (inr (omega arith)))
key-no-later t x y false p q n = first-no-later _ _ _ _ 0 0 (not-before t 0 y 0 x false false q p n (inr (omega arith))).1

module _ (B : Board) (L : Laws B) where
  open B use {clock_bytes as c, get}

  -- ---- the packet that a slot shows

  -- Slot j at the clock t shows the packet x.
  pub record Shows (s : List ℕ) (t : ℤ) (j : ℕ) (x : Packet) : Type 0 where
    pub key : slot_key B s j ≡ shown_key t x
    pub window : InWindow c t (half c) x
    pub due : is_due_now B s j ≡ is_due t x

  -- By the relation, at the clock that the state has.
  slot-shows : {r : Store} {w : Router} → Rel B L r w → {n : ℕ} → n < suc (half c) → AllHeld (HeldInWindow c w.clock n) w.place → (j : ℕ) → j < 256 → (h : Held) → w.place j ≡ some h → Shows r.state w.clock j h.packet
  unfolding slot_key
  slot-shows {r} {w} R m F j l h e =
      let H : HeldShown B r j h = subst (SlotShows B L r j) e (R.place j l) in
      let t = R.settings.reads clock refl (omega arith) in
      let W = window_more c w.clock _ (half c) h.packet (omega arith) (F j l h e).window in
      record { key = slot-key B r.state j w.clock h.packet t H.time H.deadline W; window = W; due = ap₂ eqb H.deadline t ∙ window-due c w.clock h.packet W }

  module _ {s : List ℕ} {t : ℤ} {j : ℕ} {x : Packet} (S : Shows s t j x) where
    -- The slot is early where the packet is.
    early-shown : is_early B s j ≡ lt_z t x.time
    unfolding slot_key
    early-shown = ap (λ (k : Key). k.early) S.key

  module _ {s : List ℕ} {t : ℤ} {i j : ℕ} {x y : Packet} (S : Shows s t i x) (S' : Shows s t j y) where
    -- Of slots of one sort, the one that goes before has no later key.
    keys-ordered : (e : Bool) → is_early B s i ≡ e → is_early B s j ≡ e → before B s i j ≡ true → T (le_z (packet_key_of e x).key (packet_key_of e y).key)
    unfolding by
    keys-ordered e p q h =
        let b = goes-not-back (slot_key B s i) (slot_key B s j) (ltb i j) (sym (before-goes B s i j) ∙ h) in
        key-no-later t x y e (sym (early-shown S) ∙ p) (sym (early-shown S') ∙ q) (sym (ap₂ comparator S'.key S.key ∙ comparator-less-clock t (packet_key t y) (packet_key t x)) ∙ b)

    -- While both stay of their sorts, the order is still the same at another clock.
    pub order-still : {s₂ : List ℕ} {u : ℤ} → Shows s₂ u i x → Shows s₂ u j y → is_early B s₂ i ≡ is_early B s i → is_early B s₂ j ≡ is_early B s j → before B s i j ≡ before B s₂ i j
    order-still {s₂} {u} U U' p q =
        let ei = sym (early-shown S) ∙ sym p ∙ early-shown U in
        let ej = sym (early-shown S') ∙ sym q ∙ early-shown U' in
        before-goes B s i j
        ∙ ap₂ (λ (a b : Bool). a || (not b && ltb i j))
        (ap₂ comparator S.key S'.key ∙ comparator-still t u x y ei ej ∙ sym (ap₂ comparator U.key U'.key))
        (ap₂ comparator S'.key S.key ∙ comparator-still t u y x ej ei ∙ sym (ap₂ comparator U'.key U.key))
        ∙ sym (before-goes B s₂ i j)

  -- ---- from the state that the ports leave to the state after the tick

  module _ {r : Store} {w : Router} (R : Rel B L r w) (G : Good c w) (call : TickCall) (I : Input c w.clock call) where
    abbrev t : ℤ
    t = w.clock

    abbrev r₁ : Store
    r₁ = arrived B 5 call.arriving call.arrivals r

    -- The state after step 3, and after the tick.
    abbrev s₃ : List ℕ
    s₃ = served B 5 call.best_effort r₁.state

    abbrev s₆ : List ℕ
    s₆ = (ticked B r call.arriving call.best_effort call.arrivals).after.state

    abbrev w₃ : Router
    w₃ = serving c w call 5

    abbrev w₆ : Router
    w₆ = (Whole.ticked c w call).router

    R₃ : Rel B L (with-state B L r₁ s₃) w₃
    R₃ = served-rel B L G call I (arrived-rel B L R G call I 5 (omega arith)) 5 (omega arith)

    R₆ : Rel B L (ticked B r call.arriving call.best_effort call.arrivals).after w₆
    R₆ = tick-rel B L R G call I

    F₆ : AllHeld (HeldInWindow c w₆.clock (half c - 1)) w₆.place
    unfolding Whole.ticked
    F₆ = (tick-good c w call G I).window

    clock-after : w₆.clock ≡ suc_ℤ t
    unfolding Whole.ticked
    clock-after = ap (λ r. suc_ℤ r.clock) (ended-frame c w call)

    -- A place holds afterwards what was not due and has a port left.
    place_after : (j : ℕ) → j < 256 → w₆.place j ≡ remaining t (w₃.place j)
    unfolding Whole.ticked
    place_after j l = emptied-place w₃.clock w₃ j l ∙ ap (λ (u : ℤ). remaining u (w₃.place j)) (clock-at c w call 5)

    -- The packet that a slot shows before and, if it is not due, after.
    shows-before : (j : ℕ) → j < 256 → (h : Held) → w₃.place j ≡ some h → Shows s₃ t j h.packet
    shows-before j l h e = subst (λ (u : ℤ). Shows s₃ u j h.packet) (clock-at c w call 5) (slot-shows R₃ {n = half c} (omega arith) (window-then c w call G I 5 (omega arith)) j l h e)

    shows-after : (j : ℕ) → j < 256 → (h : Held) → w₆.place j ≡ some h → Shows s₆ (suc_ℤ t) j h.packet
    shows-after j l h e = subst (λ (u : ℤ). Shows s₆ u j h.packet) clock-after (slot-shows R₆ {n = half c - 1} (omega arith) F₆ j l h e)

    -- Slot j waits for port p after step 3: it shows a packet, also after the tick if it is not due.
    record Waiting (p j : ℕ) : Type 0 where
      packet : Packet
      here : Shows s₃ t j packet
      later : is_due t packet ≡ false → Shows s₆ (suc_ℤ t) j packet

    -- By what its place holds.
    waiting : (p : ℕ) → p < 5 → (j : ℕ) → j < 256 → has (get s₃ (Mask, j)) p ≡ true → Waiting p j
    unfolding remaining
    waiting p hp j l e = go (w₃.place j) refl (R₃.place j l)
      where
        go : (v : Option Held) → w₃.place j ≡ v → SlotShows B L (with-state B L r₁ s₃) j v → Waiting p j
        go none q h = absurd (true≢false (sym e ∙ ap (λ (m : ℕ). has m p) h ∙ has-zero p hp))
        go (some h) q H = record {
          packet = h.packet;
          here = shows-before j l h q;
          later = λ d. shows-after j l h (place_after j l ∙ ap (remaining t) q ∙ rw (d, left-some));
        }
          where
            left-some : eqb h.left 0 ≡ false
            left-some = fails (eqb h.left 0) (λ z. true≢false (sym e ∙ ap (λ (m : ℕ). has m p) (H.left ∙ eqb-true h.left 0 z) ∙ has-zero p hp))

    -- A port is left where it was and the slot is not due.
    mask-after : (p : ℕ) → p < 5 → (j : ℕ) → j < 256 → has (get s₆ (Mask, j)) p ≡ (has (get s₃ (Mask, j)) p && not (is_due_now B s₃ j))
    unfolding remaining
    mask-after p hp j l = go (w₃.place j) refl (R₃.place j l)
      where
        shown : (v : Option Held) → w₆.place j ≡ v → SlotShows B L (ticked B r call.arriving call.best_effort call.arrivals).after j v
        shown v e = subst (SlotShows B L (ticked B r call.arriving call.best_effort call.arrivals).after j) e (R₆.place j l)

        gone : w₆.place j ≡ none → has (get s₆ (Mask, j)) p ≡ false
        gone e = ap (λ (m : ℕ). has m p) (shown none e) ∙ has-zero p hp

        go : (v : Option Held) → w₃.place j ≡ v → SlotShows B L (with-state B L r₁ s₃) j v → has (get s₆ (Mask, j)) p ≡ (has (get s₃ (Mask, j)) p && not (is_due_now B s₃ j))
        go none q h = gone (place_after j l ∙ ap (remaining t) q) ∙ sym (rw (h, has-zero p hp))
        go (some h) q H = rw ((shows-before j l h q).due, H.left) (cases (is_due t h.packet) (eqb h.left 0) refl refl)
          where
            cases : (a b : Bool) → is_due t h.packet ≡ a → eqb h.left 0 ≡ b → has (get s₆ (Mask, j)) p ≡ (has h.left p && not a)
            cases true b x y = gone (place_after j l ∙ ap (remaining t) q ∙ rw x) ∙ sym (and-false (has h.left p))
            cases false true x y = gone (place_after j l ∙ ap (remaining t) q ∙ rw (x, y)) ∙ sym (rw (eqb-true h.left 0 y, has-zero p hp))
            cases false false x y = ap (λ (m : ℕ). has m p) (shown (some h) (place_after j l ∙ ap (remaining t) q ∙ rw (x, y))).left ∙ sym (and-true (has h.left p))

    -- ---- the queues of port p, where `d` tells which slots are due

    module _ (p : ℕ) (hp : p < 5) (d : ℕ → Bool) (same : (j : ℕ) → j < 256 → d j ≡ is_due_now B s₃ j) where
      -- Its time has come.
      abbrev come : ℕ → Bool
      come j = not (is_early B s₆ j)

      -- A slot of either sort waits.
      waiting-slot : (e : Bool) (j : ℕ) → waits B s₃ p e j ≡ true → Waiting p j
      waiting-slot e j h = let (l, m, s) = waits-slot B s₃ p e j h in waiting p hp j l m

      -- It is due where its packet is.
      due-shown : (e : Bool) (j : ℕ) (h : waits B s₃ p e j ≡ true) → d j ≡ is_due t (waiting-slot e j h).packet
      due-shown e j h = let (l, m, s) = waits-slot B s₃ p e j h in same j l ∙ (waiting-slot e j h).here.due

      -- Its packet is early where it is.
      sort-shown : (e : Bool) (j : ℕ) (h : waits B s₃ p e j ≡ true) → lt_z t (waiting-slot e j h).packet.time ≡ e
      sort-shown e j h = let (l, m, s) = waits-slot B s₃ p e j h in sym (early-shown (waiting-slot e j h).here) ∙ s

      -- An early slot is not due: its deadline is no earlier than its time.
      early-not-due : (j : ℕ) (h : waits B s₃ p true j ≡ true) → is_due t (waiting-slot true j h).packet ≡ false
      early-not-due j h =
          let x = (waiting-slot true j h).packet in
          let W = (waiting-slot true j h).here.window in
          fails (is_due t x) (λ e. let a = subst (λ (z : ℤ). T (le_z z t)) W.sum (due-at t x e) in let b = true→T (lt_z t x.time) (sort-shown true j h) in absurd (omega (arith, orders, add-nat x.time (pos W.delay))))

      -- Afterwards a slot that isn't due is early if its packet is.
      early-later : (e : Bool) (j : ℕ) (h : waits B s₃ p e j ≡ true) → is_due t (waiting-slot e j h).packet ≡ false → is_early B s₆ j ≡ lt_z (suc_ℤ t) (waiting-slot e j h).packet.time
      early-later e j h n = early-shown ((waiting-slot e j h).later n)

      -- An on-time one stays so.
      on-time-stays : (j : ℕ) (h : waits B s₃ p false j ≡ true) → d j ≡ false → is_early B s₆ j ≡ false
      on-time-stays j h n =
          let x = (waiting-slot false j h).packet in
          let a = not-lt t x.time (sort-shown false j h) in
          early-later false j h (sym (due-shown false j h) ∙ n) ∙ fails (lt_z (suc_ℤ t) x.time) (λ e. let b = true→T (lt_z (suc_ℤ t) x.time) e in absurd (omega (arith, orders, suc-nat t)))

      -- Before a due slot of the on-time queue stand only due ones: none has an earlier deadline, and none has one in the past.
      due-front : Front (before B s₃) (waits B s₃ p false) d
      due-front i j hi hj b e =
          let X = waiting-slot false i hi in
          let Y = waiting-slot false j hj in
          let a = due-at t Y.packet (sym (due-shown false j hj) ∙ e) in
          let k = keys-ordered X.here Y.here false (waits-slot B s₃ p false i hi).2 (waits-slot B s₃ p false j hj).2 b in
          let n = X.here.window.due in
          due-shown false i hi ∙ is-due t X.packet (omega (arith, orders)) n

      -- Before a slot of the early queue whose time has come stand only such: none has a later time.
      come-front : Front (before B s₃) (waits B s₃ p true) come
      come-front i j hi hj b e =
          let X = waiting-slot true i hi in
          let Y = waiting-slot true j hj in
          let k = keys-ordered X.here Y.here true (waits-slot B s₃ p true i hi).2 (waits-slot B s₃ p true j hj).2 b in
          let a = not-lt (suc_ℤ t) Y.packet.time (sym (early-later true j hj (early-not-due j hj)) ∙ not-false (is_early B s₆ j) e) in
          ap not (early-later true i hi (early-not-due i hi) ∙ fails (lt_z (suc_ℤ t) X.packet.time) (λ q. let z = true→T (lt_z (suc_ℤ t) X.packet.time) q in absurd (omega (arith, orders))))

      -- The order of two slots that stay of their sort.
      still : (e : Bool) (i j : ℕ) → waits B s₃ p e i ≡ true → waits B s₃ p e j ≡ true → d i ≡ false → d j ≡ false → is_early B s₆ i ≡ e → is_early B s₆ j ≡ e → before B s₃ i j ≡ before B s₆ i j
      still e i j hi hj ni nj pi pj =
          let X = waiting-slot e i hi in
          let Y = waiting-slot e j hj in
          order-still X.here Y.here (X.later (sym (due-shown e i hi) ∙ ni)) (Y.later (sym (due-shown e j hj) ∙ nj)) (pi ∙ sym (waits-slot B s₃ p e i hi).2) (pj ∙ sym (waits-slot B s₃ p e j hj).2)

      -- ---- what the queues should hold afterwards, slot by slot

      module _ (j : ℕ) (l : j < 256) where
        abbrev a : Bool
        a = has (get s₃ (Mask, j)) p

        -- An early slot is not due, and an on-time one that isn't stays on time.
        first-fact : a ≡ true → is_early B s₃ j ≡ true → d j ≡ false
        first-fact h e = let k = slot-waits B s₃ p j l h true e in due-shown true j k ∙ early-not-due j k

        second-fact : a ≡ true → is_early B s₃ j ≡ false → d j ≡ false → is_early B s₆ j ≡ false
        second-fact h e n = on-time-stays j (slot-waits B s₃ p j l h false e) n

      -- By cases of: the slot waits for the port (a), is early (u), is due (y), and is early afterwards (v).
      early-test : (a u y v : Bool) → (a ≡ true → u ≡ true → y ≡ false) → (a ≡ true → u ≡ false → y ≡ false → v ≡ false) → ((a && beq u true) && not (not v)) ≡ ((a && not y) && beq v true)
      early-test false u y v F G = refl
      early-test true true true v F G = absurd (true≢false (F refl refl))
      early-test true true false true F G = refl
      early-test true true false false F G = refl
      early-test true false true v F G = refl
      early-test true false false true F G = absurd (true≢false (G refl refl refl))
      early-test true false false false F G = refl

      on-time-test : (a u y v : Bool) → (a ≡ true → u ≡ true → y ≡ false) → (a ≡ true → u ≡ false → y ≡ false → v ≡ false)
          → (((a && beq u false) && not y) || ((a && beq u true) && not v)) ≡ ((a && not y) && beq v false)
      on-time-test false u y v F G = refl
      on-time-test true true true v F G = absurd (true≢false (F refl refl))
      on-time-test true true false true F G = refl
      on-time-test true true false false F G = refl
      on-time-test true false true v F G = refl
      on-time-test true false false true F G = absurd (true≢false (G refl refl refl))
      on-time-test true false false false F G = refl

      -- Of the early queue those are left whose time has not come.
      early-after : (j : ℕ) → (waits B s₃ p true j && not (come j)) ≡ waits B s₆ p true j
      unfolding waits
      early-after j = go (dec_lt j 256)
        where
          go : Dec (j < 256) → (waits B s₃ p true j && not (come j)) ≡ waits B s₆ p true j
          go (yes l) = rw (lt-ltb j 256 l, mask-after p hp j l, ← same j l) (early-test (has (get s₃ (Mask, j)) p) (is_early B s₃ j) (d j) (is_early B s₆ j) (first-fact j l) (second-fact j l))
          go (no l) = rw (le-ltb j 256 (omega arith))

      -- The on-time queue has those that are not due, and those whose time has come.
      on-time-after : (j : ℕ) → ((waits B s₃ p false j && not (d j)) || (waits B s₃ p true j && come j)) ≡ waits B s₆ p false j
      unfolding waits
      on-time-after j = go (dec_lt j 256)
        where
          go : Dec (j < 256) → ((waits B s₃ p false j && not (d j)) || (waits B s₃ p true j && come j)) ≡ waits B s₆ p false j
          go (yes l) = rw (lt-ltb j 256 l, mask-after p hp j l, ← same j l) (on-time-test (has (get s₃ (Mask, j)) p) (is_early B s₃ j) (d j) (is_early B s₆ j) (first-fact j l) (second-fact j l))
          go (no l) = rw (le-ltb j 256 (omega arith))

      -- ---- the queues after the tick

      pub early-ends : {le : List ℕ} → Holds B s₃ p true le → Holds B s₆ p true (dropped come le)
      early-ends E = lists-as (lists-dropped (strict-before B s₃) E come-front) early-after (λ i j hi hj.
          let wi = and_left (waits B s₃ p true i) (not (come i)) hi in
          let wj = and_left (waits B s₃ p true j) (not (come j)) hj in
          still true i j wi wj (due-shown true i wi ∙ early-not-due i wi) (due-shown true j wj ∙ early-not-due j wj) (sym (not-not (is_early B s₆ i)) ∙ and_right (waits B s₃ p true i) (not (come i)) hi) (sym (not-not (is_early B s₆ j)) ∙ and_right (waits B s₃ p true j) (not (come j)) hj))

      pub on-time-ends : {lo le : List ℕ} → Holds B s₃ p false lo → Holds B s₃ p true le → Holds B s₆ p false (moved (before B s₆) come le (dropped d lo))
      on-time-ends {lo} O E = lists-same (lists-moved (strict-before B s₆) (total-before B s₆) (strict-before B s₃) E undue apart come-front) on-time-after
        where
          undue : Lists (before B s₆) (λ j. waits B s₃ p false j && not (d j)) (dropped d lo)
          undue = lists-as (lists-dropped (strict-before B s₃) O due-front) (λ i. refl) (λ i j hi hj.
              let wi = and_left (waits B s₃ p false i) (not (d i)) hi in
              let wj = and_left (waits B s₃ p false j) (not (d j)) hj in
              let ni = not-false (d i) (and_right (waits B s₃ p false i) (not (d i)) hi) in
              let nj = not-false (d j) (and_right (waits B s₃ p false j) (not (d j)) hj) in
              still false i j wi wj ni nj (on-time-stays i wi ni) (on-time-stays j wj nj))

          -- No slot is of both sorts.
          apart : (j : ℕ) → waits B s₃ p true j ≡ true → (waits B s₃ p false j && not (d j)) ≡ false
          apart j h = fails (waits B s₃ p false j && not (d j)) (λ e. true≢false (sym (waits-slot B s₃ p true j h).2 ∙ (waits-slot B s₃ p false j (and_left (waits B s₃ p false j) (not (d j)) e)).2))
