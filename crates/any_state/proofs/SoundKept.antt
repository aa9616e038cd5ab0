-- Every sound store shows a router that never turns over, its settings, places and free list read off the bytes; the calls keep the two related, and what is related to a good router is sound. Assumes nothing.
use Prim.Native.Nat.{ℕ, ◌-◌, ◌*◌, ◌^◌, ◌<◌}
use mathlib.Core.Path.{◌≡◌, refl, sym, ap, subst, ◌∙◌}
use mathlib.Core.Bool.{Bool, true, false, cond, not, not-not}
use mathlib.Core.Logic.{◌≢◌}
use mathlib.Core.List.{List, [], ◌∷◌}
use mathlib.Core.Option.{Option, none, some}
use native.Mathlib.Omega.{arith}
use lib.Dec.{eqb}
use lib.IntN.{ℤ, pos, ◌+ℤ◌}
use borrow.Author.Tests.{eqb-true, eqb-false}
use Rattle.rules.specs.Account.{stored}
use Rattle.rules.specs.Areas.{Store, Bytes, byte, bits, half, packet, payload, Outcome}
use Rattle.rules.specs.Board.{Board, Horizon, Latch, Idle, Time, Deadline, Mask, Outgoing, Delay, Routes, clock, free, board8}
use Rattle.rules.specs.Calls.{Call, control, tick, after_all}
use Rattle.rules.specs.Given.{clock_after}
use Rattle.any_state.specs.Entries.{StoredSound, delay_of, offset_of}
use Rattle.rules.specs.Clock.{cut, plus, offset}
use Rattle.rules.specs.Demand3.{byte_step, PacketShown, PlaceShown}
use Rattle.rules.specs.Questions.{full, sound, stack}
use Rattle.rules.specs.Whole.{Packet, Held, Router, is_held}
use Rattle.any_state.specs.SoundKept.{Intact, SoundKept}
use Rattle.any_state.specs.AnySound.{SoundStore, Near, Shows, AgreesFromSound}
use Rattle.passes.specs.Room.{occupied}
use Rattle.rules.proofs.BoardLaws.{Laws}
use Rattle.rules.proofs.Board8Laws.{lawful8}
use Rattle.rules.proofs.Booleans.{some_inj, none-some}
use Rattle.rules.proofs.ByteLaws.{stamp-number, payload-byte, top_first-at}
use Rattle.rules.proofs.FieldBytes.{packet-byte}
use Rattle.rules.proofs.Integers.{orders, add-nat, neg-nat, diff-nat}
use Rattle.rules.proofs.AreaLaws.{length-packet, length-payload, full-bits}
use Rattle.rules.proofs.IndexLaws.{count_same}
use Rattle.rules.proofs.TimeLaws.{cut-pos, cut-back, plus-cut, plus-minus}
use Rattle.rules.proofs.StateLaws.{length-stack}
use Rattle.rules.proofs.Good.{Good}
use Rattle.rules.proofs.Relation.{Rel, rel-free}
use Rattle.any_state.proofs.Entries.{stack-iff, sound-iff, full-iff}
use Rattle.passes.proofs.Room.{sound-used}
use Rattle.rules.proofs.Refine.{mask-held, rel-full, rel-sound}
use Rattle.rules.proofs.Agreement.{start-good, fresh-rel, agreed}
use Rattle.rules.proofs.Feed.{fed, feed, feed-proper}
use Rattle.any_state.proofs.Showing.{rel-shows, shows-rel, shows-good}

module _ (B : Board) (L : Laws B) where
  open B use {clock_bytes as c, state_length, get}

  -- ---- the router that a store shows

  -- The packet in slot i: its time by the offset from the clock, its deadline by the delay. When and where it arrived is not in the store, and nothing here depends on it.
  abbrev packet_of : Store → ℕ → Packet
  packet_of r i =
      let s = r.state in
      let k = packet r.memory i in
      let u = pos (get s clock) +ℤ offset_of B s i in
      record { arrived = pos (get s clock); input = 0; time = u; deadline = u +ℤ pos (delay_of B s i); identifier = byte k 0; payload = payload c k; mask = get s (Mask, i) }

  abbrev held_of : Store → ℕ → Held
  held_of r i = record { packet = packet_of r i; left = get r.state (Mask, i) }

  -- A slot with mask 0 is an empty place.
  abbrev place_of : Store → ℕ → Option Held
  place_of r i = cond (eqb (get r.state (Mask, i)) 0) none (some (held_of r i))

  pub router_of : Store → Router
  router_of r =
      let s = r.state in
      record {
        clock = pos (get s clock);
        horizon = λ p. get s (Horizon, p);
        latch = λ q. get s (Latch, q);
        entry = λ i. record { identifier = get s (Outgoing, i); delay = get s (Delay, i); mask = get s (Routes, i) };
        place = place_of r;
        free = stack B s;
      }

  -- ---- the store shows it

  module _ (r : Store) (Q : SoundStore B r) where
    abbrev s : List ℕ
    s = r.state

    -- A field as wide as the clock holds a clock reading.
    reading : {n : ℕ} → n < 256 ^ c → n < 2 ^ bits c
    reading {n} h = subst (λ (m : ℕ). n < m) (full-bits c L.some_bytes) h

    clock-lt : get s clock < 2 ^ bits c
    clock-lt = reading (L.get-lt s clock Q.state Q.sized.0 (omega arith))

    -- The readings are the times, cut, and identifier, deadline and data are the memory's.
    slot-shown : (i : ℕ) → i < 256 → StoredSound B r i → 0 < get s (Mask, i) → PacketShown B r i (held_of r i)
    unfolding bits
    slot-shown i l x h = record {
      time = time-cut;
      deadline = deadline-cut;
      left = (refl, h);
      bytes = record {
        identifier = ap (byte r.memory) (omega arith) ∙ sym (packet-byte r.memory i 0 (omega arith));
        deadline = sym (stamp-number c r.memory i L.few_bytes (let z = Q.sized.1 in omega arith)) ∙ x.header ∙ deadline-cut;
        payload = λ j m. sym (payload-byte c r.memory i j m);
      };
    }
      where
        time-lt : get s (Time, i) < 2 ^ bits c
        time-lt = reading (L.get-lt s (Time, i) Q.state Q.sized.0 l)

        time-cut : get s (Time, i) ≡ cut (bits c) (packet_of r i).time
        time-cut = subst (λ (t : ℕ). get s (Time, i) ≡ cut (bits c) (pos (get s clock) +ℤ offset (bits c) (get s (Time, i)) t)) (cut-pos (bits c) (get s clock) clock-lt) (cut-back (8 * c - 1) (pos (get s clock)) (get s (Time, i)) time-lt)

        deadline-cut : get s (Deadline, i) ≡ cut (bits c) (packet_of r i).deadline
        deadline-cut =
            sym (plus-minus (bits c) (get s (Deadline, i)) (get s (Time, i)) (reading (L.get-lt s (Deadline, i) Q.state Q.sized.0 l)) time-lt)
            ∙ ap (λ (n : ℕ). plus (bits c) n (delay_of B s i)) time-cut ∙ plus-cut (bits c) (packet_of r i).time (delay_of B s i)

    place-shown : (i : ℕ) → i < 256 → PlaceShown B r i (place_of r i)
    place-shown i l = go (eqb (get s (Mask, i)) 0) refl
      where
        go : (t : Bool) → eqb (get s (Mask, i)) 0 ≡ t → PlaceShown B r i (cond t none (some (held_of r i)))
        go true q = eqb-true (get s (Mask, i)) 0 q
        go false q = let n = eqb-false (get s (Mask, i)) 0 q in slot-shown i l (Q.sound.stored i l n) (omega arith)

    -- What a place holds is a slot's packet, and the slot has a port to serve.
    held-of-slot : (i : ℕ) (h : Held) → place_of r i ≡ some h → (get s (Mask, i) ≢ 0) × (held_of r i ≡ h)
    held-of-slot i h q = go (eqb (get s (Mask, i)) 0) refl q
      where
        go : (t : Bool) → eqb (get s (Mask, i)) 0 ≡ t → cond t none (some (held_of r i)) ≡ some h → (get s (Mask, i) ≢ 0) × (held_of r i ≡ h)
        go true a q = none-some q
        go false a q = (eqb-false (get s (Mask, i)) 0 a, some_inj q)

    -- A place is held where the slot's mask is not 0.
    held_test : (i : ℕ) → is_held (place_of r i) ≡ not (eqb (get s (Mask, i)) 0)
    unfolding is_held
    held_test i = go (eqb (get s (Mask, i)) 0)
      where
        go : (t : Bool) → is_held (cond t none (some (held_of r i))) ≡ not t
        go true = refl
        go false = refl

    -- The offset is in range by the rules of a stored packet.
    slot-near : (i : ℕ) → i < 256 → StoredSound B r i → Near B (pos (get s clock)) (packet_of r i)
    slot-near i l x =
        let t = pos (get s clock) in
        let o = offset_of B s i in
        let d = delay_of B s i in
        let a = add-nat t o in
        let b = diff-nat (t +ℤ o) t in
        let late = x.not_late.le in
        let far = x.not_far.le in
        let range = x.in_range in
        record {
          from = record { le = omega (arith, orders, neg-nat (pos d), neg-nat (pos (half c))) };
          to = record { lt = omega (arith, orders) };
          delay = (d, range, refl);
          arrived = record { le = omega (arith, orders) };
          size = length-payload c (packet r.memory i) (length-packet r.memory i (let h = Q.sized.1 in omega arith)) ∙ omega arith;
        }

    -- The stack has each empty slot once.
    pub shows-router : Shows B r (router_of r)
    unfolding router_of stack stored
    shows-router =
        let e₁ = (stack-iff B s).1 Q.sound.stack in
        let n = length-stack B L s in
        record {
          shown = record {
            clock = sym (cut-pos (bits c) (get s clock) clock-lt);
            horizon = λ p l. refl;
            latch = λ q l. refl;
            identifier = λ i l. refl;
            delay = λ i l. refl;
            routes = λ i l. refl;
            place = place-shown;
            free = (
              let u = sound-used B L s e₁ (λ j l. L.get-lt s (Idle, j) Q.state Q.sized.0 (let k = Q.sound.stack.count in omega arith)) in let q = count_same (λ i. is_held (place_of r i)) (occupied B s) 256 (λ i l. held_test i) in omega arith,
              sym n,
            );
            stack = λ i l. ap (λ (n : ℕ). get s (Idle, n - 1 - i)) n ∙ sym (top_first-at (λ i. get s (Idle, i)) (get s free) i (omega arith));
          };
          near = λ i l h q. let (n, k) = held-of-slot i h q in subst (λ (h : Held). Near B (pos (get s clock)) h.packet) k (slot-near i l (Q.sound.stored i l n));
        }

  -- A store by its tests.
  pub sound-store : (r : Store) → Bytes r.state → Bytes r.memory → full B r ≡ true → sound B r ≡ true → SoundStore B r
  sound-store r bs bm f e = record { state = bs; memory = bm; sized = (full-iff B r).0 f; sound = (sound-iff B r).0 e }

  -- ---- calls keep it

  -- The router over bytes sees no true time.
  pub fed-bytes : (T : ℤ) (r : Store) (k : Call) → byte_step B r (fed c T k) ≡ byte_step B r k
  unfolding byte_step fed
  fed-bytes T r (control register v) = refl
  fed-bytes T r (tick k out ans) = refl

  feed-bytes : (ks : List Call) (T : ℤ) (r : Store) → after_all (byte_step B) r (feed c T ks) ≡ after_all (byte_step B) r ks
  unfolding after_all feed
  feed-bytes [] T r = refl
  feed-bytes (k ∷ ks) T r =
      let k' = fed c T k in
      feed-bytes ks (clock_after c T k') (byte_step B r k').after ∙ ap (λ (o : Outcome Store). after_all (byte_step B) o.after ks) (fed-bytes T r k)

  -- A slot holds a packet where its place does, so none is lost.
  rel-kept : {r : Store} {w : Router} → Rel B L r w → Good c w → Intact B r
  unfolding stored
  rel-kept {r} {w} R G =
      let same = count_same (occupied B r.state) (λ i. is_held (w.place i)) 256 (λ i l. ap not (mask-held B L r i (w.place i) (R.place i l) (G.busy i l)) ∙ not-not (is_held (w.place i))) in
      record { full = rel-full B L R G; sound = rel-sound B L R G; slots = let n = rel-free B L R in let k = G.kept.all in omega arith }

  -- A fresh store shows the router at its start, a sound one the router read off it; and related to a good router after the calls, it is intact.
  pub sound-kept : SoundKept B
  sound-kept = record {
    fresh = λ t h. rel-kept (fresh-rel B L t h) (start-good c t);
    calls = λ r bs bm f e ks b.
        let Q = sound-store r bs bm f e in
        let S = shows-router r Q in
        let T = (router_of r).clock in
        let a = agreed B L (feed c T ks) (shows-rel B L Q S) (shows-good B L Q S) (feed-proper c L.some_bytes L.few_bytes ks T b) in
        subst (Intact B) (feed-bytes ks T r) (rel-kept a.rel a.good);
  }

  -- Whichever router a sound store shows, the calls keep the two related.
  pub agrees-from-sound : AgreesFromSound B
  agrees-from-sound = record {
    shows_one = λ r Q. (router_of r, shows-router r Q);
    fresh = λ t h. rel-shows B L (fresh-rel B L t h) (start-good c t);
    agree = λ r Q w S ks P.
        let a = agreed B L ks (shows-rel B L Q S) (shows-good B L Q S) P in
        let S = rel-sound B L a.rel a.good in
        (a.replies, (a.rel.settings.sized, a.rel.whole), (sound-iff B (after_all (byte_step B) r ks)).0 S, rel-shows B L a.rel a.good);
  }

-- The board of document 01 is lawful.
pub sound_kept : SoundKept board8
sound_kept = sound-kept board8 lawful8

pub agrees_from_sound : AgreesFromSound board8
agrees_from_sound = agrees-from-sound board8 lawful8
