-- The relation makes the store sound, since a good router's settings and times are in range; and a tick keeps it with equal replies, step by step. Assumes nothing.
use Prim.Native.Nat.{ℕ, ◌-◌, ◌/◌, ◌%◌, ◌<◌, ◌≤◌}
use mathlib.Core.Path.{◌≡◌, refl, sym, ap, ap₂, ◌∙◌}
use mathlib.Core.Bool.{true, false, not, ◌||◌}
use mathlib.Core.Logic.{◌⊎◌}
use mathlib.Core.List.{List, [], ◌∷◌, ◌++◌}
use mathlib.Core.Option.{Option, none, some}
use native.Mathlib.Omega.{arith}
use lib.ListN.{length, length-replicate}
use lib.Seq.{take_at}
use lib.Dec.{leb, ltb, eqb}
use lib.IntN.{pos, neg_ℤ, suc_ℤ, ◌-ℤ◌}
use lib.Signed.{le_z}
use borrow.Author.Tests.{eq-eqb, ne_eqb, lt-ltb, le-leb}
use Rattle.rules.specs.Account.{Kept}
use Rattle.rules.specs.Areas.{bits, half, value, digits, packet, stamp, packed, ports_below, per_port, answers_area, Grant, nobody, best_effort, on_time, early, elem, distinct, Store}
use Rattle.rules.specs.Board.{Board, Kind, Horizon, Latch, Free, Idle, Time, Deadline, Mask, Delay, Routes, clock, free}
use Rattle.rules.specs.Clock.{cut, plus, minus, offset}
use Rattle.rules.specs.Questions.{full, connection_sound, horizon_sound, settings_sound, listed, stack_sound, slot_sound, slots_sound, sound}
use Rattle.rules.specs.Tick.{arrived, served, withdrawn, returned}
use Rattle.rules.specs.Whole.{Held, Router, TickCall, emptied, packet_bytes, outgoing_bytes, answer_bytes, is_held}
use Rattle.rules.proofs.BoardLaws.{Laws, Valid, same_kind}
use Rattle.rules.specs.Tick as Tick
use Rattle.rules.specs.Whole as Whole
use Rattle.rules.proofs.Booleans.{T→true, and_both, or_right, eq-beq}
use Rattle.rules.proofs.Integers.{orders}
use Rattle.rules.proofs.WholeLaws.{AllHeld, emptied-kept}
use Rattle.rules.proofs.Grants.{Rests, grant-rests, to_serve-held}
use Rattle.rules.proofs.Good.{InWindow, HeldInWindow, Busy, Good, Input, window_more, after, arrivals-busy, serving, served-held, served-kept, served-window, window-then}
use Rattle.rules.proofs.TimeLaws.{cut-suc, window-offset, window-delay, window-from}
use Rattle.rules.proofs.AreaLaws.{value-digits, length_digits, length-packed, packet-per_port}
use Rattle.rules.proofs.IndexLaws.{all_true}
use Rattle.rules.proofs.StateLaws.{reads_self, reads_as, reads-put, reads-off}
use Rattle.rules.proofs.Relation.{on-settings, SettingsShown, SlotShows, Rel, with-state, rel-room, rel-settings}
use Rattle.rules.proofs.RefineArrivals.{arrived-rel, arrived-code}
use Rattle.rules.proofs.RefineServed.{served-rel, served-bytes, served-code}
use Rattle.rules.proofs.RefineEmptied.{ended-rel, ended-slots, ended-entries, withdrawals-same}

-- Port by port.
per_port-same : (f g : ℕ → List ℕ) → ((p : ℕ) → p < 5 → f p ≡ g p) → per_port f ≡ per_port g
unfolding ports_below
per_port-same f g h = rw (h 0 (omega arith), h 1 (omega arith), h 2 (omega arith), h 3 (omega arith), h 4 (omega arith))

answers-area : {g g' a a' n n' : ℕ → ℕ} → ((p : ℕ) → p < 5 → g p ≡ g' p) → ((p : ℕ) → p < 5 → a p ≡ a' p) → ((p : ℕ) → p < 5 → n p ≡ n' p) → answers_area g a n ≡ answers_area g' a' n'
unfolding answers_area
answers-area {g} {g'} {a} {a'} {n} {n'} G A N =
    ap₂ (λ (x y : List ℕ). x ++ y)
    (ap₂ (λ (x y : List ℕ). x ++ y) (per_port-same (λ p. g p ∷ []) (λ p. g' p ∷ []) (λ p l. ap (λ (k : ℕ). k ∷ []) (G p l))) (per_port-same (λ p. a p ∷ []) (λ p. a' p ∷ []) (λ p l. ap (λ (k : ℕ). k ∷ []) (A p l))))
    (per_port-same (λ p. n p / 256 ∷ n p % 256 ∷ []) (λ p. n' p / 256 ∷ n' p % 256 ∷ []) (λ p l. ap (λ (k : ℕ). k / 256 ∷ k % 256 ∷ []) (N p l)))

-- The time in a packet's header is its deadline, cut.
stamp-bytes : (c : ℕ) (y : Whole.Packet) → 0 < c → stamp c (packet_bytes c y) ≡ cut (bits c) y.deadline
unfolding packet_bytes stamp packed
stamp-bytes c y h = let v = cut (bits c) y.deadline in ap value (take_at (digits c v) y.payload c (length_digits c v)) ∙ value-digits c v h

module _ (B : Board) (L : Laws B) where
  open B use {clock_bytes as c, state_length, get, put}

  -- A packet held has a port left.
  pub mask-held : (r : Store) (i : ℕ) (v : Option Held) → SlotShows B L r i v → ((h : Held) → v ≡ some h → Busy h) → eqb (get r.state (Mask, i)) 0 ≡ not (is_held v)
  unfolding is_held
  mask-held r i none h b = eq-eqb (get r.state (Mask, i)) 0 h
  mask-held r i (some x) h b = ne_eqb (get r.state (Mask, i)) 0 (λ e. let n = b x refl in let q = h.left in omega arith)

  module _ {r : Store} {w : Router} (R : Rel B L r w) (G : Good c w) where
    abbrev s : List ℕ
    s = r.state

    abbrev S : SettingsShown B L s w
    S = R.settings

    -- ---- the store is sound

    -- An empty slot is sound; any other shows a packet: its readings are its times cut, and these are in range.
    slot-sound : (i : ℕ) → i < 256 → slot_sound B r i ≡ true
    unfolding slot_sound
    slot-sound i l = go (w.place i) refl (R.place i l)
      where
        go : (v : Option Held) → w.place i ≡ v → SlotShows B L r i v → slot_sound B r i ≡ true
        go none e h = rw h refl
        go (some x) e H =
            let F = G.window i l x e in
            let y = x.packet in
            let F' : InWindow c w.clock (half c) y = window_more c w.clock (half c - 1) (half c) y (omega arith) F.window in
            let d = minus (bits c) (get s (Deadline, i)) (get s (Time, i)) in
            let o = offset (bits c) (get s (Time, i)) (get s clock) in
            let ed : d ≡ F'.delay = ap₂ (minus (bits c)) H.deadline H.time ∙ window-delay c w.clock y F' in
            let eo : o ≡ y.time -ℤ w.clock = ap₂ (offset (bits c)) H.time (S.reads clock refl (omega arith)) ∙ window-offset c w.clock y F' in
            let soon = F.window.soon in
            let ports : leb (get s (Mask, i)) 31 ≡ true = le-leb (get s (Mask, i)) 31 (omega (arith, H.left, F.left)) in
            let in_range : ltb d (half c) ≡ true = lt-ltb d (half c) (omega (arith, ed, F'.small)) in
            let not_late : le_z (neg_ℤ (pos d)) o ≡ true = rw (ed, eo) (T→true (le_z (neg_ℤ (pos F'.delay)) (y.time -ℤ w.clock)) (window-from c w.clock y F')) in
            let not_far : le_z o (pos (half c - 2)) ≡ true = rw eo (T→true (le_z (y.time -ℤ w.clock) (pos (half c - 2))) (omega (arith, orders))) in
            let header = eq-eqb (stamp c (packet r.memory i)) (get s (Deadline, i)) (ap (stamp c) H.bytes ∙ stamp-bytes c y L.some_bytes ∙ sym H.deadline) in
            or_right (eqb (get s (Mask, i)) 0) _ (and_both _ _ (and_both _ _ (and_both _ _ (and_both _ _ ports in_range) not_late) not_far) header)

    -- Settings and stack read as the router's, which are in range, and which have each empty place once.
    pub rel-sound : sound B r ≡ true
    unfolding sound settings_sound stack_sound slots_sound
    rel-sound =
        let room = rel-room B L R G.kept in
        let connections = all_true (connection_sound B s) 256 (λ i l. and_both _ _ (lt-ltb (get s (Delay, i)) (half c) (omega (arith, S.reads (Delay, i) refl l, (G.settings.entry i l).delay))) (le-leb (get s (Routes, i)) 31 (omega (arith, S.reads (Routes, i) refl l, (G.settings.entry i l).mask)))) in
        let horizons = all_true (horizon_sound B s) 5 (λ p l. lt-ltb (get s (Horizon, p)) (half c) (omega (arith, S.reads (Horizon, p) refl l, G.settings.horizon p l))) in
        let register_1 = lt-ltb (get s (Latch, 1)) (half c) (omega (arith, S.reads (Latch, 1) refl (omega arith), G.settings.latch.delay)) in
        let register_2 = le-leb (get s (Latch, 2)) 31 (omega (arith, S.reads (Latch, 2) refl (omega arith), G.settings.latch.mask)) in
        let register_4 = le-leb (get s (Latch, 3)) 31 (omega (arith, S.reads (Latch, 3) refl (omega arith), G.settings.ports)) in
        let once = ap distinct R.stack ∙ G.kept.once in
        let idle = all_true (listed B s) 256 (λ i l. eq-beq _ _ (ap (elem i) R.stack ∙ G.kept.idle i l ∙ sym (mask-held r i (w.place i) (R.place i l) (G.busy i l)))) in
        and_both _ _ (and_both _ _ connections (and_both _ _ horizons (and_both _ _ register_1 (and_both _ _ register_2 register_4))))
        (and_both _ _ (and_both _ _ (le-leb (get s free) 256 room) (and_both _ _ once idle)) (all_true (slot_sound B r) 256 slot-sound))

    -- Question 1 is passed.
    pub rel-full : full B r ≡ true
    unfolding full
    rel-full = and_both (eqb (length s) state_length) (eqb (length r.memory) 5120) (eq-eqb (length s) state_length S.sized) (eq-eqb (length r.memory) 5120 R.whole)

    -- ---- a tick

    module _ (call : TickCall) (I : Input c w.clock call) where
      abbrev b : ℕ
      b = call.best_effort

      abbrev r₁ : Store
      r₁ = arrived B 5 call.arriving call.arrivals r

      abbrev w₂ : Router
      w₂ = serving c w call 5

      abbrev s₂ : List ℕ
      s₂ = served B 5 b r₁.state

      -- The relation after each step.
      R₁ : Rel B L r₁ (after c w call 5)
      R₁ = arrived-rel B L R G call I 5 (omega arith)

      R₂ : Rel B L (with-state B L r₁ s₂) w₂
      R₂ = served-rel B L G call I R₁ 5 (omega arith)

      -- A slot had a port to serve after the arrivals just where its place holds a packet.
      was : (i : ℕ) → i < 256 → eqb (get r₁.state (Mask, i)) 0 ≡ not (is_held (w₂.place i))
      was i l = mask-held r₁ i ((after c w call 5).place i) (R₁.place i l) (arrivals-busy c w call G I 5 i l) ∙ ap not (sym (served-held c w call 5 i))

      K₂ : Kept w₂.place w₂.free
      K₂ = served-kept c w call G I 5

      F₂ : AllHeld (HeldInWindow c w₂.clock (half c)) w₂.place
      F₂ = window-then c w call G I 5 (omega arith)

      abbrev s₄ : List ℕ
      s₄ = returned B 256 r₁.state (withdrawn B 256 s₂)

      abbrev w₄ : Router
      w₄ = emptied w₂.clock 256 w₂

      R₄ : Rel B L (with-state B L r₁ s₄) w₄
      R₄ = ended-rel B L R₂ K₂ F₂ r₁.state was

      -- Steps 4 and 5 change of the slots their masks alone, and of the stack's entries those from the free count after step 1 up to the one after them.
      pub tick-slots : (k : Kind) → (same_kind k Free || same_kind k Idle) ≡ false → same_kind Mask k ≡ false → (i : ℕ) → Valid (k, i) → get s₄ (k, i) ≡ get s₂ (k, i)
      tick-slots = ended-slots B L R₂ K₂ F₂ r₁.state was

      pub tick-entries : (j : ℕ) → j < 256 → (j < get s₂ free) ⊎ (get s₄ free ≤ j) → get s₄ (Idle, j) ≡ get s₂ (Idle, j)
      tick-entries = ended-entries B L R₂ K₂ F₂ r₁.state was

      -- A tick keeps the relation: the last step stores the clock alone.
      pub tick-rel : Rel B L (Tick.ticked B r call.arriving b call.arrivals).after (Whole.ticked c w call).router
      unfolding Tick.ticked Whole.ticked
      tick-rel =
          let v = plus (bits c) (get s₄ clock) 1 in
          let e : v ≡ cut (bits c) (suc_ℤ w₄.clock) = ap (λ (n : ℕ). plus (bits c) n 1) (R₄.settings.reads clock refl (omega arith)) ∙ cut-suc (bits c) w₄.clock in
          rel-settings B L R₄ (emptied-kept w₂.clock 256 w₂ (omega arith) K₂)
          (reads_as B L (reads-put B L R₄.settings clock v (omega arith)) (on-settings _ _ e (λ p l. refl) (λ q l. refl) (λ i l. (refl, refl, refl))))
          (reads-off B L (reads_self B L s₄ R₄.settings.sized) clock v (omega arith) refl) refl refl

      -- What goes out for a port has 20 bytes.
      to_serve-length : (q : ℕ) → q < 5 → (i : ℕ) (x : Whole.Packet) → i < 256 → Whole.to_serve ((serving c w call q).place i) q ≡ some x → length (packet_bytes c x) ≡ 20
      unfolding packet_bytes
      to_serve-length q h i x l e =
          let (k, ev, ex, t) = to_serve-held ((serving c w call q).place i) q x e in
          let f = served-window c w call G I q (omega arith) i l k ev in
          length-packed c x.identifier (cut (bits c) x.deadline) x.payload (ap (λ (y : Whole.Packet). length y.payload) (sym ex) ∙ f.window.size) L.few_bytes

      -- A packet granted waits, so it fits.
      granted-length : (q : ℕ) → q < 5 → (g : Grant (ℕ × Whole.Packet)) → Rests (serving c w call q) q g → length (Whole.grant_bytes c g) ≡ 20
      unfolding Whole.grant_bytes packet_bytes
      granted-length q h nobody a = length-replicate {A = ℕ} 20 0
      granted-length q h best_effort a = length-replicate {A = ℕ} 20 0
      granted-length q h (on_time (i, x)) a = to_serve-length q h i x a.0 a.1
      granted-length q h (early (i, x)) a = to_serve-length q h i x a.0 a.1

      grant-length : (q : ℕ) → q < 5 → length (Whole.grant_bytes c ((Whole.ticked c w call).report.grant q)) ≡ 20
      unfolding Whole.ticked
      grant-length q h = granted-length q h (Whole.grant (serving c w call q) b q) (grant-rests (serving c w call q) b q)

      -- The outgoing areas are equal.
      outgoing-same : (Tick.ticked B r call.arriving b call.arrivals).reply.outgoing ≡ outgoing_bytes c (Whole.ticked c w call).report
      unfolding Tick.ticked Whole.ticked outgoing_bytes
      outgoing-same = per_port-same (λ p. Tick.grant_bytes r₁.memory (Tick.grant B (served B p b r₁.state) b p)) (λ p. Whole.grant_bytes c (Whole.grant (serving c w call p) b p)) (λ p l. served-bytes B L G call I R₁ p l)

      -- The outgoing area holds, port by port, what was granted.
      pub sends-same : (p : ℕ) → p < 5 → packet (Tick.ticked B r call.arriving b call.arrivals).reply.outgoing p ≡ Whole.grant_bytes c ((Whole.ticked c w call).report.grant p)
      unfolding outgoing_bytes
      sends-same p l = ap (λ (x : List ℕ). packet x p) outgoing-same ∙ packet-per_port (λ p. Whole.grant_bytes c ((Whole.ticked c w call).report.grant p)) grant-length p l

      -- The answers are equal.
      pub answers-same : (Tick.ticked B r call.arriving b call.arrivals).reply.answers ≡ answer_bytes (Whole.ticked c w call).report
      unfolding Tick.ticked Whole.ticked answer_bytes
      answers-same = answers-area (λ p l. served-code B L G call I R₁ p l) (λ p l. arrived-code B L R G call I p l) (λ p l. withdrawals-same B L R₂ K₂ F₂ r₁.state was p l)

      -- So is what the caller sees.
      pub reply-same : (Tick.ticked B r call.arriving b call.arrivals).reply ≡ record { number = 0; outgoing = outgoing_bytes c (Whole.ticked c w call).report; answers = answer_bytes (Whole.ticked c w call).report }
      unfolding Tick.ticked
      reply-same = ap₂ (λ (x y : List ℕ). record { number = 0; outgoing = x; answers = y }) outgoing-same answers-same
