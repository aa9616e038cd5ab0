-- A sound store and a router that it shows are related, and the router is good; and a store related to a good router shows it. Assumes nothing.
use Prim.Native.Nat.{ℕ, suc, ◌+◌, ◌-◌, ◌*◌, ◌^◌, ◌<◌, ◌≤◌}
use mathlib.Core.Path.{◌≡◌, refl, sym, ap, ap₂, subst, ◌∙◌}
use mathlib.Core.List.{List}
use mathlib.Core.Option.{Option, none, some}
use native.Mathlib.Omega.{arith}
use lib.Pow.{pow_pos}
use lib.ListN.{length}
use lib.Seq.{ext_get_or}
use lib.Dec.{T}
use lib.IntN.{ℤ, pos, ◌+ℤ◌, ◌-ℤ◌}
use lib.Signed.{le_z}
use Rattle.rules.specs.Account.{PacketAt, Kept}
use Rattle.rules.specs.Areas.{Store, Bytes, byte, bits, half, packet, stamp, payload, packed, elem, distinct}
use Rattle.rules.specs.Board.{Board, Idle, free}
use Rattle.rules.specs.Clock.{cut, minus, offset}
use Rattle.rules.specs.Demand3.{PacketShown, PlaceShown}
use Rattle.any_state.specs.Entries.{delay_of, offset_of}
use Rattle.rules.specs.Questions.{stack}
use Rattle.rules.specs.Whole.{Packet, Held, Router, packet_bytes}
use Rattle.rules.proofs.AreaLaws.{length-packet, length-payload, packed-parts, bytes-part}
use Rattle.rules.proofs.Agreement.{rel-shown}
use Rattle.rules.proofs.BoardLaws.{Laws}
use Rattle.rules.proofs.ByteLaws.{stamp-number, payload-byte, top_first-at}
use Rattle.rules.proofs.ClockLaws.{key-true, pow-double}
use Rattle.rules.proofs.FieldBytes.{packet-byte}
use Rattle.rules.proofs.Good.{HeldInWindow, Busy, Good}
use Rattle.rules.proofs.Integers.{up, down, orders, add-nat, neg-nat, diff-nat}
use Rattle.rules.proofs.Refine.{mask-held}
use Rattle.rules.proofs.Relation.{on-settings, shown, SlotShows, Rel}
use Rattle.rules.proofs.Soundness.{at-elem, stack-lists}
use Rattle.any_state.proofs.Entries.{stack-iff}
use Rattle.rules.proofs.StateLaws.{reads_self, reads_as, length-stack}
use Rattle.rules.proofs.TimeLaws.{offset-difference}
use Rattle.any_state.specs.AnySound.{SoundStore, Shows}

-- Bytes where a packet has them are the packet's, packed.
packet-back : (c : ℕ) (area : List ℕ) (i : ℕ) (x : Packet) → c < 20 → Bytes area → 20 * i + 20 ≤ length area → length x.payload ≡ 19 - c → PacketAt c area i x → packet area i ≡ packet_bytes c x
unfolding packet_bytes packet
packet-back c area i x few b l size P =
    let k = packet area i in
    let v = cut (bits c) x.deadline in
    let n = length-packet area i l in
    let identifier : byte k 0 ≡ x.identifier = packet-byte area i 0 (omega arith) ∙ ap (byte area) (omega arith) ∙ P.identifier in
    let deadline : stamp c k ≡ v = stamp-number c area i few l ∙ P.deadline in
    let rest : payload c k ≡ x.payload = ext_get_or 0 (payload c k) x.payload (length-payload c k n ∙ omega arith) (λ j m. let e = length-payload c k n in payload-byte c area i j (omega arith) ∙ P.payload j (omega arith)) in
    sym (packed-parts c k (bytes-part 20 (20 * i) area b) n few) ∙ ap (λ (o : ℕ). packed c o (stamp c k) (payload c k)) identifier ∙ ap₂ (packed c x.identifier) deadline rest

-- A sum of whole numbers, by naturals.
later-by : (u v : ℤ) (d : ℕ) → v ≡ u +ℤ pos d → up v + down u ≡ down v + (up u + d)
later-by u v d e = subst (λ (z : ℤ). up z + down u ≡ down z + (up u + d)) (sym e) (omega (arith, add-nat u (pos d)))

module _ (B : Board) (L : Laws B) where
  open B use {clock_bytes as c, get}

  -- ---- what is related shows

  pub rel-shows : {r : Store} {w : Router} → Rel B L r w → Good c w → Shows B r w
  rel-shows {r} {w} R G = record {
    shown = rel-shown B L R G;
    near = λ i l x e.
        let F = (G.window i l x e).window in
        let t = w.clock in
        let u = x.packet.time in
        let due = subst (λ (z : ℤ). T (le_z t z)) F.sum F.due in
        let soon = F.soon in
        record {
          from = record { le = omega (arith, orders, add-nat u (pos F.delay), neg-nat (pos (half c)), diff-nat u t, F.small) };
          to = record { lt = omega (arith, orders) };
          delay = (F.delay, F.small, F.sum);
          arrived = record { le = F.arrived };
          size = F.size ∙ omega arith;
        };
  }

  -- ---- what shows is related

  module _ {r : Store} {w : Router} (Q : SoundStore B r) (S : Shows B r w) where
    abbrev s : List ℕ
    s = r.state

    -- The stack is the free list, entry by entry.
    stack_is : stack B r.state ≡ w.free
    unfolding stack
    stack_is = ext_get_or 0 (stack B s) w.free (length-stack B L s ∙ S.shown.free.1) (λ i l.
        let n = S.shown.free.1 in
        let m = length-stack B L s in
        top_first-at (λ i. get s (Idle, i)) (get s free) i (omega arith) ∙ ap (λ (n : ℕ). get s (Idle, n - 1 - i)) n ∙ S.shown.stack i (omega arith))

    held-shown : (i : ℕ) → i < 256 → (h : Held) → w.place i ≡ some h → PacketShown B r i h
    held-shown i l h e = subst (PlaceShown B r i) e (S.shown.place i l)

    places : (i : ℕ) → i < 256 → SlotShows B L r i (w.place i)
    places i l = go (w.place i) refl (S.shown.place i l)
      where
        go : (v : Option Held) → w.place i ≡ v → PlaceShown B r i v → SlotShows B L r i v
        go none e h = h
        go (some x) e h = record { time = h.time; deadline = h.deadline; left = h.left.0; bytes = packet-back c r.memory i x.packet L.few_bytes Q.memory (let z = Q.sized.1 in omega arith) (S.near i l x e).size h.bytes }

    pub shows-rel : Rel B L r w
    shows-rel = record {
      settings = reads_as B L (reads_self B L s Q.sized.0) (on-settings (get s) (shown c w) S.shown.clock S.shown.horizon S.shown.latch (λ i l. (S.shown.identifier i l, S.shown.delay i l, S.shown.routes i l)));
      whole = Q.sized.1;
      place = places;
      stack = stack_is;
    }

    busy : (i : ℕ) → i < 256 → (h : Held) → w.place i ≡ some h → Busy h
    busy i l h e = (held-shown i l h e).left.1

    -- The free list has each empty place once.
    kept : Kept w.place w.free
    unfolding stack
    kept =
        let (once, slots) = stack-lists B s ((stack-iff B s).1 Q.sound.stack) in
        record {
          once = ap distinct (sym stack_is) ∙ once;
          places = λ i h.
              let (k, l, q) = at-elem (λ j. get s (Idle, j)) i (get s free) (ap (elem i) stack_is ∙ h) in
              subst (λ (n : ℕ). n < 256) q (L.get-lt s (Idle, k) Q.state Q.sized.0 (let n = Q.sound.stack.count in omega arith));
          idle = λ i l. ap (elem i) (sym stack_is) ∙ slots i l ∙ mask-held B L r i (w.place i) (places i l) (busy i l);
          all = let (a, b) = S.shown.free in omega arith;
        }

    -- A half turn is more than one tick, and a turn is two of them.
    halves : (2 ≤ half c) × (2 ^ bits c ≡ half c + half c)
    unfolding half bits
    halves =
        let k : 8 * c - 1 ≡ suc (8 * c - 2) = let p = L.some_bytes in omega arith in
        (rw (k, pow-double (8 * c - 2)) (omega (arith, pow_pos (8 * c - 2))), pow-double (8 * c - 1))

    -- The readings tell the delay and the offset, and these are in range.
    window : (i : ℕ) → i < 256 → (h : Held) → w.place i ≡ some h → HeldInWindow c w.clock (half c - 1) h
    window i l h e =
        let P = held-shown i l h e in
        let N = S.near i l h e in
        let x = h.packet in
        let t = w.clock in
        let u = x.time in
        let D = x.deadline in
        let (d, small, sum) = N.delay in
        let X = Q.sound.stored i l (λ z. let (a, b) = P.left in omega arith) in
        let offsets : offset_of B s i ≡ u -ℤ t = ap₂ (offset (bits c)) P.time S.shown.clock ∙ offset-difference c u t N.from.le N.to.lt in
        let sums = later-by u D d sum in
        let k = diff-nat D u in
        let turn = halves.1 in
        let key = key-true (bits c) D u (record { le = omega (arith, orders) }) (record { lt = omega (arith, orders) }) in
        let delays : delay_of B s i ≡ d = ap₂ (minus (bits c)) P.deadline P.time ∙ omega (arith, ap up key, ap down key) in
        let late = rw (delays, offsets) at X.not_late.le in
        let far = rw offsets at X.not_far.le in
        record {
          window = record {
            delay = d;
            sum = sum;
            small = small;
            due = omega (arith, orders, neg-nat (pos d), diff-nat u t);
            soon = omega (arith, orders, halves.0);
            arrived = N.arrived.le;
            size = N.size ∙ omega arith;
          };
          left = let (a, b) = P.left in let p = X.ports in omega arith;
        }

    pub shows-good : Good c w
    shows-good = record {
      settings = record {
        entry = λ i l. record { delay = omega (arith, S.shown.delay i l, Q.sound.settings.delays i l); mask = omega (arith, S.shown.routes i l, Q.sound.settings.masks i l) };
        horizon = λ p l. omega (arith, S.shown.horizon p l, Q.sound.settings.horizons p l);
        latch = record { delay = omega (arith, S.shown.latch 1 (omega arith), Q.sound.settings.register_1); mask = omega (arith, S.shown.latch 2 (omega arith), Q.sound.settings.register_2) };
        ports = omega (arith, S.shown.latch 3 (omega arith), Q.sound.settings.register_4);
      };
      kept = kept;
      window = window;
      busy = busy;
    }
