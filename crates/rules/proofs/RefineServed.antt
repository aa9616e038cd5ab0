-- Steps 2 and 3: both routers grant each port to the same, since slots go in the order of the packets that they show (Comparator), and serving keeps the relation. Assumes nothing.
use Prim.Native.Nat.{ℕ, zero, suc, ◌<◌, ◌≤◌}
use mathlib.Core.Path.{◌≡◌, refl, sym, ap, ap₂, subst, ◌∙◌}
use mathlib.Core.Bool.{Bool, true, false, cond}
use mathlib.Core.List.{List}
use mathlib.Core.Option.{Option, none, some}
use native.Mathlib.Omega.{arith}
use lib.IntN.{ℤ, pos, ◌-ℤ◌}
use lib.Signed.{le_z, lt_z}
use borrow.Author.Tests.{eq-eqb, ne_eqb}
use Rattle.rules.specs.Account.{Kept}
use Rattle.rules.specs.Areas.{bits, half, packet, has, without, Store, Grant, nobody, best_effort, on_time, early, grant_code}
use Rattle.rules.specs.Board.{Board, Horizon, Idle, Time, Deadline, Mask, clock, free}
use Rattle.rules.specs.Clock.{cut}
use Rattle.rules.specs.Order.{least, Order, by, Key, comparator}
use Rattle.rules.specs.Tick.{slot_key, candidate}
use Rattle.rules.specs.Whole.{Packet, Held, Router, TickCall, with_places, to_serve, packet_key, lose, packet_bytes}
use Rattle.rules.proofs.BoardLaws.{Laws, same_field}
use Rattle.rules.specs.Tick as Tick
use Rattle.rules.specs.Whole as Whole
use Rattle.rules.proofs.IndexLaws.{Keys, Least, least-same}
use Rattle.rules.proofs.Comparator.{shown_key, comparator-less-clock, slot-key}
use Rattle.rules.proofs.Masks.{has-zero}
use Rattle.rules.proofs.WholeLaws.{AllHeld}
use Rattle.rules.proofs.Grants.{Rests, grant-rests, to_serve-held}
use Rattle.rules.proofs.Good.{Good, InWindow, HeldInWindow, Input, after, serving, window-then, served-kept}
use Rattle.rules.proofs.StateLaws.{Reads, none_out, reads_self, reads-put, reads-off, stack_same}
use Rattle.rules.proofs.Relation.{HeldShown, SlotShows, Rel, with-state, rel-room, shows-put, settings-places}

-- A grant without its packet.
strip : Grant (ℕ × Packet) → Grant ℕ
strip nobody = nobody
strip best_effort = best_effort
strip (on_time (i, x)) = on_time i
strip (early (i, x)) = early i

-- Its answer needs no packet.
strip-code : (g : Grant (ℕ × Packet)) → grant_code (strip g) ≡ grant_code g
unfolding strip grant_code
strip-code nobody = refl
strip-code best_effort = refl
strip-code (on_time (i, x)) = refl
strip-code (early (i, x)) = refl

-- No port is in mask 0.
without-zero : (p : ℕ) → p < 5 → without 0 p ≡ 0
unfolding without
without-zero p h = rw (has-zero p h)

module _ (B : Board) (L : Laws B) where
  open B use {clock_bytes as c, get, put}

  module _ {r : Store} {w : Router} (R : Rel B L r w) (F : AllHeld (HeldInWindow c w.clock (half c)) w.place) (p : ℕ) (hp : p < 5) where
    abbrev t : ℤ
    t = w.clock

    abbrev s : List ℕ
    s = r.state

    clock-same : get s clock ≡ cut (bits c) t
    clock-same = R.settings.reads clock refl (omega arith)

    -- ---- the keys are in one order

    -- The key is what the comparator sees of a slot that shows the packet.
    abbrev IsKey : Key → Packet → Type 0
    IsKey k x = k ≡ shown_key t x

    abbrev before : Order Packet
    before = by (packet_key t) comparator

    key-order : (k k' : Key) (x x' : Packet) → IsKey k x → IsKey k' x' → comparator k k' ≡ before x x'
    unfolding by
    key-order k k' x x' q q' = ap₂ comparator q q' ∙ comparator-less-clock t (packet_key t x) (packet_key t x')

    -- The slots that wait for the port show the packets that do.
    slot-keys : (i : ℕ) → i < 256 → Keys comparator before IsKey key-order (candidate B s p i) (to_serve (w.place i) p)
    unfolding candidate to_serve
    slot-keys i l = go (w.place i) refl (R.place i l)
      where
        at : (h : Held) → HeldShown B r i h → InWindow c t (half c) h.packet → (a : Bool) → Keys comparator before IsKey key-order (cond a (some (slot_key B s i)) none) (cond a (some h.packet) none)
        at h H F true = slot-key B s i t h.packet clock-same H.time H.deadline F
        at h H F false = tt

        go : (v : Option Held) → w.place i ≡ v → SlotShows B L r i v → Keys comparator before IsKey key-order (candidate B s p i) (to_serve v p)
        go none q h = rw (h, has-zero p hp) tt
        go (some h) q H = rw H.left (at h H (F i l h q).window (has h.left p))

    -- By cases of the winner: it is early, and within the horizon, in both.
    granted-same : (h : ℕ) (v : Option (ℕ × Key)) (v' : Option (ℕ × Packet)) → Least comparator before IsKey key-order v v' → (b : Bool) → Tick.granted v b h ≡ strip (Whole.granted v' b t h)
    unfolding Tick.granted Whole.granted strip
    granted-same h none none q true = refl
    granted-same h none none q false = refl
    granted-same h none (some w) q b = absurd q
    granted-same h (some v) none q b = absurd q
    granted-same h (some (i, k)) (some (j, x)) (z, q) b = ap₂ (λ (i : ℕ) (k : Key). Tick.granted (some (i, k)) b h) z q ∙ go (lt_z t x.time) b (le_z (x.time -ℤ t) (pos h)) refl
      where
        go : (e b a : Bool) → le_z (x.time -ℤ t) (pos h) ≡ a
            → cond e (cond b best_effort (cond (le_z (cond e x.time x.deadline -ℤ t) (pos h)) (early j) nobody)) (on_time j) ≡ strip (cond e (cond b best_effort (cond a (early (j, x)) nobody)) (on_time (j, x)))
        go false b a p = refl
        go true true a p = refl
        go true false true p = rw p
        go true false false p = rw p

    -- Both routers grant the port to the same.
    grant-same : (b : ℕ) → Tick.grant B s b p ≡ strip (Whole.grant w b p)
    unfolding Tick.grant Whole.grant
    grant-same b =
        ap (Tick.granted (least comparator (candidate B s p) 256) (has b p)) (R.settings.reads (Horizon, p) refl hp)
        ∙ granted-same (w.horizon p) (least comparator (candidate B s p) 256) (least before (λ i. to_serve (w.place i) p) 256)
        (least-same comparator before IsKey key-order (candidate B s p) (λ i. to_serve (w.place i) p) 256 slot-keys) (has b p)

    -- ---- a port is served

    module _ (i : ℕ) (hi : i < 256) (K : Kept w.place w.free) where
      abbrev m : ℕ
      m = without (get s (Mask, i)) p

      abbrev r' : Store
      r' = with-state B L r (put s (Mask, i) m)

      -- One store, read back.
      stores : Reads B L none_out (put s (Mask, i) m) (λ f. cond (same_field (Mask, i) f) m (get s f))
      stores = reads-put B L (reads_self B L s R.settings.sized) (Mask, i) m hi

      stored : get (put s (Mask, i) m) (Mask, i) ≡ m
      stored = stores.reads (Mask, i) refl hi ∙ rw (eq-eqb i i refl)

      -- Slot i shows the packet less the port.
      lose-here : (v : Option Held) → SlotShows B L r i v → SlotShows B L r' i (lose p v)
      unfolding lose
      lose-here none e = stored ∙ ap (λ (m : ℕ). without m p) e ∙ without-zero p hp
      lose-here (some h) H = record { time = stores.reads (Time, i) refl hi ∙ H.time; deadline = stores.reads (Deadline, i) refl hi ∙ H.deadline; left = stored ∙ ap (λ (m : ℕ). without m p) H.left; bytes = H.bytes }

      -- Slot i alone changes, and no setting.
      lose-rel : Rel B L r' (with_places w (Whole.put w.place i (lose p (w.place i))) w.free)
      lose-rel = record {
        settings = settings-places B L w (Whole.put w.place i (lose p (w.place i))) w.free (reads-off B L R.settings (Mask, i) m hi refl);
        whole = R.whole;
        place = shows-put B L R i (lose p (w.place i)) (lose-here (w.place i) (R.place i hi)) (λ q hq n.
            record { time = stores.reads (Time, q) refl hq; deadline = stores.reads (Deadline, q) refl hq; mask = stores.reads (Mask, q) refl hq ∙ rw (ne_eqb i q (λ e. n (sym e))); bytes = refl });
        stack = stack_same B L s r'.state (rel-room B L R K) (stores.reads free refl (omega arith)) (λ j l. stores.reads (Idle, j) refl l) ∙ R.stack;
      }

    -- By cases of the grant.
    sent-rel : (g : Grant (ℕ × Packet)) → Rests w p g → Kept w.place w.free → Rel B L (with-state B L r (Tick.sent B p (strip g) s)) (Whole.sent p g w)
    unfolding Tick.sent Whole.sent strip
    sent-rel nobody h K = R
    sent-rel best_effort h K = R
    sent-rel (on_time (i, x)) h K = lose-rel i h.0 K
    sent-rel (early (i, x)) h K = lose-rel i h.0 K

    -- Serving one port keeps the relation.
    served-step : (b : ℕ) → Kept w.place w.free → Rel B L (with-state B L r (Tick.sent B p (Tick.grant B s b p) s)) (Whole.sent p (Whole.grant w b p) w)
    served-step b K = rw (grant-same b) (sent-rel (Whole.grant w b p) (grant-rests w b p) K)

    -- What goes out is the packet granted.
    shown-bytes : (i : ℕ) (x : Packet) → i < 256 → to_serve (w.place i) p ≡ some x → packet r.memory i ≡ packet_bytes c x
    shown-bytes i x hi e =
        let (h, ev, ex, z) = to_serve-held (w.place i) p x e in
        let H : HeldShown B r i h = subst (SlotShows B L r i) ev (R.place i hi) in
        H.bytes ∙ ap (packet_bytes c) ex

    -- A granted packet rests at its place.
    strip-bytes : (g : Grant (ℕ × Packet)) → Rests w p g → Tick.grant_bytes r.memory (strip g) ≡ Whole.grant_bytes c g
    unfolding strip Tick.grant_bytes Whole.grant_bytes
    strip-bytes nobody h = refl
    strip-bytes best_effort h = refl
    strip-bytes (on_time (i, x)) h = shown-bytes i x h.0 h.1
    strip-bytes (early (i, x)) h = shown-bytes i x h.0 h.1

  -- ---- the ports below p

  module _ {w : Router} (G : Good c w) (call : TickCall) (I : Input c w.clock call) {r : Store} (R : Rel B L r (after c w call 5)) where
    abbrev b : ℕ
    b = call.best_effort

    abbrev then : ℕ → Router
    then = serving c w call

    -- Serving them keeps the relation.
    pub served-rel : (p : ℕ) → p ≤ 5 → Rel B L (with-state B L r (Tick.served B p b r.state)) (then p)
    unfolding Tick.served Whole.served
    served-rel zero l = R
    served-rel (suc p) l = served-step (served-rel p (omega arith)) (window-then c w call G I p (omega arith)) p (omega arith) b (served-kept c w call G I p)

    module _ (p : ℕ) (hp : p < 5) where
      served-grant : Tick.grant B (Tick.served B p b r.state) b p ≡ strip (Whole.grant (then p) b p)
      served-grant = grant-same (served-rel p (omega arith)) (window-then c w call G I p (omega arith)) p hp b

      -- The bytes of port p are equal.
      pub served-bytes : Tick.grant_bytes r.memory (Tick.grant B (Tick.served B p b r.state) b p) ≡ Whole.grant_bytes c (Whole.grant (then p) b p)
      served-bytes =
          ap (Tick.grant_bytes r.memory) served-grant
          ∙ strip-bytes (served-rel p (omega arith)) (window-then c w call G I p (omega arith)) p hp (Whole.grant (then p) b p) (grant-rests (then p) b p)

      -- The answer of port p is equal.
      pub served-code : grant_code (Tick.grant B (Tick.served B p b r.state) b p) ≡ grant_code (Whole.grant (then p) b p)
      served-code = ap grant_code served-grant ∙ strip-code (Whole.grant (then p) b p)
