-- Step 1: the arrivals meet the same in both routers, since an offset is the whole-number difference while that is in the signed range, and the top idle address is the first free place. Assumes nothing.
use Prim.Native.Nat.{ℕ, zero, suc, ◌-◌, ◌*◌, ◌<◌, ◌≤◌}
use mathlib.Core.Path.{◌≡◌, refl, sym, ap, ap₂, subst, ◌∙◌}
use mathlib.Core.Bool.{Bool, true, false, cond}
use mathlib.Core.List.{List, [], ◌∷◌}
use mathlib.Core.Option.{some}
use native.Mathlib.Omega.{arith}
use lib.ListN.{length}
use lib.Seq.{sets, length-sets}
use lib.Dec.{eqb}
use lib.IntN.{ℤ, pos, neg_ℤ, ◌+ℤ◌}
use lib.Signed.{le_z}
use borrow.Author.Tests.{eq-eqb, ne_eqb}
use Rattle.rules.specs.Account.{Kept}
use Rattle.rules.specs.Areas.{byte, bits, packet, stamp, payload, packed, has, Store, arrival_answer}
use Rattle.rules.specs.Board.{Board, Idle, Time, Deadline, Mask, Outgoing, Delay, Routes, clock, free}
use Rattle.rules.specs.Clock.{cut, plus, offset}
use Rattle.rules.specs.Order.{top_first}
use Rattle.rules.specs.Questions.{stack}
use Rattle.rules.specs.Tick.{arrived}
use Rattle.rules.specs.Tick as Tick
use Rattle.rules.specs.Whole.{Held, Router, TickCall, made, with_places, placed, admitted, arrival_code, meets, packet_bytes}
use Rattle.rules.specs.Whole as Whole
use Rattle.rules.proofs.BoardLaws.{Laws, same_field}
use Rattle.rules.proofs.Booleans.{cons-first, cons-rest}
use Rattle.rules.proofs.Integers.{diff-in-time}
use Rattle.rules.proofs.WholeLaws.{fresh-held, Passed, arrival-by, first-place, arrival-room, arrival-code}
use Rattle.rules.proofs.Good.{Good, Input, after, arrivals-kept, input-then}
use Rattle.rules.proofs.TimeLaws.{plus-cut, offset-difference}
use Rattle.rules.proofs.AreaLaws.{length-packet, length-payload, packet-same, packet-other, length-packed}
use Rattle.rules.proofs.StateLaws.{Reads, none_out, reads_self, reads-put, reads-off, top_first-same}
use Rattle.rules.proofs.Relation.{SlotShows, Untouched, Rel, rel-free, shows-put, settings-places, kept-room}

module _ (B : Board) (L : Laws B) where
  open B use {clock_bytes as c, get, put}

  -- ---- one arrival

  module _ {r : Store} {w : Router} (R : Rel B L r w) (K : Kept w.place w.free) (call : TickCall) (I : Input c w.clock call) (p : ℕ) (hp : p < 5) where
    abbrev s : List ℕ
    s = r.state

    abbrev k : List ℕ
    k = packet call.arrivals p

    abbrev i : ℕ
    i = byte k 0

    hi : i < 256
    hi = I.identifier p hp

    -- The entry as the router has it.
    routes-same : get s (Routes, i) ≡ (w.entry i).mask
    routes-same = R.settings.reads (Routes, i) refl hi

    delay-same : get s (Delay, i) ≡ (w.entry i).delay
    delay-same = R.settings.reads (Delay, i) refl hi

    -- An offset of at least - d is a deadline that is not before the clock.
    in-time-same : has call.arriving p ≡ true → le_z (neg_ℤ (pos (get s (Delay, i)))) (offset (bits c) (stamp c k) (get s clock)) ≡ le_z w.clock (call.times p +ℤ pos (w.entry i).delay)
    in-time-same h =
        ap₂ (λ (o : ℤ) (d : ℕ). le_z (neg_ℤ (pos d)) o) (ap₂ (offset (bits c)) (I.header p hp h) (R.settings.reads clock refl (omega arith)) ∙ offset-difference c (call.times p) w.clock (I.from p hp h) (I.soon p hp h)) delay-same
        ∙ diff-in-time (w.entry i).delay (call.times p) w.clock

    -- Both routers answer an arrival alike.
    code_same : Tick.arrival B s call.arriving p k ≡ arrival_code (meets c call w p)
    unfolding Tick.arrival Tick.arrival_refusal Whole.arrival_refusal
    code_same = go (has call.arriving p) refl ∙ sym (arrival-code c w call.arriving p k (call.times p))
      where
        go : (h : Bool) → has call.arriving p ≡ h → cond h (arrival_answer (Tick.arrival_refusal B s k)) 0 ≡ cond h (arrival_answer (Whole.arrival_refusal c w k (call.times p))) 0
        go false q = refl
        go true q = rw (in-time-same q, routes-same, rel-free B L R)

    -- ---- an accepted packet

    abbrev D : ℕ
    D = plus (bits c) (stamp c k) (get s (Delay, i))

    abbrev bytes : List ℕ
    bytes = packed c (get s (Outgoing, i)) D (payload c k)

    abbrev stored_at : ℕ → ℕ → Store
    stored_at n j = record { state = put (put (put (put s free n) (Time, j) (stamp c k)) (Deadline, j) D) (Mask, j) (get s (Routes, i)); memory = sets r.memory (20 * j) bytes }

    module _ (here : has call.arriving p ≡ true) (j : ℕ) (l : List ℕ) (el : w.free ≡ j ∷ l) where
      abbrev N : ℕ
      N = length l

      abbrev r' : Store
      r' = stored_at N j

      count : get s free ≡ suc N
      count = rel-free B L R ∙ ap length el

      -- The top of the stack is the first free place.
      top : get s (Idle, N) ∷ top_first (λ i. get s (Idle, i)) N ≡ j ∷ l
      unfolding stack top_first
      top = sym (ap (top_first (λ i. get s (Idle, i))) count) ∙ R.stack ∙ el

      K' : Kept w.place (j ∷ l)
      K' = subst (Kept w.place) el K

      hj : j < 256
      hj = first-place K'

      -- Four stores, read back.
      stores : Reads B L none_out r'.state (λ f. cond (same_field (Mask, j) f) (get s (Routes, i)) (cond (same_field (Deadline, j) f) D (cond (same_field (Time, j) f) (stamp c k) (cond (same_field free f) N (get s f)))))
      stores = reads-put B L (reads-put B L (reads-put B L (reads-put B L (reads_self B L s R.settings.sized) free N (omega arith)) (Time, j) (stamp c k) hj) (Deadline, j) D hj) (Mask, j) (get s (Routes, i)) hj

      -- The sum that turns over is the deadline, cut.
      deadline-same : D ≡ cut (bits c) (call.times p +ℤ pos (w.entry i).delay)
      deadline-same = ap₂ (plus (bits c)) (I.header p hp here) delay-same ∙ plus-cut (bits c) (call.times p) (w.entry i).delay

      bytes_same : bytes ≡ packet_bytes c (made c w p k (call.times p))
      unfolding packet_bytes
      bytes_same = ap₂ (λ (o d : ℕ). packed c o d (payload c k)) (R.settings.reads (Outgoing, i) refl hi) deadline-same

      bytes-length : length bytes ≡ 20
      bytes-length = length-packed c (get s (Outgoing, i)) D (payload c k) (length-payload c k (length-packet call.arrivals p (let e = I.whole in omega arith))) L.few_bytes

      abbrev new : Held
      new = fresh-held (made c w p k (call.times p))

      -- Slot j shows the packet.
      new-here : SlotShows B L r' j (some new)
      new-here =
          let self = eq-eqb j j refl in
          record {
            time = stores.reads (Time, j) refl hj ∙ rw self (I.header p hp here);
            deadline = stores.reads (Deadline, j) refl hj ∙ rw self deadline-same;
            left = stores.reads (Mask, j) refl hj ∙ rw self routes-same;
            bytes = packet-same r.memory bytes j R.whole hj bytes-length ∙ bytes_same;
          }

      -- The others are as they were.
      others : (q : ℕ) → q < 256 → (q ≡ j → ⊥) → Untouched B L r r' q
      others q hq n =
          let no = ne_eqb j q (λ e. n (sym e)) in
          record {
            time = stores.reads (Time, q) refl hq ∙ rw no;
            deadline = stores.reads (Deadline, q) refl hq ∙ rw no;
            mask = stores.reads (Mask, q) refl hq ∙ rw no;
            bytes = packet-other r.memory bytes j q n bytes-length;
          }

      -- The settings are no slot's fields, and the stack is the free list less its first.
      stored-rel : Rel B L r' (with_places w (Whole.put w.place j (some new)) l)
      unfolding stack
      stored-rel = record {
        settings = settings-places B L w (Whole.put w.place j (some new)) l (reads-off B L (reads-off B L (reads-off B L (reads-off B L R.settings free N (omega arith) refl) (Time, j) (stamp c k) hj refl) (Deadline, j) D hj refl) (Mask, j) (get s (Routes, i)) hj refl);
        whole = length-sets r.memory (20 * j) bytes ∙ R.whole;
        place = shows-put B L R j (some new) new-here others;
        stack =
            let room = kept-room K' in
            ap (top_first (λ i. get r'.state (Idle, i))) (stores.reads free refl (omega arith))
            ∙ top_first-same (λ i. get r'.state (Idle, i)) (λ i. get s (Idle, i)) N (λ q m. stores.reads (Idle, q) refl (omega arith)) ∙ cons-rest top;
      }

      -- The top idle address is j.
      placed-stores : Tick.placed B r k ≡ r'
      unfolding Tick.placed
      placed-stores =
          let e : get s free - 1 ≡ N = omega (arith, count) in
          ap₂ stored_at e (ap (λ (n : ℕ). get s (Idle, n)) e ∙ cons-first top)

    -- Any arrival keeps the relation.
    arrival-rel : Rel B L (Tick.admitted B r call.arriving p k) (admitted (meets c call w p) w)
    unfolding admitted placed arrival_code
    arrival-rel = rw code_same (arrival-by c w call.arriving p k (call.times p) (λ a. Rel B L (cond (eqb (arrival_code a) 1) (Tick.placed B r k) r) (admitted a w)) R (λ q l. rw (ne_eqb q 1 (omega arith)) R) (λ m. first w.free refl m))
      where
        first : (l : List ℕ) → w.free ≡ l → Passed c w call.arriving p k (call.times p) (made c w p k (call.times p)) → Rel B L (Tick.placed B r k) (placed l (made c w p k (call.times p)) w)
        first [] e m = absurd (arrival-room c w k (call.times p) m.refusal e)
        first (j ∷ l) e m = rw (placed-stores m.brought j l e) (stored-rel m.brought j l e)

  -- ---- the arrivals on the ports below p

  module _ {r : Store} {w : Router} (R : Rel B L r w) (G : Good c w) (call : TickCall) (I : Input c w.clock call) where
    -- They keep the relation.
    pub arrived-rel : (p : ℕ) → p ≤ 5 → Rel B L (arrived B p call.arriving call.arrivals r) (after c w call p)
    unfolding arrived Whole.arrived
    arrived-rel zero l = R
    arrived-rel (suc p) l = arrival-rel (arrived-rel p (omega arith)) (arrivals-kept c w call G I p) call (input-then c w call G I p) p (omega arith)

    -- Each of them is answered alike.
    pub arrived-code : (p : ℕ) → p < 5 → Tick.arrival B (arrived B p call.arriving call.arrivals r).state call.arriving p (packet call.arrivals p) ≡ arrival_code (meets c call (after c w call p) p)
    arrived-code p l = code_same (arrived-rel p (omega arith)) (arrivals-kept c w call G I p) call (input-then c w call G I p) p l
