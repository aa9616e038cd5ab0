-- What an accepted call leaves as it was: it stores nothing else. Assumes nothing.
use Prim.Native.Nat.{ℕ, zero, suc, ◌+◌, ◌*◌, ◌<◌, ◌≤◌}
use mathlib.Core.Path.{◌≡◌, refl, sym, ap, subst, ◌∙◌}
use mathlib.Core.Bool.{Bool, true, false, cond, and-false}
use mathlib.Core.Logic.{◌≢◌, inl, inr, ⊎_elim}
use mathlib.Core.List.{List, [], ◌∷◌}
use mathlib.Core.Option.{Option, none, some}
use native.Mathlib.Omega.{arith}
use lib.ListN.{length}
use lib.Dec.{leb, ltb, eqb}
use lib.IntN.{ℤ, pos, ◌+ℤ◌}
use lib.Signed.{le_z}
use borrow.Author.Tests.{eq-eqb, ne_eqb, ltb-true, leb-true}
use Rattle.rules.specs.Clock.{cut, plus, offset}
use Rattle.rules.specs.Areas.{Store, Outcome, number_reply, Bytes, byte, bits, stamp, fits, packet, has, without, Grant, nobody, best_effort, on_time, early, grant_code}
use Rattle.rules.specs.Board.{Board, Kind, Field, Clock, Horizon, Latch, Free, Idle, Time, Deadline, Mask, Outgoing, Delay, Routes, clock, free, board8}
use Rattle.rules.specs.Calls.{control, refusal}
use Rattle.rules.specs.Given.{number_due}
use Rattle.rules.specs.Demand3.{byte_step}
use Rattle.rules.specs.Order.{Key, comparator, least}
use Rattle.rules.specs.Questions.{control_refusal, tick_refusal, written, commit_entry, commit_horizon}
use Rattle.rules.specs.Questions as Entry
use Rattle.rules.specs.Tick.{granted, candidate, grant, sent, served, arrived, arrival, withdrawn, withdrawals, returned, ticked}
use Rattle.rules.specs.Whole.{Router, TickCall, arrival_code, meets, start}
use Rattle.rules.specs.Whole as Whole
use Rattle.rules.proofs.BoardLaws.{Laws, Valid, same_kind}
use Rattle.rules.proofs.StateLaws.{Reads, none_out, reads_self, reads-put, reads-off, marked, marked-none, marked_next}
use Rattle.rules.proofs.IndexLaws.{least-in, count_same}
use Rattle.rules.proofs.Board8Laws.{lawful8}
use Rattle.rules.proofs.Booleans.{asked-passed}
use Rattle.rules.proofs.ByteLaws.{stamp-number, answer_at}
use Rattle.rules.proofs.Feed.{true-time}
use Rattle.rules.proofs.GivenLaws.{number-due}
use Rattle.rules.proofs.FieldBytes.{packet-byte}
use Rattle.rules.proofs.Good.{Good, Input, after, ended-frame}
use Rattle.rules.proofs.Relation.{Rel, rel-free, with-state}
use Rattle.rules.proofs.RefineArrivals.{arrived-rel, arrived-code}
use Rattle.rules.proofs.Refine.{tick-slots, tick-entries, tick-rel}
use Rattle.rules.proofs.RunTold.{arrivals-free}
use Rattle.any_state.proofs.Entries.{refused, entry-laws}
use Rattle.any_state.specs.AnySound.{SoundStore, ControlLeaves, stored_by, TickLeaves, Leaves}
use Rattle.any_state.proofs.Showing.{shows-rel, shows-good}
use Rattle.any_state.proofs.SoundKept.{router_of, shows-router}
use Rattle.any_state.proofs.Taking.{Taken, arrivals-taken}

-- Only masks.
abbrev masks : Kind → Bool
masks k = same_kind Mask k

-- The slot that a grant names, if any.
abbrev Slot : Grant ℕ → Type 0
Slot nobody = Unit {0}
Slot best_effort = Unit {0}
Slot (on_time i) = i < 256
Slot (early i) = i < 256

module _ (B : Board) (L : Laws B) where
  open B use {clock_bytes as c, state_length, get, put}

  -- ---- a control write

  module _ (r : Store) (sized : length r.state ≡ state_length) where
    abbrev s : List ℕ
    s = r.state

    -- Of a state that reads as σ: what σ has of the state met is left.
    reads-leave : (q v : ℕ) {s' : List ℕ} {σ : Field → ℕ} → Reads B L none_out s' σ → σ clock ≡ get s clock → σ free ≡ get s free
        → ((i : ℕ) → (σ (Idle, i) ≡ get s (Idle, i)) × (σ (Time, i) ≡ get s (Time, i)) × (σ (Deadline, i) ≡ get s (Deadline, i)) × (σ (Mask, i) ≡ get s (Mask, i)))
        → ((i : ℕ) → q ≢ i → (q ≡ 4 → i ≢ 3) → σ (Latch, i) ≡ get s (Latch, i))
        → ((i : ℕ) → (q ≡ 3 → v ≢ i) → (σ (Outgoing, i) ≡ get s (Outgoing, i)) × (σ (Delay, i) ≡ get s (Delay, i)) × (σ (Routes, i) ≡ get s (Routes, i)))
        → ((p : ℕ) → (q ≡ 5 → has (get s (Latch, 3)) p ≡ false) → σ (Horizon, p) ≡ get s (Horizon, p)) → ControlLeaves B q v r (with-state B L r s')
    reads-leave q v P t n slots latch entry horizon = record {
      memory = refl;
      clock = P.reads clock refl (omega arith) ∙ t;
      free = P.reads free refl (omega arith) ∙ n;
      slots = λ i l. let (a, b, d, e) = slots i in (P.reads (Idle, i) refl l ∙ a, P.reads (Time, i) refl l ∙ b, P.reads (Deadline, i) refl l ∙ d, P.reads (Mask, i) refl l ∙ e);
      latch = λ i l a b. P.reads (Latch, i) refl l ∙ latch i a b;
      entry = λ i l h. let (a, b, d) = entry i h in (P.reads (Outgoing, i) refl l ∙ a, P.reads (Delay, i) refl l ∙ b, P.reads (Routes, i) refl l ∙ d);
      horizon = λ p l h. P.reads (Horizon, p) refl l ∙ horizon p h;
    }

    -- One store in the latch.
    latch-leaves : (q v n : ℕ) → n < 4 → ((i : ℕ) → q ≢ i → (q ≡ 4 → i ≢ 3) → n ≢ i) → ControlLeaves B q v r (with-state B L r (put r.state (Latch, n) v))
    latch-leaves q v n l d =
        reads-leave q v (reads-put B L (reads_self B L s sized) (Latch, n) v l) refl refl (λ i. (refl, refl, refl, refl)) (λ i a b. rw (ne_eqb n i (d i a b))) (λ i a. (refl, refl, refl)) (λ p a. refl)

    -- Three stores in the table.
    entry-leaves : (v : ℕ) → v < 256 → ControlLeaves B 3 v r (with-state B L r (commit_entry B v r.state))
    entry-leaves v hv =
        reads-leave 3 v (reads-put B L (reads-put B L (reads-put B L (reads_self B L s sized) (Outgoing, v) (get s (Latch, 0)) hv) (Delay, v) (get s (Latch, 1)) hv) (Routes, v) (get s (Latch, 2)) hv)
        refl refl (λ i. (refl, refl, refl, refl)) (λ i a b. refl) (λ i a. let no = ne_eqb v i (a refl) in (rw no, rw no, rw no)) (λ p a. refl)

    -- The horizons of the ports in register 4, one after the other.
    committed : (m v n : ℕ) → n ≤ 5 → Reads B L none_out (commit_horizon B n m v r.state) (marked B L Horizon (has m) v (get r.state) n)
    unfolding commit_horizon
    committed m v zero l = marked-none B L Horizon (has m) v (get s) (reads_self B L s sized)
    committed m v (suc n) l = marked_next B L Horizon (has m) v (get s) n (committed m v n (omega arith)) (omega arith)

    horizon-leaves : (v : ℕ) → ControlLeaves B 5 v r (with-state B L r (commit_horizon B 5 (get r.state (Latch, 3)) v r.state))
    horizon-leaves v = reads-leave 5 v (committed (get s (Latch, 3)) v 5 (omega arith)) refl refl (λ i. (refl, refl, refl, refl)) (λ i a b. refl) (λ i a. (refl, refl, refl)) (λ p a. rw (a refl, and-false (ltb p 5)))

    -- Register by register.
    written-leaves : (q v : ℕ) → q ≤ 5 → fits c q v ≡ true → ControlLeaves B q v r (with-state B L r (written B q v r.state))
    unfolding written fits
    written-leaves zero v l f = latch-leaves 0 v 0 (omega arith) (λ i a b. a)
    written-leaves (suc zero) v l f = latch-leaves 1 v 1 (omega arith) (λ i a b. a)
    written-leaves (suc (suc zero)) v l f = latch-leaves 2 v 2 (omega arith) (λ i a b. a)
    written-leaves (suc (suc (suc zero))) v l f = entry-leaves v (ltb-true v 256 f)
    written-leaves (suc (suc (suc (suc zero)))) v l f = latch-leaves 4 v 3 (omega arith) (λ i a b e. b refl (sym e))
    written-leaves (suc (suc (suc (suc (suc zero))))) v l f = horizon-leaves v
    written-leaves (suc (suc (suc (suc (suc (suc n)))))) v l f = absurd (omega arith)

  -- ---- steps 2 and 3

  -- The winner is one of the 256 slots.
  grant-slot : (s : List ℕ) (b p : ℕ) → Slot (grant B s b p)
  unfolding grant granted
  grant-slot s b p = go (least comparator (candidate B s p) 256) refl (has b p)
    where
      cases : (i : ℕ) → i < 256 → (a t d : Bool) → Slot (cond a (cond t best_effort (cond d (early i) nobody)) (on_time i))
      cases i l false t d = l
      cases i l true true d = tt
      cases i l true false true = l
      cases i l true false false = tt

      go : (v : Option (ℕ × Key)) → least comparator (candidate B s p) 256 ≡ v → (t : Bool) → Slot (granted v t (get s (Horizon, p)))
      go none e true = tt
      go none e false = tt
      go (some (i, k)) e t = cases i (least-in comparator (candidate B s p) 256 i k e).0 k.early t (le_z k.key (pos (get s (Horizon, p))))

  -- Sending stores a mask.
  sent-reads : {s : List ℕ} {σ : Field → ℕ} (p : ℕ) (g : Grant ℕ) → Slot g → Reads B L masks s σ → Reads B L masks (sent B p g s) σ
  unfolding sent
  sent-reads p nobody l R = R
  sent-reads p best_effort l R = R
  sent-reads {s} p (on_time i) l R = reads-off B L R (Mask, i) (without (get s (Mask, i)) p) l refl
  sent-reads {s} p (early i) l R = reads-off B L R (Mask, i) (without (get s (Mask, i)) p) l refl

  -- So does serving the ports below p.
  served-reads : (s : List ℕ) → length s ≡ state_length → (b p : ℕ) → Reads B L masks (served B p b s) (get s)
  unfolding served
  served-reads s z b zero = reads_self B L s z
  served-reads s z b (suc p) = let s' = served B p b s in sent-reads p (grant B s' b p) (grant-slot s' b p) (served-reads s z b p)

  -- ---- a tick

  module _ {r : Store} {w : Router} (R : Rel B L r w) (G : Good c w) (call : TickCall) (I : Input c w.clock call) where
    abbrev r₁ : Store
    r₁ = arrived B 5 call.arriving call.arrivals r

    abbrev s₁ : List ℕ
    s₁ = r₁.state

    abbrev s₂ : List ℕ
    s₂ = served B 5 call.best_effort s₁

    abbrev s₄ : List ℕ
    s₄ = returned B 256 s₁ (withdrawn B 256 s₂)

    abbrev o : Outcome Store
    o = ticked B r call.arriving call.best_effort call.arrivals

    X : Taken B L r r₁
    X = arrivals-taken B L R G call.arriving call.arrivals I.whole 5 (omega arith)

    M : Reads B L masks s₂ (get s₁)
    M = served-reads s₁ X.sized call.best_effort 5

    -- The last step stores the clock.
    last : (k : Kind) → same_kind Clock k ≡ false → (i : ℕ) → Valid (k, i) → get o.after.state (k, i) ≡ get s₄ (k, i)
    unfolding ticked
    last k e i v =
        let v' = plus (bits c) (get s₄ clock) 1 in
        L.get-put s₄ clock v' (k, i) (sym (L.length-put s₄ clock v') ∙ (tick-rel B L R G call I).settings.sized) (omega arith) v ∙ rw e

    -- The answers say how many addresses were taken.
    taken-count : get s₁ free + stored_by o.reply.answers ≡ get r.state free
    unfolding stored_by ticked
    taken-count =
        let n = rel-free B L R in
        let m = rel-free B L (arrived-rel B L R G call I 5 (omega arith)) in
        let k = arrivals-free c w call 5 in
        let same = count_same (λ q. eqb (byte o.reply.answers (5 + q)) 1) (λ q. eqb (arrival_code (meets c call (after c w call q) q)) 1) 5 (λ q l.
        ap (λ (a : ℕ). eqb a 1) ((answer_at (λ p. grant_code (grant B (served B p call.best_effort s₁) call.best_effort p)) (λ p. arrival B (arrived B p call.arriving call.arrivals r).state call.arriving p (packet call.arrivals p)) (withdrawals B s₂) q l).1 ∙ arrived-code B L R G call I q l)) in
        omega arith

    -- A setting is what the router has before and after.
    abbrev w' : Router
    w' = (Whole.ticked c w call).router

    R' : Rel B L o.after w'
    R' = tick-rel B L R G call I

    -- All of it.
    pub tick-leaves : TickLeaves B r o.after o.reply.answers
    unfolding ticked Whole.ticked
    tick-leaves =
        let F = ended-frame c w call in
        let S = R.settings in
        let S' = R'.settings in
        record {
          horizon = λ p l. S'.reads (Horizon, p) refl l ∙ ap (λ (v : Router). v.horizon p) F ∙ sym (S.reads (Horizon, p) refl l);
          latch = λ q l. S'.reads (Latch, q) refl l ∙ ap (λ (v : Router). v.latch q) F ∙ sym (S.reads (Latch, q) refl l);
          entry = λ i l. (
            S'.reads (Outgoing, i) refl l ∙ ap (λ (v : Router). (v.entry i).identifier) F ∙ sym (S.reads (Outgoing, i) refl l),
            S'.reads (Delay, i) refl l ∙ ap (λ (v : Router). (v.entry i).delay) F ∙ sym (S.reads (Delay, i) refl l),
            S'.reads (Routes, i) refl l ∙ ap (λ (v : Router). (v.entry i).mask) F ∙ sym (S.reads (Routes, i) refl l),
          );
          idle = λ j l q.
              let n = taken-count in
              let a = M.reads free refl (omega arith) in
              let b = last Free refl 0 (omega arith) in
              last Idle refl j l ∙ tick-entries B L R G call I j l (⊎_elim (λ h. inl (omega arith)) (λ h. inr (omega arith)) q) ∙ M.reads (Idle, j) refl l ∙ X.entries j l;
          slot = λ i l n.
              let U = X.others i l (λ j a b. n j (let k = taken-count in omega arith) b) in (
                last Time refl i l ∙ tick-slots B L R G call I Time refl refl i l ∙ M.reads (Time, i) refl l ∙ U.time,
                last Deadline refl i l ∙ tick-slots B L R G call I Deadline refl refl i l ∙ M.reads (Deadline, i) refl l ∙ U.deadline,
                λ m h. sym (packet-byte o.after.memory i m h) ∙ ap (λ (k : List ℕ). byte k m) U.bytes ∙ packet-byte r.memory i m h,
              );
        }

  -- ---- the claim

  -- A control write that is due 0 has a register, and its value fits.
  passed : (q v : ℕ) → number_due c (control q v) ≡ 0 → (q ≤ 5) × (fits c q v ≡ true)
  unfolding refusal
  passed q v e =
      let (p, f) = asked-passed (leb q 5) 3 ((fits c q v, 5) ∷ []) (number-due c (start 0) (control q v) ∙ e) in
      (leb-true q 5 p, (asked-passed (fits c q v) 4 [] f).0)

  -- True times of a tick at the clock T.
  abbrev timed : ℤ → TickCall → TickCall
  timed T k = record { arriving = k.arriving; best_effort = k.best_effort; arrivals = k.arrivals; times = λ p. T +ℤ offset (bits c) (stamp c (packet k.arrivals p)) (cut (bits c) T) }

  timed-input : (T : ℤ) (k : TickCall) → length k.arrivals ≡ 100 → Bytes k.arrivals → Input c T (timed T k)
  unfolding Bytes
  timed-input T k whole bytes =
      let times = true-time c L.some_bytes L.few_bytes T (timed T k) (λ p. refl) whole bytes in
      record {
        whole = whole;
        identifier = λ p l. subst (λ (n : ℕ). n < 256) (sym (packet-byte k.arrivals p 0 (omega arith))) (bytes (20 * p + 0) (omega arith));
        soon = λ p l h. (times p l).to.lt;
        from = λ p l h. (times p l).from.le;
        header = λ p l h. stamp-number c k.arrivals p L.few_bytes (omega arith) ∙ (times p l).header;
      }

  -- An accepted call meets a sound store, which shows a router; and a tick can be given true times, of which it sees nothing.
  pub leaves : Leaves B
  unfolding byte_step Entry.control_write Entry.tick ticked
  leaves = record {
    control = λ r bs bm q v e.
        let n = control_refusal B r q v in
        let (m, k) = refused B n (record { reply = number_reply 0; after = with-state B L r (written B q v r.state) }) (record { reply = number_reply n; after = r }) refl refl in
        let N = ((entry-laws B).control r q v).0 in
        let (sized, sound) = N.accepted e in
        let (l, f) = passed q v (sym (N.sound sized sound) ∙ e) in
        rw (eq-eqb n 0 (sym m ∙ e)) (written-leaves r sized.0 q v l f);
    tick = λ r bs bm k out ans ba e.
        let n = tick_refusal B r k.arriving k.best_effort k.arrivals out ans in
        let (m, q) = refused B n (ticked B r k.arriving k.best_effort k.arrivals) (record { reply = record { number = n; outgoing = out; answers = ans }; after = r }) refl refl in
        let ((sized, whole, a, b), sound) = ((entry-laws B).tick r k out ans).0.accepted e in
        let Q : SoundStore B r = record { state = bs; memory = bm; sized = sized; sound = sound } in
        let S = shows-router B L r Q in
        let T = (router_of B L r).clock in
        rw (eq-eqb n 0 (sym m ∙ e)) (tick-leaves (shows-rel B L Q S) (shows-good B L Q S) (timed T k) (timed-input T k whole ba));
  }

-- The board of document 01 is lawful.
pub calls_leave : Leaves board8
calls_leave = leaves board8 lawful8
