-- Both routers agree over any list of calls, for every lawful board: call by call, the relation of store and router is kept and the replies are equal. Assumes nothing.
use Prim.Native.Nat.{ℕ, zero, suc, ◌+◌, ◌-◌, ◌^◌, ◌<◌}
use mathlib.Core.Path.{◌≡◌, refl, sym, ap, ap₂, subst, ◌∙◌}
use mathlib.Core.Bool.{Bool, true, false, cond}
use mathlib.Core.List.{List, [], ◌∷◌, map}
use mathlib.Core.Option.{Option, none, some}
use native.Mathlib.Omega.{arith}
use lib.ListN.{length, take, get_or, length-replicate}
use lib.Dec.{leb, eqb}
use lib.IntN.{ℤ, pos}
use borrow.Author.Tests.{eq-eqb, eqb-true, leb-true}
use Rattle.rules.specs.Account.{NotedTick, Kept, stored}
use Rattle.rules.specs.Areas.{Store, Reply, Outcome, number_reply, bits, fits, elem, distinct, asked, control_questions, tick_questions}
use Rattle.rules.specs.Board.{Board, Horizon, Latch, Idle, Mask, Outgoing, Delay, Routes, clock, free}
use Rattle.rules.specs.Calls.{Call, control, tick, after_all, replies, refusal, refuse, accept, whole_step}
use Rattle.rules.specs.Given.{number_due, AsWritten, is_tick, accepted_ticks, ByteCall, TrueTimes, clock_after, Proper}
use Rattle.rules.specs.Questions.{full, written, control_refusal, tick_refusal, fresh, make_fresh, stack}
use Rattle.rules.specs.Demand3.{noted, byte_step, history, our_bytes, our_whole, PlaceShown, Shown, AfterCalls, Holds}
use Rattle.rules.specs.Order.{all, count, counted, top_first}
use Rattle.rules.specs.Questions as Entry
use Rattle.rules.specs.Tick as Tick
use Rattle.rules.specs.Whole.{Held, Router, TickCall, start, written as whole_written, ticked, is_held}
use Rattle.rules.proofs.BoardLaws.{Laws, fresh_field}
use Rattle.rules.proofs.Booleans.{asked-passed, none-some}
use Rattle.rules.proofs.IndexLaws.{all-at}
use Rattle.rules.proofs.Good.{Busy, Good, tick-good}
use Rattle.rules.proofs.Runs.{written-good, input_of, Ticking, Run, rest, quiet, ticks}
use Rattle.rules.proofs.RunPrompt.{accounts}
use Rattle.rules.proofs.ByteLaws.{packet-at, top_first-at}
use Rattle.rules.proofs.GivenLaws.{number-due, step-number, step-clock, numbers-due, step_kept, start-written, settings-written}
use Rattle.rules.proofs.TimeLaws.{cut-pos, half_pos}
use Rattle.rules.proofs.StateLaws.{top_first-same}
use Rattle.rules.proofs.Soundness.{at-elem, sound-asked}
use Rattle.rules.proofs.Relation.{shown, on-settings, SlotShows, Rel, rel-free, with-state}
use Rattle.rules.proofs.Refine.{rel-sound, rel-full, tick-rel, reply-same, sends-same, answers-same}
use Rattle.rules.proofs.RefineControl.{written-rel}

-- ---- the router at its start is good

-- By computed tests: every place is free, once, and none is held.
start-kept : Kept (λ i. none) (top_first (λ i. 255 - i) 256)
unfolding all distinct elem top_first stored count counted is_held
start-kept = record { once = refl; places = λ i e. let (k, h, q) = at-elem (λ i. 255 - i) i 256 e in omega arith; idle = λ i l. all-at (λ i. elem i (top_first (λ i. 255 - i) 256)) 256 i refl l; all = refl }

-- Nothing is held, all places are free, and every setting is 0.
pub start-good : (c t : ℕ) → Good c (start t)
unfolding start
start-good c t = record {
  settings = record { entry = λ i l. record { delay = half_pos c; mask = omega arith }; horizon = λ p l. half_pos c; latch = record { delay = half_pos c; mask = omega arith }; ports = omega arith };
  kept = start-kept;
  window = λ i l h e. none-some e;
  busy = λ i l h e. none-some e;
}

start-empty : (t i : ℕ) → (start t).place i ≡ none
unfolding start
start-empty t i = refl

module _ (B : Board) (L : Laws B) where
  open B use {clock_bytes as c, state_length, get, put, fresh_state}

  -- The fresh state reads as the router at its start, field by field.
  pub fresh-rel : (t : ℕ) → t < 2 ^ bits c → Rel B L (fresh B t) (start t)
  unfolding fresh start stack
  fresh-rel t h = record {
    settings = record {
      sized = L.length-fresh t;
      reads = λ f e v. L.get-fresh t f v ∙ on-settings (fresh_field t) (shown c (start t)) (sym (cut-pos (bits c) t h)) (λ p l. refl) (λ q l. refl) (λ i l. (refl, refl, refl)) f e v;
    };
    whole = length-replicate {A = ℕ} 5120 0;
    place = λ i l. L.get-fresh t (Mask, i) l;
    stack =
        ap (top_first (λ i. get (fresh_state t) (Idle, i))) (L.get-fresh t free (omega arith))
        ∙ top_first-same (λ i. get (fresh_state t) (Idle, i)) (λ i. 255 - i) 256 (λ i l. L.get-fresh t (Idle, i) l);
  }

  -- ---- one call

  -- The two outcomes of a call at the router w agree, and what it notes makes a run.
  pub record Agree (w : Router) (k : Call) (o : Outcome Store) (q : Outcome Router) : Type 0 where
    pub rel : Rel B L o.after q.after
    pub good : Good c q.after
    pub reply : o.reply ≡ q.reply
    pub runs : {past : List Call} → AsWritten c past w → {h : List NotedTick} {z : Router} → Run c q.after h z → Run c w (noted (our_whole B).report past w k q.reply.number o.reply h) z

  module _ {r : Store} {w : Router} (R : Rel B L r w) (G : Good c w) where
    -- Lengths and soundness are passed, so the other questions decide.
    pub control-number : (register v : ℕ) → control_refusal B r register v ≡ refusal c w (control register v)
    unfolding control_refusal refusal asked
    control-number register v = rw (rel-full B L R G, sound-asked B 15 r (control_questions c register v) (rel-sound B L R G))

    pub tick-number : (k : TickCall) (out ans : List ℕ) → tick_refusal B r k.arriving k.best_effort k.arrivals out ans ≡ refusal c w (tick k out ans)
    unfolding tick_refusal refusal asked
    tick-number k out ans = rw (rel-full B L R G, sound-asked B 15 r (tick_questions k.arriving k.best_effort) (rel-sound B L R G))

    -- Both questions are passed.
    pub control-passed : (register v : ℕ) → refusal c w (control register v) ≡ 0 → (leb register 5 ≡ true) × (fits c register v ≡ true)
    unfolding refusal
    control-passed register v e = let (p, f) = asked-passed (leb register 5) 3 ((fits c register v, 5) ∷ []) e in (p, (asked-passed (fits c register v) 4 [] f).0)

    -- An accepted call agrees, or a refused one.
    decided : {k : Call} {o o' : Outcome Store} {q q' : Outcome Router} (a : Bool) → (a ≡ true → Agree w k o q) → (a ≡ false → Agree w k o' q') → Agree w k (cond a o o') (cond a q q')
    decided true f g = f refl
    decided false f g = g refl

    -- An accepted call by the lemma of its kind, a refused one changes nothing in either router.
    pub agree : (k : Call) → ByteCall c k → TrueTimes c w.clock k → Agree w k (byte_step B r k) (whole_step c w k)
    unfolding byte_step Entry.control_write Entry.tick whole_step accept refuse noted whole_written ticked
    agree (control register v) hb ht = rw (control-number register v) (decided (eqb (refusal c w (control register v)) 0) accepted (λ e. record { rel = R; good = G; reply = refl; runs = λ W S. S }))
      where
        accepted : eqb (refusal c w (control register v)) 0 ≡ true → Agree w (control register v) (record { reply = number_reply 0; after = with-state B L r (written B register v r.state) }) (accept c w (control register v))
        accepted e =
            let (p, q) = control-passed register v (eqb-true (refusal c w (control register v)) 0 e) in
            let l = leb-true register 5 p in
            record { rel = written-rel B L R G.kept register v l q; good = written-good c w G register v l q; reply = refl; runs = λ W S. quiet refl refl refl S }
    agree (tick k out ans) hb ht = rw (tick-number k out ans) (decided (eqb (refusal c w (tick k out ans)) 0) accepted (λ e. record { rel = R; good = G; reply = refl; runs = λ W S. rw e S }))
      where
        t : Outcome Store
        t = Tick.ticked B r k.arriving k.best_effort k.arrivals

        d : List Call → NotedTick
        d past = record { past = past; met = w; call = k; report = (ticked c w k).report; outgoing = t.reply.outgoing; answers = t.reply.answers }

        accepted : eqb (refusal c w (tick k out ans)) 0 ≡ true → Agree w (tick k out ans) t (accept c w (tick k out ans))
        accepted e =
            let I = input_of c L.few_bytes w k out ans hb ht (eqb-true (refusal c w (tick k out ans)) 0 e) in
            let u : (past : List Call) → AsWritten c past w → Ticking c (d past) = λ past W. record { good = G; settings = W; input = I; report = refl; sends = sends-same B L R G k I; answers = answers-same B L R G k I } in
            record { rel = tick-rel B L R G k I; good = tick-good c w k G I; reply = reply-same B L R G k I; runs = λ {past} W S. ticks (d past) (u past W) S }

  -- ---- a list of calls

  -- The two runs agree: relation, replies, and what was noted makes a run, where the settings are what was written.
  pub record Agreed (r : Store) (w : Router) (ks : List Call) : Type 0 where
    pub rel : Rel B L (after_all (byte_step B) r ks) (after_all (whole_step c) w ks)
    pub good : Good c (after_all (whole_step c) w ks)
    pub replies : replies (byte_step B) r ks ≡ replies (whole_step c) w ks
    pub run : {past : List Call} → AsWritten c past w → Run c w (history (our_bytes B) (our_whole B) past r w ks) (after_all (whole_step c) w ks)

  -- Call by call.
  pub agreed : (ks : List Call) {r : Store} {w : Router} → Rel B L r w → Good c w → Proper c w.clock ks → Agreed r w ks
  unfolding after_all replies history Proper
  agreed [] R G P = record { rel = R; good = G; replies = refl; run = λ W. rest G }
  agreed (k ∷ ks) {r} {w} R G P =
      let a = agree R G k P.0 P.1 in
      let b = agreed ks a.rel a.good (subst (λ (T : ℤ). Proper c T ks) (sym (step-clock c w k)) P.2) in
      record { rel = b.rel; good = b.good; replies = ap₂ (λ (x : Reply) (l : List Reply). x ∷ l) a.reply b.replies; run = λ W. a.runs W (b.run (step_kept c W k)) }

  -- The calls up to a noted tick.
  abbrev seen : NotedTick → List Call × TickCall
  seen d = (d.past, d.call)

  -- Each accepted tick is noted, and no other call: by induction over the calls.
  noted-ticks : (ks past : List Call) (r : Store) (w : Router) → map seen (history (our_bytes B) (our_whole B) past r w ks) ≡ accepted_ticks c past ks
  unfolding history noted accepted_ticks is_tick
  noted-ticks [] past r w = refl
  noted-ticks (control register v ∷ ks) past r w = noted-ticks ks (control register v ∷ past) (byte_step B r (control register v)).after (whole_step c w (control register v)).after
  noted-ticks (tick k out ans ∷ ks) past r w =
      let j = tick k out ans in
      let h = history (our_bytes B) (our_whole B) (j ∷ past) (byte_step B r j).after (whole_step c w j).after ks in
      rw (step-number c w j ∙ number-due c w j, ← noted-ticks ks (j ∷ past) (byte_step B r j).after (whole_step c w j).after) (go (eqb (number_due c j) 0) h)
    where
      go : (b : Bool) (h : List NotedTick) → map seen (cond b (record { past = past; met = w; call = k; report = (ticked c w k).report; outgoing = (byte_step B r (tick k out ans)).reply.outgoing; answers = (byte_step B r (tick k out ans)).reply.answers } ∷ h) h)
          ≡ cond b ((past, k) ∷ map seen h) (map seen h)
      go true h = refl
      go false h = refl

  -- A slot shows its place, which has a port left.
  place-shown : (r : Store) (i : ℕ) (v : Option Held) → ((x : Held) → v ≡ some x → Busy x × (length x.packet.payload ≡ 20 - (1 + c))) → SlotShows B L r i v → PlaceShown B r i v
  place-shown r i none b h = h
  place-shown r i (some x) b h = let (busy, size) = b x refl in record { time = h.time; deadline = h.deadline; left = (h.left, busy); bytes = packet-at c r.memory i x.packet L.some_bytes L.few_bytes size h.bytes }

  -- The relation is what is claimed of state and memory.
  pub rel-shown : {r : Store} {w : Router} → Rel B L r w → Good c w → Shown B r w
  unfolding stack
  rel-shown {r} {w} R G =
      let S = R.settings in
      let n = rel-free B L R in
      record {
        clock = S.reads clock refl (omega arith);
        horizon = λ p l. S.reads (Horizon, p) refl l;
        latch = λ q l. S.reads (Latch, q) refl l;
        identifier = λ i l. S.reads (Outgoing, i) refl l;
        delay = λ i l. S.reads (Delay, i) refl l;
        routes = λ i l. S.reads (Routes, i) refl l;
        place = λ i l. place-shown r i (w.place i) (λ x e. (G.busy i l x e, (G.window i l x e).window.size)) (R.place i l);
        free = (let k = G.kept.all in omega arith, n);
        stack = λ i l.
            ap (λ (n : ℕ). get r.state (Idle, n - 1 - i)) (sym n) ∙ sym (top_first-at (λ i. get r.state (Idle, i)) (get r.state free) i (omega arith)) ∙ ap (λ (l : List ℕ). get_or l i 0) R.stack;
      }

  -- A beginning of a proper list is proper.
  proper-take : (n : ℕ) (ks : List Call) (T : ℤ) → Proper c T ks → Proper c T (take n ks)
  unfolding Proper
  proper-take zero ks T P = tt
  proper-take (suc n) [] T P = tt
  proper-take (suc n) (k ∷ ks) T P = (P.0, P.1, proper-take n ks (clock_after c T k) P.2)

  -- Areas of their lengths are made fresh.
  pub fresh-made : (r : Store) → length r.state ≡ state_length → length r.memory ≡ 5120 → (t : ℕ) → make_fresh B r t ≡ record { reply = number_reply 0; after = fresh B t }
  unfolding make_fresh full
  fresh-made r s m t = rw (eq-eqb (length r.state) state_length s, eq-eqb (length r.memory) 5120 m)

  -- The whole claim for one list.
  after-calls : (t : ℕ) → t < 2 ^ bits c → (ks : List Call) → Proper c (pos t) ks → AfterCalls B (our_bytes B) (our_whole B) (record { reply = number_reply 0; after = fresh B t }) t ks
  unfolding start
  after-calls t h ks P =
      let a = agreed ks (fresh-rel t h) (start-good c t) P in
      record {
        made = refl;
        numbers = numbers-due c (start t) ks;
        agree = a.replies;
        sound = (a.rel.settings.sized, a.rel.whole, rel-sound B L a.rel a.good);
        shown = rel-shown a.rel a.good;
        settings = settings-written c t ks;
        ticks = noted-ticks ks [] (fresh B t) (start t);
        accounts = accounts c (a.run (start-written c t)) (start-empty t) L.some_bytes L.few_bytes refl;
      }

  -- And so for each of its beginnings, whatever the areas held.
  pub holds : Holds B (our_bytes B) (our_whole B)
  unfolding Holds
  holds r s m t h ks P n l = subst (λ (o : Outcome Store). AfterCalls B (our_bytes B) (our_whole B) o t (take n ks)) (sym (fresh-made r s m t)) (after-calls t h (take n ks) (proper-take n ks (pos t) P))
