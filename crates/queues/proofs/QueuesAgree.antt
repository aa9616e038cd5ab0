-- The engine agrees with the comparator: filled queues hold what they should, and where queues do, their first ones are the comparator's winners, and every call leaves
-- such queues. By induction over the calls, beside the router that never turns over, whose times say which slots are due and whose time has come. Assumes nothing.
use Prim.Native.Nat.{ℕ, zero, suc, ◌+◌, ◌-◌, ◌<◌, ◌≤◌}
use mathlib.Core.Path.{◌≡◌, refl, sym, ap, ap₂, subst, ◌∙◌}
use mathlib.Core.Bool.{Bool, true, false, cond, true≢false}
use mathlib.Core.List.Memᴰ
use mathlib.Core.List.{List, [], ◌∷◌, Memᴰ}
use mathlib.Core.Option.{Option, none, some}
use native.Mathlib.Omega.{arith}
use lib.ListN.{length}
use lib.Dec.{eqb}
use lib.IntN.{ℤ}
use borrow.Author.Tests.{eqb-true, eq-eqb, leb-true}
use Rattle.rules.specs.Areas.{Store, Outcome, Reply, byte, packet, ports_below, answers_area, Grant, nobody, best_effort, on_time, early, grant_code, asked}
use Rattle.rules.specs.Board.{Board, Deadline, Mask, clock, free, board8}
use Rattle.rules.specs.Calls as Calls
use Rattle.rules.specs.Calls.{Call, whole_step, after_all, replies}
use Rattle.rules.specs.Given.{ByteCall, TrueTimes, Proper}
use Rattle.rules.specs.Demand3.{byte_step}
use Rattle.rules.specs.Questions.{control_refusal, tick_refusal, written}
use Rattle.rules.specs.Questions as Entry
use Rattle.rules.specs.Tick.{arrival, arrived, grant, grant_bytes, served, is_due}
use Rattle.rules.specs.Tick as Tick
use Rattle.rules.specs.Whole.{Held, Router, TickCall}
use Rattle.rules.specs.Whole as Whole
use Rattle.rules.proofs.AreaLaws.{packet-per_port}
use Rattle.rules.proofs.Agreement.{agree, control-number, tick-number, control-passed}
use Rattle.rules.proofs.BoardLaws.{Laws}
use Rattle.rules.proofs.Board8Laws.{lawful8}
use Rattle.rules.proofs.Feed.{fed, feed, feed-proper}
use Rattle.rules.proofs.Good.{Good, Input, after, window-then}
use Rattle.rules.proofs.RefineArrivals.{arrived-rel}
use Rattle.rules.proofs.RefineControl.{written-rel}
use Rattle.rules.proofs.Runs.{input_of}
use Rattle.rules.proofs.Relation.{SlotShows, Rel}
use Rattle.passes.specs.Sends.{Winner, sent_by}
use Rattle.passes.proofs.Packets.{length-won}
use Rattle.passes.proofs.Sends.{granted-wins, granted-served, granted-ports}
use Rattle.rules.proofs.Soundness.{sound-asked}
use Rattle.any_state.proofs.Showing.{shows-rel, shows-good}
use Rattle.any_state.proofs.SoundKept.{router_of, sound-store, shows-router, fed-bytes}
use Rattle.any_state.specs.AnySound.{SoundStore, Shows}
use Rattle.queues.specs.Table1.{Holds}
use Rattle.queues.specs.Area.{queues_length}
use Rattle.queues.specs.Engine.{Bench, each_port, sent_from, received, queue_grant, due_from, move_over, arrived_bench, ticked_by, ticked}
use Rattle.queues.specs.Engine as Engine
use Rattle.queues.specs.QueuesAgree.{AllHold, SendsFirst, FirstsSent, AfterCalls, Agrees, QueuesAgree, bench_step}
use Rattle.queues.proofs.ListLaws.{length-dropped}
use Rattle.queues.proofs.ChoiceLaws.{choice-same, choice-first, Firsts}
use Rattle.queues.proofs.EngineLaws.{held, length-filled, length-received, length-sent, sent-held, length-due, due-on-time, due-early, length_moved, moved-early, moved-on-time}
use Rattle.queues.proofs.ArrivalLaws.{filled-holds, received-holds}
use Rattle.queues.proofs.HoldLaws.{sizes-most, questions-same, holds-still}
use Rattle.queues.proofs.SendingLaws.{sent-other, sent-lists}
use Rattle.queues.proofs.TickEndLaws.{early-ends, on-time-ends}

-- A port's answer is its code.
answers-code : (g m n : ℕ → ℕ) (p : ℕ) → p < 5 → byte (answers_area g m n) p ≡ g p
unfolding answers_area ports_below
answers-code g m n zero h = refl
answers-code g m n (suc zero) h = refl
answers-code g m n (suc (suc zero)) h = refl
answers-code g m n (suc (suc (suc zero))) h = refl
answers-code g m n (suc (suc (suc (suc zero)))) h = refl
answers-code g m n (suc (suc (suc (suc (suc p))))) h = absurd (omega arith)

module _ (B : Board) (L : Laws B) where
  open B use {clock_bytes as c, state_length, get}

  -- ---- an accepted tick

  module _ {r : Store} {w : Router} (R : Rel B L r w) (G : Good c w) (call : TickCall) (I : Input c w.clock call) where
    abbrev waiting : ℕ
    waiting = call.best_effort

    abbrev r₁ : Store
    r₁ = arrived B 5 call.arriving call.arrivals r

    abbrev s₁ : List ℕ
    s₁ = r₁.state

    R₁ : Rel B L r₁ (after c w call 5)
    R₁ = arrived-rel B L R G call I 5 (omega arith)

    -- Masks have five bits.
    small : (j : ℕ) → j < 256 → get s₁ (Mask, j) ≤ 31
    unfolding Whole.served
    small j l = go ((after c w call 5).place j) refl (R₁.place j l)
      where
        go : (v : Option Held) → (after c w call 5).place j ≡ v → SlotShows B L r₁ j v → get s₁ (Mask, j) ≤ 31
        go none e h = omega arith
        go (some h) e H = let f = (window-then c w call G I 0 (omega arith) j l h e).left in let m = H.left in omega arith

    -- The queues that the ports choose from hold what they should.
    module _ (q : List ℕ) (H : AllHold B (record { store = r₁; queues = q })) where
      abbrev g : ℕ → Grant ℕ
      g = queue_grant B s₁ q waiting

      -- The ports choose as by the comparator.
      same : (p : ℕ) → p < 5 → g p ≡ grant B s₁ waiting p
      same p h = choice-same B s₁ q waiting p (H.holds p h false) (H.holds p h true)

      sized : length s₁ ≡ state_length
      sized = R₁.settings.sized

      wins : (p : ℕ) → p < 5 → Winner B s₁ p (g p)
      wins = granted-wins B L s₁ sized waiting g same

      third : sent_by B g 5 s₁ ≡ served B 5 waiting s₁
      third = granted-served B L s₁ sized waiting g same

      abbrev met : ℕ → ℕ
      met p = arrival B (arrived B p call.arriving call.arrivals r).state call.arriving p (packet call.arrivals p)

      abbrev outcome : Outcome Bench
      outcome = ticked_by B g met (record { store = r₁; queues = q })

      abbrev expected : Outcome Store
      expected = Tick.ticked B r call.arriving waiting call.arrivals

      -- So the reply and the store are the comparator's.
      reply-same : outcome.reply ≡ expected.reply
      unfolding ticked_by Tick.ticked answers_area
      reply-same = rw (third, granted-ports B L s₁ sized waiting g same (grant_bytes r₁.memory), granted-ports B L s₁ sized waiting g same (λ x. grant_code x ∷ []))

      store_same : outcome.after.store ≡ expected.after
      unfolding ticked_by Tick.ticked
      store_same = rw third

      -- ---- the queues after it

      abbrev s₃ : List ℕ
      s₃ = served B 5 waiting s₁

      abbrev s₆ : List ℕ
      s₆ = expected.after.state

      abbrev q₃ : List ℕ
      q₃ = each_port (λ p. sent_from (g p) p) 5 q

      abbrev q₄ : List ℕ
      q₄ = each_port (due_from B s₁) 5 q₃

      sized₃ : length q₃ ≡ queues_length
      sized₃ = length-sent g q H.sized

      sized₄ : length q₄ ≡ queues_length
      sized₄ = length-due B s₁ q₃ sized₃

      module _ (p : ℕ) (h : p < 5) where
        sent-hold : (e : Bool) → Holds B s₃ p e (held q₃ p e)
        sent-hold e =
            rw (sent-held g q H.sized p h e, ← third)
            (sent-lists B L s₁ sized small g wins p h (held q p) (H.holds p h) (choice-first B s₁ q waiting p (H.holds p h false) (H.holds p h true)) e)

        -- Serving changes no deadline.
        due-same : (j : ℕ) → j < 256 → is_due B s₁ j ≡ is_due B s₃ j
        due-same j l = sym (ap₂ eqb (ap (λ (s : List ℕ). get s (Deadline, j)) (sym third) ∙ sent-other B L s₁ sized small g wins (Deadline, j) l refl) (ap (λ (s : List ℕ). get s clock) (sym third) ∙ sent-other B L s₁ sized small g wins clock (omega arith) refl))

        -- There is room for all in one queue.
        room : length (held q₄ p false) + length (held q₄ p true) ≤ 256
        room =
            rw (due-on-time B s₁ q₃ sized₃ p h, due-early B s₁ q₃ sized₃ p h)
            (let a = length-dropped (is_due B s₁) (held q₃ p false) in let n = sizes-most B s₃ p (sent-hold false) (sent-hold true) in omega arith)

        moved-hold : (e : Bool) → Holds B s₆ p e (held (each_port (move_over B s₆) 5 q₄) p e)
        moved-hold true = rw (moved-early B s₆ q₄ sized₄ p h room, due-early B s₁ q₃ sized₃ p h) (early-ends B L R G call I p h (is_due B s₁) due-same (sent-hold true))
        moved-hold false = rw (moved-on-time B s₆ q₄ sized₄ p h room, due-early B s₁ q₃ sized₃ p h, due-on-time B s₁ q₃ sized₃ p h) (on-time-ends B L R G call I p h (is_due B s₁) due-same (sent-hold false) (sent-hold true))

      -- They hold what they should.
      ended-hold : AllHold B outcome.after
      unfolding ticked_by Tick.ticked
      ended-hold = rw third (record { sized = length_moved B _ q₄ sized₄; holds = moved-hold })

      -- ---- what the ports send

      -- By cases of the grant.
      sends-by : (p n : ℕ) (k : List ℕ) (x : Grant ℕ) → Firsts (held q p false) (held q p true) x → n ≡ grant_code x → k ≡ grant_bytes r₁.memory x → SendsFirst B (record { store = r₁; queues = q }) p n k
      unfolding grant_code grant_bytes
      sends-by p n k nobody f e d = record { on_time = λ a. absurd (omega arith); early = λ a. absurd (omega arith); nothing = λ a b. d }
      sends-by p n k best_effort f e d = record { on_time = λ a. absurd (omega arith); early = λ a. absurd (omega arith); nothing = λ a b. d }
      sends-by p n k (on_time i) (l, f) e d = record { on_time = λ a. (i, l, f, d); early = λ a. absurd (omega arith); nothing = λ a b. absurd (a e) }
      sends-by p n k (early i) (l, f) e d = record { on_time = λ a. absurd (omega arith); early = λ a. (i, l, f, d); nothing = λ a b. absurd (b e) }

      sends : (p : ℕ) → p < 5 → SendsFirst B (record { store = r₁; queues = q }) p (byte outcome.reply.answers p) (packet outcome.reply.outgoing p)
      unfolding ticked_by
      sends p h = sends-by p _ _ (g p) (choice-first B s₁ q waiting p (H.holds p h false) (H.holds p h true)) (answers-code (λ p. grant_code (g p)) met _ p h)
          (packet-per_port (λ p. grant_bytes r₁.memory (g p)) (λ p l. length-won B s₁ r₁.memory p R₁.whole (g p) (wins p l)) p h)

  -- ---- one call

  -- The engine's outcome is the comparator's, and its queues hold what they should.
  record Alike (o : Outcome Bench) (o' : Outcome Store) : Type 0 where
    reply : o.reply ≡ o'.reply
    store : o.after.store ≡ o'.after
    hold : AllHold B o.after

  -- An accepted call is alike, or a refused one.
  decided : {o f : Outcome Bench} {o' f' : Outcome Store} (t : Bool) → (t ≡ true → Alike o o') → Alike f f' → Alike (cond t o f) (cond t o' f')
  decided true a r = a refl
  decided false a r = r

  module _ {b : Bench} {w : Router} (R : Rel B L b.store w) (G : Good c w) (H : AllHold B b) where
    -- The queues after step 1.
    abbrev q₁ : TickCall → List ℕ
    q₁ k =
        let n = get b.store.state free in
        let s = (arrived B 5 k.arriving k.arrivals b.store).state in
        received B s n (n - get s free) b.queues

    received-hold : (k : TickCall) → length k.arrivals ≡ 100 → AllHold B (record { store = arrived B 5 k.arriving k.arrivals b.store; queues = q₁ k })
    received-hold k whole = record {
      sized = length-received B _ _ _ b.queues H.sized;
      holds = received-holds B L R G k.arriving k.arrivals whole b.queues H.sized H.holds;
    }

    -- Both ask the same. A control write leaves places and clock; a tick is that of the grants.
    alike : (k : Call) → ByteCall c k → TrueTimes c w.clock k → Alike (bench_step B b k) (byte_step B b.store k)
    unfolding bench_step byte_step Engine.control Entry.control_write Engine.tick Entry.tick ticked arrived_bench Whole.written
    alike (Calls.control register v) hb ht =
        rw (questions-same B b H (control_refusal B b.store register v))
        (decided (eqb (control_refusal B b.store register v) 0) (λ e. record { reply = refl; store = refl; hold = record { sized = H.sized; holds = λ p h d. held-still e p h d (H.holds p h d) } }) (record { reply = refl; store = refl; hold = H }))
      where
        held-still : eqb (control_refusal B b.store register v) 0 ≡ true → (p : ℕ) → p < 5 → (e : Bool) {l : List ℕ} → Holds B b.store.state p e l → Holds B (written B register v b.store.state) p e l
        held-still e =
            let (p, f) = control-passed B L R G register v (sym (control-number B L R G register v) ∙ eqb-true (control_refusal B b.store register v) 0 e) in
            holds-still B L R (written-rel B L R G.kept register v (leb-true register 5 p) f) (λ j l. refl) refl
    alike (Calls.tick k out ans) hb ht =
        rw (questions-same B b H (tick_refusal B b.store k.arriving k.best_effort k.arrivals out ans))
        (decided (eqb (tick_refusal B b.store k.arriving k.best_effort k.arrivals out ans) 0)
        (λ e.
        let I = input_of c L.few_bytes w k out ans hb ht (sym (tick-number B L R G k out ans) ∙ eqb-true _ 0 e) in
        record { reply = reply-same R G k I (q₁ k) (received-hold k I.whole); store = store_same R G k I (q₁ k) (received-hold k I.whole); hold = ended-hold R G k I (q₁ k) (received-hold k I.whole) })
        (record { reply = refl; store = refl; hold = H }))

    -- What the ports send in an accepted tick.
    firsts-sent : (k : TickCall) (out ans : List ℕ) → ByteCall c (Calls.tick k out ans) → TrueTimes c w.clock (Calls.tick k out ans)
        → let o = bench_step B b (Calls.tick k out ans) in o.reply.number ≡ 0 → FirstsSent B b k o.reply.outgoing o.reply.answers
    unfolding bench_step Engine.tick ticked arrived_bench
    firsts-sent k out ans hb ht e = rw same (go (eqb n 0) refl (rw same at e))
      where
        n : ℕ
        n = tick_refusal B b.store k.arriving k.best_effort k.arrivals out ans

        same : asked (Engine.questions B b n) ≡ n
        same = questions-same B b H n

        refused : Outcome Bench
        refused = record { reply = record { number = n; outgoing = out; answers = ans }; after = b }

        t : Outcome Bench
        t = ticked B b k.arriving k.best_effort k.arrivals

        go : (a : Bool) → eqb n 0 ≡ a → (cond a t refused).reply.number ≡ 0 → FirstsSent B b k (cond a t refused).reply.outgoing (cond a t refused).reply.answers
        go true q z =
            let I = input_of c L.few_bytes w k out ans hb ht (sym (tick-number B L R G k out ans) ∙ eqb-true n 0 q) in
            record { chosen_from = received-hold k I.whole; sends = sends R G k I (q₁ k) (received-hold k I.whole) }
        go false q z = absurd (true≢false (sym (eq-eqb n 0 z) ∙ q))

  -- ---- a list of calls

  -- The engine sees no true time.
  fed-bench : (T : ℤ) (b : Bench) (k : Call) → bench_step B b (fed c T k) ≡ bench_step B b k
  unfolding bench_step fed
  fed-bench T b (Calls.control register v) = refl
  fed-bench T b (Calls.tick k out ans) = refl

  -- Any call can be given true times.
  fed-proper : (T : ℤ) (k : Call) → ByteCall c k → ByteCall c (fed c T k) × TrueTimes c T (fed c T k)
  unfolding Proper feed
  fed-proper T k hb = let P = feed-proper c L.some_bytes L.few_bytes (k ∷ []) T (λ j m. subst (ByteCall c) (sym (Memᴰ.eq_of_singleton m)) hb) in (P.0, P.1)

  -- A tick at its true times sends what it sends without them.
  tick-firsts : {b : Bench} {w : Router} → Rel B L b.store w → Good c w → AllHold B b → (k : TickCall) (out ans : List ℕ) → ByteCall c (Calls.tick k out ans)
      → let o = bench_step B b (Calls.tick k out ans) in o.reply.number ≡ 0 → FirstsSent B b k o.reply.outgoing o.reply.answers
  unfolding bench_step fed
  tick-firsts {b} {w} R G H k out ans hb e =
      let (h, t) = fed-proper w.clock (Calls.tick k out ans) hb in
      let F = firsts-sent R G H _ out ans h t e in
      record { chosen_from = F.chosen_from; sends = F.sends }

  -- Call by call, beside the router that never turns over.
  after-calls : (ks : List Call) {b : Bench} {w : Router} → Rel B L b.store w → Good c w → AllHold B b → ((k : Call) → Memᴰ k ks → ByteCall c k) → AfterCalls B b.store b ks
  unfolding after_all replies
  after-calls [] R G H hb = record { replies = refl; store = refl; queues = H; firsts = tick-firsts R G H }
  after-calls (k ∷ ks) {b} {w} R G H hb =
      let f = fed c w.clock k in
      let (h, t) = fed-proper w.clock k (hb k (Memᴰ.head refl)) in
      let a = agree B L R G f h t in
      let A : Alike (bench_step B b k) (byte_step B b.store k) = rw (fed-bench w.clock b k, fed-bytes B L w.clock b.store k) at (alike R G H f h t) in
      let R' = subst (λ (r : Store). Rel B L r (whole_step c w f).after) (ap (λ (o : Outcome Store). o.after) (fed-bytes B L w.clock b.store k) ∙ sym A.store) a.rel in
      let E = after-calls ks R' a.good A.hold (λ j m. hb j (Memᴰ.tail m)) in
      record {
        replies = ap₂ (λ (x : Reply) (l : List Reply). x ∷ l) A.reply (E.replies ∙ ap (λ (r : Store). replies (byte_step B) r ks) A.store);
        store = E.store ∙ ap (λ (r : Store). after_all (byte_step B) r ks) A.store;
        queues = E.queues;
        firsts = E.firsts;
      }

  -- A sound store shows a good router, and filled queues hold what they should.
  agrees : Agrees B
  unfolding Agrees Engine.fill asked
  agrees r bs bm f e q z =
      rw (eq-eqb (length q) queues_length z, f, sound-asked B 15 r [] e) (let H = filled-hold in (refl, refl, H, λ ks hb. after-calls ks (shows-rel B L Q S) (shows-good B L Q S) H hb))
    where
      Q : SoundStore B r
      Q = sound-store B L r bs bm f e

      S : Shows B r (router_of B L r)
      S = shows-router B L r Q

      filled-hold : AllHold B (record { store = r; queues = Engine.filled B r.state 256 })
      filled-hold = record { sized = length-filled B r.state 256; holds = filled-holds B r.state }

-- The board of document 01 is lawful.
pub queues_agree : QueuesAgree
unfolding QueuesAgree
queues_agree = agrees board8 lawful8
