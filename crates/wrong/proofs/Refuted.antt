-- Each wrong router breaks the claim on one short list of calls: the router that never turns over computes the list, and what the claim says of the ticks noted is another. No state of bytes computes, since a tick is noted by the second router's number. Assumes nothing.
use Prim.Native.Nat.{ℕ, ◌+◌, ◌<◌}
use mathlib.Core.Path.{◌≡◌, refl, sym, ap, subst, ◌∙◌}
use mathlib.Core.Bool.{true}
use mathlib.Core.List.Memᴰ
use mathlib.Core.List.{List, [], ◌∷◌, ◌++◌}
use mathlib.Core.Logic.{inl, inr}
use native.Mathlib.Omega.{arith}
use native.Mathlib.Nat.{le_refl}
use lib.ListN.{length, drop, replicate, length-replicate, length-append}
use lib.Seq.{take-length}
use lib.Dec.{T, eqb}
use lib.IntN.{ℤ, pos}
use lib.Signed.{lt_z}
use Rattle.rules.specs.Account as N
use Rattle.rules.specs.Account.{NotedTick, NoLater}
use Rattle.rules.specs.Areas.{Store, Reply, byte, bits, nobody, best_effort, on_time, early}
use Rattle.rules.specs.Board.{board8}
use Rattle.rules.specs.Calls.{Call, control, tick, accept, whole_step}
use Rattle.rules.specs.Demand3 as D
use Rattle.rules.specs.Demand3.{OverBytes, NeverOver, AfterCalls, Holds}
use Rattle.rules.specs.Given as goal
use Rattle.rules.specs.Order.{count}
use Rattle.rules.specs.Whole.{Entry, Packet, refused, absent, accepted, start, arrived, served, ticked}
use Rattle.rules.proofs.Booleans.{cons-first, cons-rest}
use Rattle.rules.proofs.Theorem.{demand3}
use Rattle.cases.proofs.Computing.{computing}
use Rattle.cases.proofs.Proper.{is_proper, proper}
use Rattle.wrong.specs.Routers as W
use Rattle.wrong.proofs.Lists as L
use Rattle.wrong.specs.ShutOut.{OwnParts, RepliesAsOurs, Refuted, ShutOut}

-- ---- the claim after a list

-- Areas of their lengths.
abbrev blank : Store
blank = record { state = replicate 1804 0; memory = replicate 5120 0 }

-- After the whole of a list that passes the test of properness.
after : (O : OverBytes) (N : NeverOver) → Holds board8 O N → (t : ℕ) → t < 256 → (ks : List Call) → is_proper 1 (pos t) ks ≡ true → AfterCalls board8 O N (O.first blank t) t ks
unfolding Holds bits
after O N H t l ks e =
    subst (AfterCalls board8 O N (O.first blank t) t) (take-length ks) (H blank (length-replicate {A = ℕ} 1804 0) (length-replicate {A = ℕ} 5120 0) t l ks (proper 1 ks (pos t) e) (length ks) (le_refl (length ks)))

-- All that a wrong router's run unfolds.
unfoldable running : ℕ
unfolding computing D.history D.noted goal.writes goal.value goal.last_written goal.last_entry goal.last_horizon N.answer_due N.stored_below N.is_left N.left_on N.sent_on N.withdrawn_on N.free_before N.Accepted W.arrived_by W.served_by W.ticked_by W.accept_by W.step_by
running = 0

-- ---- what can't be equal

refused-accepted : {q : ℕ} {x : Packet} → refused q ≡ accepted x → ⊥
refused-accepted e = let z : ◌≡◌ {A = ℕ} 0 1 = cc in omega arith

absent-accepted : {x : Packet} → absent ≡ accepted x → ⊥
absent-accepted e = let z : ◌≡◌ {A = ℕ} 0 1 = cc in omega arith

-- ---- the routers

-- Port by port, both do the same.
pub own_parts : OwnParts
unfolding OwnParts running whole_step accept ticked arrived served
own_parts r (control register v) = refl
own_parts r (tick k out ans) = refl

-- Both replies are those of our router that never turns over.
pub replies_as_ours : RepliesAsOurs
unfolding RepliesAsOurs Holds bits
replies_as_ours O H r s m t l ks P =
    let whole : (O : OverBytes) → Holds board8 O (D.our_whole board8) → AfterCalls board8 O (D.our_whole board8) (O.first r t) t ks = λ O H. subst (AfterCalls board8 O (D.our_whole board8) (O.first r t) t) (take-length ks) (H r s m t l ks P (length ks) (le_refl (length ks))) in
    (whole O H).agree ∙ sym (whole (D.our_bytes board8) demand3.holds).agree

-- 1 is due, and no packet is accepted.
pub refuses_all : (q : ℕ) → Refuted (W.refuses_all q)
unfolding running W.refusing L.on_time
refuses_all q O H = refused-accepted (((after O (W.refuses_all q) H 0 (omega arith) L.on_time refl).accounts.taken _ (Memᴰ.head refl) 0 (omega arith)).due refl).1

pub moves_the_clock : Refuted W.moves_the_clock
unfolding running L.on_time
moves_the_clock O H = absent-accepted (((after O W.moves_the_clock H 0 (omega arith) L.on_time refl).accounts.taken _ (Memᴰ.head refl) 0 (omega arith)).due refl).1

-- Entry 0 was committed with the mask 1, and has 0.
pub ignores_writes : Refuted W.ignores_writes
unfolding running L.on_time
ignores_writes O H = let e = ap (λ (x : Entry). x.mask) ((after O W.ignores_writes H 0 (omega arith) L.on_time refl).settings.entry 0) in omega arith

-- The tick is to be accepted, and gets 3.
pub refuses_ticks : Refuted W.refuses_ticks
unfolding running W.refusing_ticks L.on_time
refuses_ticks O H = let e : ◌≡◌ {A = ℕ} 3 0 = cons-first (cons-rest (cons-rest (cons-rest (cons-rest (after O W.refuses_ticks H 0 (omega arith) L.on_time refl).numbers)))) in omega arith

-- The accepted packet has identifier 0, and its entry 9.
pub keeps_identifier : Refuted W.keeps_identifier
unfolding running W.kept L.on_time
keeps_identifier O H = let e = (((after O W.keeps_identifier H 0 (omega arith) L.on_time refl).accounts.taken _ (Memᴰ.head refl) 0 (omega arith)).only _ refl).1.identifier in omega arith

-- A packet is accepted where 7 is due.
pub reads_minus_128_early : Refuted W.reads_minus128_early
unfolding running L.half_a_turn_back
reads_minus_128_early O H = let e = (((after O W.reads_minus128_early H 200 (omega arith) L.half_a_turn_back refl).accounts.taken _ (Memᴰ.head refl) 0 (omega arith)).only _ refl).0 in omega arith

-- Port 0 sends on time, and its byte is 3.
pub exchanges_codes : Refuted W.exchanges_codes
unfolding running W.exchanged L.on_time
exchanges_codes O H =
    let A = after O W.exchanges_codes H 0 (omega arith) L.on_time refl in
    let a = ((A.accounts.told _ (Memᴰ.head refl) 0 (omega arith)).on_time _ _ refl).0 in
    let e : ◌≡◌ {A = ℕ} _ 3 = ap (λ (r : Reply). byte r.answers 0) (cons-first (cons-rest (cons-rest (cons-rest (cons-rest A.agree))))) in
    omega arith

-- Port 1 is idle, and its first byte is 9.
pub sends_nines : Refuted W.sends_nines
unfolding running W.nines L.on_time
sends_nines O H =
    let A = after O W.sends_nines H 0 (omega arith) L.on_time refl in
    let a = ((A.accounts.told _ (Memᴰ.head refl) 1 (omega arith)).nobody refl).1 0 (omega arith) in
    let e : ◌≡◌ {A = ℕ} _ 9 = ap (λ (r : Reply). byte r.outgoing 20) (cons-first (cons-rest (cons-rest (cons-rest (cons-rest A.agree))))) in
    omega arith

-- The second tick sends the packet, and its first byte is 0.
pub pretends : Refuted W.pretends
unfolding running W.pretended L.ahead
pretends O H =
    let A = after O W.pretends H 0 (omega arith) L.ahead refl in
    let a = ((A.accounts.told _ (Memᴰ.tail (Memᴰ.head refl)) 0 (omega arith)).on_time _ _ refl).1.identifier in
    let e : ◌≡◌ {A = ℕ} _ 0 = ap (λ (r : Reply). byte r.outgoing 0) (cons-first (cons-rest (cons-rest (cons-rest (cons-rest (cons-rest A.agree)))))) in
    omega arith

-- The packet is withdrawn at the clock 0, and its deadline is 11.
pub withdraws_all : Refuted W.withdraws_all
unfolding running W.all_left L.ahead
withdraws_all O H =
    let A = (after O W.withdraws_all H 0 (omega arith) L.ahead refl).accounts in
    let e : pos 0 ≡ pos 11 = (((A.account _ 0 (_, 0, Memᴰ.head refl, omega arith, refl, refl) 0 (omega arith)).permitted _ (Memᴰ.head refl)).withdrawn (omega arith)).1 in
    let z : ◌≡◌ {A = ℕ} 0 11 = cc in
    omega arith

-- The packet is sent on time at the clock 250, and its time is 260.
pub compares_plainly : Refuted W.compares_plainly
unfolding running W.granted_by L.across_the_turn
compares_plainly O H =
    ((((after O W.compares_plainly H 250 (omega arith) L.across_the_turn refl).accounts.account _ 0 (_, 0, Memᴰ.head refl, omega arith, refl, refl) 0 (omega arith)).permitted _ (Memᴰ.head refl)).on_time 0 _ refl refl).le

-- On port 1 of its mask the packet is not sent, not withdrawn and not left.
pub frees_after_first : Refuted W.frees_after_first
unfolding running W.freed W.none_left L.multicast
frees_after_first O H =
    let e : ◌≡◌ {A = ℕ} 0 1 = ((after O W.frees_after_first H 0 (omega arith) L.multicast refl).accounts.account _ 0 (_, 0, Memᴰ.head refl, omega arith, refl, refl) 1 (omega arith)).once in
    omega arith

-- ---- what a port should have sent

nobody-sends : {w : ℕ × Packet} → nobody ≡ on_time w → ⊥
nobody-sends e = let z : ◌≡◌ {A = ℕ} 0 1 = cc in omega arith

early-waits : {w : ℕ × Packet} → early w ≡ best_effort → ⊥
early-waits e = let z : ◌≡◌ {A = ℕ} 0 1 = cc in omega arith

sent_is : {v w : ℕ × Packet} → on_time v ≡ on_time w → w ≡ v
sent_is e = cc

-- The packet waits on time, and the port is idle.
pub idles : Refuted W.idles
unfolding running L.on_time
idles O H =
    let P = (after O W.idles H 0 (omega arith) L.on_time refl).accounts.prompt [] [] _ refl 0 (omega arith) in
    nobody-sends (P.on_time _ 0 (record { accepted = (_, 0, Memᴰ.head refl, omega arith, refl, refl); port = refl; unsent = refl; in_time = record { le = tt } }) (record { le = tt })).2

-- Best-effort waits and nothing is on time, since whatever arrived has the time 1; and the port sends early.
pub passes_best_effort : Refuted W.passes_best_effort
unfolding running W.granted_by L.beside_best_effort
passes_best_effort O H =
    let A = (after O W.passes_best_effort H 0 (omega arith) L.beside_best_effort refl).accounts in
    early-waits ((A.prompt [] [] _ refl 0 (omega arith)).best_effort_if refl (λ x i W.
    let (d, p, m, l, e, z) = W.accepted in
    let t : x.time ≡ pos 1 = ((A.taken d m p l).only x e).1.time ∙ ap (λ (d : NotedTick). d.call.times p) (Memᴰ.eq_of_singleton m) in
    record { lt = subst (λ (u : ℤ). T (lt_z (pos 0) u)) (sym t) tt }))

-- The packet of connection 0 waits in place 0 with the deadline 11, and that of deadline 41 is sent.
pub takes_table_delay : Refuted W.takes_table_delay
unfolding running L.delay_changed
takes_table_delay O H =
    let P = (after O W.takes_table_delay H 0 (omega arith) L.delay_changed refl).accounts.prompt (_ ∷ []) [] _ refl 0 (omega arith) in
    let (j, y, g, n) = P.on_time _ 0 (record { accepted = (_, 0, Memᴰ.head refl, omega arith, refl, refl); port = refl; unsent = refl; in_time = record { le = tt } }) (record { le = tt }) in
    later (subst (λ (w : ℕ × Packet). NoLater (w.1.deadline, w.1.time, w.0) (pos 11, pos 1, 0)) (sent_is g) n)
  where
    later : NoLater (pos 41, pos 1, 1) (pos 11, pos 1, 0) → ⊥
    later (inl l) = l.lt
    later (inr (e, l)) = let z : ◌≡◌ {A = ℕ} 41 11 = cc in omega arith

-- Of two alike, place 1 is sent while place 0 waits.
pub sends_higher_place : Refuted W.sends_higher_place
unfolding running L.alike
sends_higher_place O H =
    let P = (after O W.sends_higher_place H 0 (omega arith) L.alike refl).accounts.prompt [] [] _ refl 0 (omega arith) in
    let (j, y, g, n) = P.on_time _ 0 (record { accepted = (_, 0, Memᴰ.head refl, omega arith, refl, refl); port = refl; unsent = refl; in_time = record { le = tt } }) (record { le = tt }) in
    higher (subst (λ (w : ℕ × Packet). NoLater (w.1.deadline, w.1.time, w.0) (pos 0, pos 0, 0)) (sent_is g) n)
  where
    higher : NoLater (pos 0, pos 0, 1) (pos 0, pos 0, 0) → ⊥
    higher (inl l) = l.lt
    higher (inr (e, inl l)) = l.lt
    higher (inr (e, inr (f, l))) = omega arith

-- The packet of connection 1 waits with the time 5, and that of time 10 is sent.
pub ties_by_place : Refuted W.ties_by_place
unfolding running W.one_key L.waited
ties_by_place O H =
    let P = (after O W.ties_by_place H 10 (omega arith) L.waited refl).accounts.prompt [] [] _ refl 0 (omega arith) in
    let (j, y, g, n) = P.on_time _ _ (record { accepted = (_, 1, Memᴰ.head refl, omega arith, refl, refl); port = refl; unsent = refl; in_time = record { le = tt } }) (record { le = tt }) in
    later (sent_is g) refl refl n
  where
    earlier : {a b : ℤ} {i j : ℕ} → a ≡ pos 20 → b ≡ pos 10 → NoLater (a, b, j) (pos 20, pos 5, i) → ⊥
    earlier d t (inl l) = subst (λ (z : ℤ). T (lt_z z (pos 20))) d l.lt
    earlier d t (inr (e, inl l)) = subst (λ (z : ℤ). T (lt_z z (pos 5))) t l.lt
    earlier d t (inr (e, inr (f, l))) = let z : ◌≡◌ {A = ℕ} 10 5 = cc in omega arith

    later : {v w : ℕ × Packet} {i : ℕ} → w ≡ v → v.1.deadline ≡ pos 20 → v.1.time ≡ pos 10 → NoLater (w.1.deadline, w.1.time, w.0) (pos 20, pos 5, i) → ⊥
    later e d t n = earlier (ap (λ (w : ℕ × Packet). w.1.deadline) e ∙ d) (ap (λ (w : ℕ × Packet). w.1.time) e ∙ t) n

-- One packet was accepted, and the place that it was sent from stands second in the free list, behind 1.
pub gives_back_under : Refuted W.gives_back_under
unfolding running W.emptied_under W.under L.on_time
gives_back_under O H =
    let A = after O W.gives_back_under H 0 (omega arith) L.on_time refl in
    let B = A.accounts.given_back [] [] _ refl in
    let taken : ◌≡◌ {A = ℕ} _ 1 = ap (λ (r : Reply). count 5 (λ q. eqb (byte r.answers (5 + q)) 1)) (cons-first (cons-rest (cons-rest (cons-rest (cons-rest A.agree))))) in
    in-front B.emptied (B.list ∙ ap (λ (k : ℕ). B.emptied ++ drop k (start 0).free) taken)
  where
    in-front : (l : List ℕ) → 1 ∷ 0 ∷ drop 2 (start 0).free ≡ l ++ drop 1 (start 0).free → ⊥
    in-front [] e = let z = cons-first (cons-rest e) in omega arith
    in-front (i ∷ []) e = let z = cons-first (cons-rest e) in omega arith
    in-front (i ∷ j ∷ l) e = let z = ap length e in let k = length-append l (drop 1 (start 0).free) in omega arith

-- ---- all of them

pub shut_out : ShutOut
shut_out = record {
  refuses_all = refuses_all;
  idles = idles;
  moves_the_clock = moves_the_clock;
  pretends = pretends;
  withdraws_all = withdraws_all;
  compares_plainly = compares_plainly;
  passes_best_effort = passes_best_effort;
  frees_after_first = frees_after_first;
  takes_table_delay = takes_table_delay;
  reads_minus_128_early = reads_minus_128_early;
  ignores_writes = ignores_writes;
  keeps_identifier = keeps_identifier;
  refuses_ticks = refuses_ticks;
  exchanges_codes = exchanges_codes;
  sends_nines = sends_nines;
  gives_back_under = gives_back_under;
  ties_by_place = ties_by_place;
  sends_higher_place = sends_higher_place;
}
