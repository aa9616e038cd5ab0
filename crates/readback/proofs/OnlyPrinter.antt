-- No other printer meets the claim of `TapePrinted`: each step that it allows is the one that ours takes, since a tick's reply is fixed by what waits, and its lines are fixed by what is read in them. Assumes nothing.
use Prim.Native.Nat.{ℕ, zero, suc, ◌+◌, ◌^◌, ◌≤◌, ◌<◌}
use mathlib.Core.Path.{◌≡◌, refl, sym, ap, ap₂, subst, ◌∙◌}
use mathlib.Core.Bool.{Bool, true, false, true≢false}
use mathlib.Core.Logic.{◌≢◌}
use mathlib.Core.List.{List, [], ◌∷◌, ◌++◌, append-nil, flatten}
use mathlib.Core.Option.{none, some}
use native.Mathlib.Omega.{arith}
use lib.ListN.{length, length-append, drop, set, replicate, length-replicate}
use lib.Seq.{ext_get_or, take_at, get_or-append-add}
use lib.Dec.{ltb}
use borrow.Author.Tests.{ne_eqb, le-leb, lt-leb, ltb-true}
use Rattle.rules.specs.Areas.{Store, Outcome, Bytes, byte, packet, has, ports_below, areas_full, answers_area}
use Rattle.rules.specs.Board.{board8}
use Rattle.rules.specs.Order.{all}
use Rattle.rules.specs.Questions.{tick as tick_entry, tick_refusal}
use Rattle.rules.specs.Tick as Tick
use Rattle.rules.specs.Whole.{TickCall}
use Rattle.rules.specs.Calls.{control, tick}
use Rattle.rules.specs.Demand3.{byte_step}
use Rattle.rules.proofs.Booleans.{nil-cons}
use Rattle.rules.proofs.IndexLaws.{all-at}
use Rattle.rules.proofs.OrderLaws.{fails}
use Rattle.rules.proofs.AreaLaws.{length-packet, ports_below-same}
use Rattle.rules.proofs.FieldBytes.{packet-byte}
use Rattle.rules.proofs.GivenLaws.{words}
use Rattle.rules.proofs.Theorem.{layout}
use Rattle.records.specs.Records.{records_in, record_refusal}
use Rattle.events.specs.Tape.{Tape, start, refused, Taken, after_control, after_tick, take_control, take_arrival, take_record, after, events_of}
use Rattle.events.proofs.Taking.{tick-same}
use Rattle.events.proofs.Joined.{after-joined}
use Rattle.text.specs.Lines.{refused_line}
use Rattle.pages.specs.Pages.{ended}
use Rattle.pages.proofs.Lines.{ended-append}
use Rattle.tapes.specs.declared.printing.Style.TheVariants.{Lines}
use Rattle.tapes.specs.Printed.{refused_arrival, ticked_lines, event_lines, lines_of, printed}
use Rattle.readback.specs.TapePrinted.{RefusedLine, TickLine, Waiting, Between, waits_on, IsArrival, IsTick, Unfit, no_kind, no_control, no_arrival, no_tick, occupied, Answered, Brings, Refusals, Step, Prints, TapePrinted, OnlyPrinter}
use Rattle.readback.specs.TapePrinted as Said
use Rattle.readback.specs.Example.{example_tape, example_lines, PrintsTheExample}
use Rattle.readback.proofs.Small.{Small, part_small}
use Rattle.readback.proofs.Steps.{between, waits-on, waits-none, waits-some, Lawful, blank-zeros, zeros-blank, arrival-fit, fit-passes, control-taken, arrival-taken, tick-taken, other-taken, kept-between, brings, record-done}
use Rattle.readback.proofs.TapePrinted.{one-record, start-lawful, bytes_small, begun-start}
use Rattle.readback.proofs.Example.{example-printed}
use Rattle.readback.proofs.LinesFixed.{uncut, refused-ended, tick-ended}

-- ---- a tick, by the packets of the ports in its mask

-- Masks of five ports with the same ports are the same.
masks-same : (m n : ℕ) → m < 32 → n < 32 → ((p : ℕ) → p < 5 → has m p ≡ has n p) → m ≡ n
masks-same m n hm hn e = sym (words.ports m hm) ∙ rw (e 0 (omega arith), e 1 (omega arith), e 2 (omega arith), e 3 (omega arith), e 4 (omega arith)) (words.ports n hn)

-- What an arrival on port p meets, and what it leaves; its packet counts only if the port is in the mask.
abbrev met : Store → ℕ → ℕ → List ℕ → ℕ × Store
met r m p x = (Tick.arrival board8 r.state m p x, Tick.admitted board8 r m p x)

met-same : (r : Store) (m p : ℕ) (x y : List ℕ) → (has m p ≡ true → x ≡ y) → met r m p x ≡ met r m p y
unfolding Tick.arrival
met-same r m p x y e = go (has m p) refl
  where
    go : (t : Bool) → has m p ≡ t → met r m p x ≡ met r m p y
    go true h = ap (met r m p) (e h)
    go false h = rw h

-- What the answers say of the arrival on port p.
abbrev answer : Store → ℕ → List ℕ → ℕ → List ℕ
answer r m area p = Tick.arrival board8 (Tick.arrived board8 p m area r).state m p (packet area p) ∷ []

module _ (r : Store) (m b : ℕ) (area area' : List ℕ) (same : (p : ℕ) → p < 5 → has m p ≡ true → packet area p ≡ packet area' p) where
  port-met : (p : ℕ) → p < 5 → let s = Tick.arrived board8 p m area' r in met s m p (packet area p) ≡ met s m p (packet area' p)
  port-met p h = met-same (Tick.arrived board8 p m area' r) m p (packet area p) (packet area' p) (same p h)

  arrived-same : (p : ℕ) → p ≤ 5 → Tick.arrived board8 p m area r ≡ Tick.arrived board8 p m area' r
  unfolding Tick.arrived
  arrived-same zero h = refl
  arrived-same (suc p) h = rw (arrived-same p (omega arith)) (ap (λ (z : ℕ × Store). z.1) (port-met p h))

  ticked-same : Tick.ticked board8 r m b area ≡ Tick.ticked board8 r m b area'
  unfolding Tick.ticked answers_area
  ticked-same = rw (arrived-same 5 (omega arith), ports_below-same (answer r m area) (answer r m area') 5 (λ p h. rw (arrived-same p (omega arith)) (ap (λ (z : ℕ × Store). z.0 ∷ []) (port-met p h))))

  entry-same : length area ≡ length area' → (out ans : List ℕ) → tick_entry board8 r m b area out ans ≡ tick_entry board8 r m b area' out ans
  unfolding tick_entry tick_refusal areas_full
  entry-same e out ans = rw (e, ticked-same)

-- ---- two calls that bring what waits

module _ {σ : Between} {w : ℕ} {a b : TickCall} (A : Brings σ w a) (B : Brings σ w b) where
  mask-brought : a.arriving ≡ b.arriving
  mask-brought = masks-same a.arriving b.arriving A.ports B.ports (λ p h. go p h (waits_on σ p) refl)
    where
      go : (p : ℕ) → p < 5 → (o : Waiting) → waits_on σ p ≡ o → has a.arriving p ≡ has b.arriving p
      go p h none e = A.none_else p h e ∙ sym (B.none_else p h e)
      go p h (some (n, x)) e = (A.arrival p h n x e).0 ∙ sym (B.arrival p h n x e).0

  packet-brought : (p : ℕ) → p < 5 → has a.arriving p ≡ true → packet a.arrivals p ≡ packet b.arrivals p
  packet-brought p h t = go (waits_on σ p) refl
    where
      long : (c : TickCall) → length c.arrivals ≡ 100 → length (packet c.arrivals p) ≡ 20
      long c e = length-packet c.arrivals p (omega arith)

      go : (o : Waiting) → waits_on σ p ≡ o → packet a.arrivals p ≡ packet b.arrivals p
      go none e = absurd (true≢false (sym t ∙ A.none_else p h e))
      go (some (n, x)) e = ext_get_or 0 (packet a.arrivals p) (packet b.arrivals p) (long a A.whole ∙ sym (long b B.whole)) (λ j l.
          let m : j < 20 = omega (arith, long a A.whole) in
          rw (packet-byte a.arrivals p j m, packet-byte b.arrivals p j m) ((A.arrival p h n x e).1 j m ∙ sym ((B.arrival p h n x e).1 j m)))

  call-brought : (r : Store) (out ans : List ℕ) → byte_step board8 r (tick a out ans) ≡ byte_step board8 r (tick b out ans)
  unfolding byte_step
  call-brought r out ans =
      entry-same r a.arriving a.best_effort a.arrivals b.arrivals packet-brought (A.whole ∙ sym B.whole) out ans
      ∙ ap₂ (λ (m v : ℕ). tick_entry board8 r m v b.arrivals out ans) mask-brought (A.when_best_effort ∙ sym B.when_best_effort)

-- ---- a record

-- Taking a record prints these lines, and leaves this.
abbrev Ours : Taken → List (List ℕ) → Between → Type 0
Ours t ls τ = (event_lines t.event ≡ ended ls) × (between t.tape ≡ τ)

module _ (k : ℕ) (σ : Tape) (r : List ℕ) (whole : length r ≡ 24) (bytes : Small r) (L : Lawful k σ) (few : suc k < 10 ^ 20) where
  unfit-taken : (n : ℕ) → Unfit (between σ) r n → take_record σ (suc k) r ≡ record { tape = σ; event = refused (suc k) n }
  unfit-taken n (no_kind e a b c) = rw e (other-taken k σ r whole a b c)
  unfit-taken n (no_control e c f) = rw e (control-taken k σ r whole c false (fails _ (λ t. f (record { kind = c; unused = blank-zeros r whole 21 3 refl t }))))
  unfit-taken n (no_arrival e c f) = rw e (arrival-taken k σ r whole c false (has σ.pending (byte r 1)) (fails _ (λ t. f (arrival-fit r whole c t))) refl)
  unfit-taken n (no_tick e c f) = rw e (tick-taken k σ r whole c false (fails _ (λ t. f (record { kind = c; unused = blank-zeros r whole 22 2 refl t }))))
  unfit-taken n (occupied e c f) = rw e (arrival-taken k σ r whole c.kind true true (fit-passes r whole c) (go (has σ.pending (byte r 1)) refl))
    where
      go : (t : Bool) → has σ.pending (byte r 1) ≡ t → t ≡ true
      go true g = refl
      go false g = absurd (f (waits-on σ (byte r 1) (let h = c.port in omega arith) ∙ rw g))

  control-ours : (o : Outcome Store) {ls : List (List ℕ)} {τ : Between} → Answered (suc k) o.reply.number ls → τ ≡ record { store = o.after; waits = (between σ).waits } → Ours (after_control σ (suc k) o) ls τ
  unfolding event_lines ended
  control-ours o (Said.accepted e z) s = (rw (e, z), sym s)
  control-ours o (Said.refused n l R z) s = (rw (ne_eqb o.reply.number 0 n, z) (refused-ended R few), sym s)

  -- The refusals of an accepted tick's arrivals, port by port.
  refusals-ours : {ans : List ℕ} {p : ℕ} {ls : List (List ℕ)} → Refusals (between σ) ans p ls → p ≤ 5 → ports_below (refused_arrival σ.records ans) p ≡ ended ls
  unfolding ports_below refused_arrival ended
  refusals-ours Said.no_port h = refl
  refusals-ours {ans} (Said.taken {p = p} {ls = ls} a R) h = rw (lt-leb 6 (byte ans (5 + p)) a, append-nil) (refusals-ours R (omega arith))
  refusals-ours {ans} (Said.refused {p = p} {ls = ls} n x l w a N R) h =
      let e = sym (ap (λ (z : ℕ × List ℕ). z.0) (waits-some σ p h (n, x) w).1) in
      rw (le-leb 6 (byte ans (5 + p)) a.0, ended-append ls (l ∷ []), ← refused-ended N (omega (arith, L.records p)), e, refusals-ours R (omega arith))

  -- A tick is that of any call that brings what waits.
  tick-brought : IsTick r → (c : TickCall) → Brings (between σ) (byte r 1) c → (out ans : List ℕ) → length out ≡ 100 → length ans ≡ 20
      → take_record σ (suc k) r ≡ after_tick σ (suc k) (byte_step board8 σ.store (tick c out ans))
  unfolding byte_step
  tick-brought t c B out ans lo la =
      tick-taken k σ r whole t.kind true (zeros-blank r whole 22 2 refl t.unused) ∙ sym (tick-same σ (suc k) r out ans lo la)
      ∙ ap (after_tick σ (suc k)) (call-brought (brings k σ r whole bytes L few) B σ.store out ans)

  ticked-ours : (o : Outcome Store) → o.reply.number ≡ 0 → {before : List (List ℕ)} {l : List ℕ} {τ : Between} → Refusals (between σ) o.reply.answers 5 before
      → TickLine (byte σ.store.state 0) o.reply.outgoing o.reply.answers l → τ ≡ record { store = o.after; waits = replicate 5 none } → Ours (after_tick σ (suc k) o) (before ++ (l ∷ [])) τ
  unfolding event_lines ticked_lines has
  ticked-ours o e {before} {l} R T s =
      rw (e, (layout.settings σ.store.state 0).0, tick-ended T, refusals-ours R (omega arith)) (sym (ended-append before (l ∷ [])), sym s)

  turned-away-ours : (o : Outcome Store) → o.reply.number ≢ 0 → {l : List ℕ} {τ : Between} → RefusedLine (suc k) o.reply.number l
      → τ ≡ record { store = o.after; waits = (between σ).waits } → Ours (after_tick σ (suc k) o) (l ∷ []) τ
  unfolding event_lines
  turned-away-ours o n R s = rw (ne_eqb o.reply.number 0 n) (refused-ended R few, sym s)

  kept-ours : IsArrival r → has σ.pending (byte r 1) ≡ false → {τ : Between} → τ ≡ record { store = σ.store; waits = set (between σ).waits (byte r 1) (some (suc k, drop 4 r)) } → Ours (take_arrival σ (suc k) r) [] τ
  unfolding take_arrival event_lines ended
  kept-ours c f s = (refl, kept-between k σ r whole bytes L few c f ∙ sym s)

  step-ours : {ls : List (List ℕ)} {τ : Between} → Step (suc k) (between σ) r ls τ → Ours (take_record σ (suc k) r) ls τ
  unfolding event_lines take_control byte_step
  step-ours (Said.unfit n l u R e s) = rw (unfit-taken n u, e) (refused-ended R few, sym s)
  step-ours (Said.written c (a, s)) = rw (control-taken k σ r whole c.kind true (zeros-blank r whole 21 3 refl c.unused)) (control-ours (byte_step board8 σ.store (control (byte r 1) (byte r 2))) a s)
  step-ours (Said.kept c w e s) =
      let free = waits-none σ (byte r 1) (let h = c.port in omega arith) w in
      rw (arrival-taken k σ r whole c.kind true false (fit-passes r whole c) free, e) (kept-ours c free s)
  step-ours (Said.ticked t c out ans B lo la before l (n, R, T, s) e) = rw (tick-brought t c B out ans lo la, e) (ticked-ours (byte_step board8 σ.store (tick c out ans)) n R T s)
  step-ours (Said.turned_away t c out ans B lo la l (n, R, s) e) = rw (tick-brought t c B out ans lo la, e) (turned-away-ours (byte_step board8 σ.store (tick c out ans)) n R s)

-- ---- an input

-- An input that has ended, and a rest of fewer bytes than a record has.
ended-ours : (σ : Tape) (k : ℕ) → lines_of (after σ k [] 0).events ≡ []
unfolding after lines_of
ended-ours σ k = refl

rest-ours : (σ : Tape) (k : ℕ) (r l : List ℕ) → (0 < length r) × (length r < 24) → RefusedLine (suc k) 9 l → suc k < 10 ^ 20 → lines_of (after σ k r 1).events ≡ ended (l ∷ [])
unfolding lines_of event_lines take_record record_refusal
rest-ours σ k r l (g, h) R few = rw (one-record σ k r (omega arith), ne_eqb (length r) 24 (λ e. omega arith), append-nil (refused_line (suc k) 9)) (refused-ended R few)

-- A whole record, and what is printed after it.
record-ours : (σ : Tape) (k : ℕ) (r input : List ℕ) (n : ℕ) (ls more : List (List ℕ)) → length r ≡ 24 → event_lines (take_record σ (suc k) r).event ≡ ended ls
    → lines_of (after (take_record σ (suc k) r).tape (suc k) input n).events ≡ ended more → lines_of (after σ k (r ++ input) (1 + n)).events ≡ ended (ls ++ more)
unfolding lines_of
record-ours σ k r input n ls more whole text later =
    let number : k + 1 ≡ suc k = omega arith in
    rw (after-joined σ k r input 1 whole n, one-record σ k r (omega arith), number, text, later) (sym (ended-append ls more))

-- What is printed after k records is what ours prints, from a tape that stands for what is between them.
prints-ours : {k : ℕ} {τ : Between} {input : List ℕ} {ls : List (List ℕ)} → Prints k τ input ls → (σ : Tape) → between σ ≡ τ → Lawful k σ → Small input → k + records_in input < 10 ^ 20
    → lines_of (after σ k input (records_in input)).events ≡ ended ls
unfolding ended
prints-ours {k} Said.ended σ e L s few = ended-ours σ k
prints-ours {k} (Said.short {r = r} l (g, h) R) σ e L s few =
    let one : records_in r ≡ 1 = omega arith in
    rw one (rest-ours σ k r l (g, h) R (omega arith))
prints-ours {k} (Said.next {σ' = τ'} {r = r} {input = input} {ls = ls} {more = more} whole S P) σ e L s few =
    let count : records_in (r ++ input) ≡ 1 + records_in input = omega (arith, length-append r input) in
    let a = subst Small (take_at r input 24 whole) (part_small 24 0 (r ++ input) s) in
    let b : Small input = λ j. rw (get_or-append-add r input j 0) at (s (length r + j)) in
    let (text, tape) = step-ours k σ r whole a L (omega arith) (subst (λ (x : Between). Step (suc k) x r ls τ') (sym e) S) in
    let next = (record-done k σ r whole a L (omega arith)).lawful in
    rw count (record-ours σ k r input (records_in input) ls more whole text (prints-ours P (take_record σ (suc k) r).tape tape next b (omega arith)))

-- ---- from the start

pub only-printer : OnlyPrinter (printed Lines)
unfolding OnlyPrinter TapePrinted printed events_of
only-printer print claim input b few =
    let areas : Store = record { state = replicate 1804 0; memory = replicate 5120 0 } in
    let s = length-replicate {A = ℕ} 1804 0 in
    let m = length-replicate {A = ℕ} 5120 0 in
    let (ls, cut, P) = claim areas s m input b few in
    uncut [] (print input) ls cut ∙ sym (prints-ours P start (sym (begun-start areas s m)) start-lawful (bytes_small input b) (omega arith))

-- ---- whatever meets the claim prints document 01's example; so a printer of nothing doesn't meet it

example-bytes : Bytes example_tape
unfolding Bytes example_tape flatten all
example-bytes i h = ltb-true (byte example_tape i) 256 (all-at (λ j. ltb (byte example_tape j) 256) 192 i refl h)

pub example-by-all : (print : List ℕ → List ℕ) → TapePrinted print → PrintsTheExample print
unfolding PrintsTheExample OnlyPrinter example_tape flatten
example-by-all print claim = only-printer print claim example_tape example-bytes (omega arith) ∙ example-printed

pub nothing-refused : TapePrinted (λ input. []) → ⊥
unfolding PrintsTheExample example_lines
nothing-refused claim = nil-cons (example-by-all (λ input. []) claim)
