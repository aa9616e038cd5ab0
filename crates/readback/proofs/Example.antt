-- Document 01's example: what the router replies to its six calls is computed at the router that never turns over, by demand 3; the rest by computation, record after record. Assumes nothing.
use Prim.Native.Nat.{ℕ, suc, ◌+◌}
use mathlib.Core.Path.{◌≡◌, refl, ap}
use mathlib.Core.List.{List, [], ◌∷◌, ◌++◌, flatten}
use native.Mathlib.Omega.{arith}
use lib.ListN.{length, replicate}
use lib.IntN.{pos}
use Rattle.rules.specs.Areas.{Store, Reply, number_reply, has, ports_below}
use Rattle.rules.specs.Board.{clock, board8}
use Rattle.rules.specs.Questions.{fresh}
use Rattle.rules.specs.Calls.{Call, control, tick, after_all, replies}
use Rattle.rules.specs.Demand3.{byte_step}
use Rattle.rules.proofs.Booleans.{cons-first, cons-rest}
use Rattle.cases.proofs.Computing.{computing}
use Rattle.cases.proofs.Proper.{proper}
use Rattle.cases.proofs.Reached.{after-calls}
use Rattle.records.specs.Records as Records
use Rattle.records.specs.Records.{record_refusal, kind_refusal, unused_refusal}
use Rattle.events.specs.Tape.{Tape, start, Event, nothing, refused, ticked, Taken, take_record, take_control, take_arrival, take_tick, after, events_of}
use Rattle.events.proofs.Joined.{after-joined}
use Rattle.text.specs.Lines as Text
use Rattle.tapes.specs.declared.printing.Style.TheVariants.{Lines}
use Rattle.tapes.specs.Printed.{refused_arrival, ticked_lines, event_lines, lines_of, printed}
use Rattle.readback.specs.Example.{control_record, arrival_record, tick_record, example_tape, example_lines, PrintsTheExample}
use Rattle.readback.proofs.TapePrinted.{one-record}

-- ---- the calls and their replies

abbrev zeros : ℕ → List ℕ
zeros n = replicate n 0

-- The packet arrives on port 0 in the first tick; the second brings none, and leaves the area as it was.
abbrev area : List ℕ
area = 5 ∷ 1 ∷ zeros 98

abbrev ticking : ℕ → Call
ticking arriving = tick (record { arriving = arriving; best_effort = 0; arrivals = area; times = λ p. pos 1 }) (zeros 100) (zeros 20)

abbrev written : List Call
written = control 0 33 ∷ control 1 10 ∷ control 2 2 ∷ control 3 5 ∷ []

abbrev calls : List Call
calls = written ++ (ticking 1 ∷ ticking 0 ∷ [])

-- It is stored, and early; then port 1 sends it on time.
abbrev first : Reply
first = record { number = 0; outgoing = zeros 100; answers = 0 ∷ 0 ∷ 0 ∷ 0 ∷ 0 ∷ 1 ∷ zeros 14 }

abbrev second : Reply
second = record { number = 0; outgoing = zeros 20 ++ (33 ∷ 11 ∷ zeros 18) ++ zeros 60; answers = 0 ∷ 1 ∷ zeros 18 }

replied : replies (byte_step board8) (fresh board8 0) calls ≡ number_reply 0 ∷ number_reply 0 ∷ number_reply 0 ∷ number_reply 0 ∷ first ∷ second ∷ []
unfolding computing
replied = (after-calls 0 (omega arith) calls (proper 1 calls (pos 0) refl)).agree

-- The clock that each tick meets.
clock-0 : board8.get (after_all (byte_step board8) (fresh board8 0) written).state clock ≡ 0
unfolding computing
clock-0 = (after-calls 0 (omega arith) written (proper 1 written (pos 0) refl)).shown.clock

clock-1 : board8.get (after_all (byte_step board8) (fresh board8 0) (written ++ (ticking 1 ∷ []))).state clock ≡ 1
unfolding computing
clock-1 = (after-calls 0 (omega arith) (written ++ (ticking 1 ∷ [])) (proper 1 (written ++ (ticking 1 ∷ [])) (pos 0) refl)).shown.clock

-- ---- the records

abbrev tape : Store → ℕ → List ℕ → List ℕ → Tape
tape s pending records arrivals = record { store = s; pending = pending; records = records; arrivals = arrivals }

abbrev leads : Tape → Event → Taken
leads σ e = record { tape = σ; event = e }

-- An accepted control write.
control-event : (s : Store) (k q v : ℕ) (a b : List ℕ) → (byte_step board8 s (control q v)).reply ≡ number_reply 0
    → take_record (tape s 0 a b) k (control_record q v) ≡ leads (tape (byte_step board8 s (control q v)).after 0 a b) nothing
unfolding take_record record_refusal kind_refusal unused_refusal take_control byte_step
control-event s k q v a b e = rw (ap (λ (o : Reply). o.number) e)

-- An accepted tick, with the arrivals of the mask m.
tick-event : (s : Store) (k m t : ℕ) (a : List ℕ) (o : Reply) → (byte_step board8 s (ticking m)).reply ≡ o → o.number ≡ 0 → board8.get s.state clock ≡ t
    → take_record (tape s m a area) k (tick_record 0) ≡ leads (tape (byte_step board8 s (ticking m)).after 0 a area) (ticked a t o.outgoing o.answers)
unfolding take_record record_refusal kind_refusal unused_refusal take_tick byte_step
tick-event s k m t a o e n c = rw (ap (λ (o : Reply). o.number) e, n, ap (λ (o : Reply). o.outgoing) e, ap (λ (o : Reply). o.answers) e, c)

arrival-event : (s : Store) → take_record (tape s 0 (zeros 5) (zeros 100)) 5 (arrival_record 0 5 1) ≡ leads (tape s 1 (5 ∷ zeros 4) area) nothing
unfolding take_record record_refusal kind_refusal Records.arrival_refusal take_arrival has
arrival-event s = refl

port-9-event : (s : Store) (a b : List ℕ) → take_record (tape s 0 a b) 8 (arrival_record 9 0 0) ≡ leads (tape s 0 a b) (refused 8 11)
unfolding take_record record_refusal kind_refusal Records.arrival_refusal
port-9-event s a b = refl

-- ---- one after the other

then-event : (σ τ : Tape) (k : ℕ) (r rest : List ℕ) (n : ℕ) (e : Event) (es : List Event) → length r ≡ 24 → take_record σ (suc k) r ≡ leads τ e → (after τ (suc k) rest n).events ≡ es → (after σ k (r ++ rest) (suc n)).events ≡ e ∷ es
then-event σ τ k r rest n e es whole t more =
    let one : suc n ≡ 1 + n = omega arith in
    let number : k + 1 ≡ suc k = omega arith in
    rw (one, after-joined σ k r rest 1 whole n, one-record σ k r (omega arith), number, t, more)

no_more : (σ : Tape) (k : ℕ) → (after σ k [] 0).events ≡ []
unfolding after
no_more σ k = refl

-- The router's state and memory after the first calls.
abbrev after-1 : Store
after-1 = (byte_step board8 (fresh board8 0) (control 0 33)).after

abbrev after-2 : Store
after-2 = (byte_step board8 after-1 (control 1 10)).after

abbrev after-3 : Store
after-3 = (byte_step board8 after-2 (control 2 2)).after

abbrev after-4 : Store
after-4 = (byte_step board8 after-3 (control 3 5)).after

abbrev after-5 : Store
after-5 = (byte_step board8 after-4 (ticking 1)).after

abbrev after-6 : Store
after-6 = (byte_step board8 after-5 (ticking 0)).after

abbrev sixth : List Event
sixth = ticked (5 ∷ zeros 4) 0 first.outgoing first.answers ∷ ticked (5 ∷ zeros 4) 1 second.outgoing second.answers ∷ refused 8 11 ∷ []

events : events_of example_tape ≡ nothing ∷ nothing ∷ nothing ∷ nothing ∷ nothing ∷ sixth
unfolding events_of example_tape flatten start replies after_all
events =
    let r₂ = cons-rest replied in
    let r₃ = cons-rest r₂ in
    let r₄ = cons-rest r₃ in
    let r₅ = cons-rest r₄ in
    let r₆ = cons-rest r₅ in
    let z = zeros 5 in
    let none = zeros 100 in
    let five : List ℕ = 5 ∷ zeros 4 in
    let x₈ = arrival_record 9 0 0 ++ [] in
    let x₇ = tick_record 0 ++ x₈ in
    let x₆ = tick_record 0 ++ x₇ in
    let x₅ = arrival_record 0 5 1 ++ x₆ in
    let x₄ = control_record 3 5 ++ x₅ in
    let x₃ = control_record 2 2 ++ x₄ in
    let x₂ = control_record 1 10 ++ x₃ in
    let e₈ = then-event (tape after-6 0 five area) (tape after-6 0 five area) 7 (arrival_record 9 0 0) [] 0 (refused 8 11) [] refl (port-9-event after-6 five area) (no_more (tape after-6 0 five area) 8) in
    let e₇ = then-event (tape after-5 0 five area) (tape after-6 0 five area) 6 (tick_record 0) x₈ 1 _ _ refl (tick-event after-5 7 0 1 five second (cons-first r₆) refl clock-1) e₈ in
    let e₆ = then-event (tape after-4 1 five area) (tape after-5 0 five area) 5 (tick_record 0) x₇ 2 _ _ refl (tick-event after-4 6 1 0 five first (cons-first r₅) refl clock-0) e₇ in
    let e₅ = then-event (tape after-4 0 z none) (tape after-4 1 five area) 4 (arrival_record 0 5 1) x₆ 3 nothing _ refl (arrival-event after-4) e₆ in
    let e₄ = then-event (tape after-3 0 z none) (tape after-4 0 z none) 3 (control_record 3 5) x₅ 4 nothing _ refl (control-event after-3 4 3 5 z none (cons-first r₄)) e₅ in
    let e₃ = then-event (tape after-2 0 z none) (tape after-3 0 z none) 2 (control_record 2 2) x₄ 5 nothing _ refl (control-event after-2 3 2 2 z none (cons-first r₃)) e₄ in
    let e₂ = then-event (tape after-1 0 z none) (tape after-2 0 z none) 1 (control_record 1 10) x₃ 6 nothing _ refl (control-event after-1 2 1 10 z none (cons-first r₂)) e₃ in
    then-event (tape (fresh board8 0) 0 z none) (tape after-1 0 z none) 0 (control_record 0 33) x₂ 7 nothing _ refl (control-event (fresh board8 0) 1 0 33 z none (cons-first replied)) e₂

pub example-printed : PrintsTheExample (printed Lines)
unfolding PrintsTheExample printed lines_of event_lines ticked_lines refused_arrival example_lines Text.tick_line Text.tick_text Text.port_field Text.field Text.refused_line Text.decimal Text.digits_up_to Text.withdrawn_below ports_below
example-printed = ap lines_of events
