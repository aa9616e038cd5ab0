-- The code's values as values of the definitions. Assumes nothing.
use Rattle.std.specs.Prelude.{ℕ, List, Option, Some, None, Result, Ok, Err}
use Rattle.layout.specs.Numbers as Calls
use Rattle.layout.specs.declared.ClockReading.{ClockReading}
use Rattle.records.specs.Records as Records
use Rattle.events.specs.declared.Pending.{Pending}
use Rattle.events.specs.declared.Refused.{Refused}
use Rattle.events.specs.declared.Refused.TheVariants.{Record, Call}
use Rattle.events.specs.declared.Tape as Code
use Rattle.events.specs.Tape.{Tape, Event, nothing, refused, ticked, Taken}

-- A tape whose router and arrivals stand in areas, and the code's.
abbrev pub tape_in : List ℕ → List ℕ → List ℕ → Pending → Tape
tape_in state memory arrivals w = record { store = record { state = state; memory = memory }; pending = w.mask; records = w.records; arrivals = arrivals }

abbrev pub tape_of : {S M : ℕ} → Code.Tape S M → Tape
tape_of t = tape_in t.state t.memory t.arrivals t.pending

-- The number of each refusal.
abbrev pub refused_number : Refused → ℕ
refused_number (Record refusal) = Records.number_of refusal
refused_number (Call refusal) = Calls.number_of refusal

-- The event of record k, with the outgoing and answer bytes of its reply.
abbrev pub event_of : ℕ → List ℕ → Result (Option ClockReading) Refused → List ℕ → List ℕ → Event
event_of k records (Ok None) out ans = nothing
event_of k records (Ok (Some clock)) out ans = ticked records clock.0 out ans
event_of k records (Err why) out ans = refused k (refused_number why)

abbrev pub taken_in : ℕ → List ℕ → List ℕ → List ℕ → Pending → Result (Option ClockReading) Refused → List ℕ → List ℕ → Taken
taken_in k state memory arrivals w event out ans = record { tape = tape_in state memory arrivals w; event = event_of k w.records event out ans }

abbrev pub taken_of : {S M : ℕ} → ℕ → Code.Tape S M → Result (Option ClockReading) Refused → List ℕ → List ℕ → Taken
taken_of k t event out ans = taken_in k t.state t.memory t.arrivals t.pending event out ans
