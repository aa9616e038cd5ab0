-- A tape between its records, and what each record comes to (document 01, "Tape program"). An event is all that a printer or a logger of the tape sees. Assumes nothing.
use Rattle.std.specs.Prelude.{ℕ, zero, suc, ◌+◌, ◌*◌, ◌^◌, cond, List, [], ◌∷◌, ◌++◌, drop, set, replicate, eqb}
use Rattle.std.proofs.lemmas.List.Edits.{sets}
use Rattle.rules.specs.Areas.{Store, packet_length, arrivals_length, outgoing_length, answers_length, byte, Outcome}
use Rattle.rules.specs.Board.{clock, board8}
use Rattle.rules.specs.Questions.{fresh, control_write, tick}
use Rattle.records.specs.Records.{control_kind, arrival_kind, records_in, record_at, record_refusal}

-- Between records: the router's store, and the arrivals that wait for the coming tick: a mask of their ports, the record that brought each, and their packets.
pub record Tape : Type 0 where
  pub store : Store
  pub pending : ℕ
  pub records : List ℕ
  pub arrivals : List ℕ

-- The clock starts at 0.
unfoldable pub start : Tape
start = record { store = fresh board8 0; pending = 0; records = replicate 5 0; arrivals = replicate arrivals_length 0 }

-- What a record comes to: nothing to tell; its number and its refusal; or an accepted tick, with the records that brought its arrivals, the clock before it, the outgoing and the answer bytes.
pub data Event : Type 0 where
  nothing : Event
  refused : ℕ → ℕ → Event
  ticked : List ℕ → ℕ → List ℕ → List ℕ → Event

pub record Taken : Type 0 where
  pub tape : Tape
  pub event : Event

-- 43h, a control write: its register and value.
abbrev pub after_control : Tape → ℕ → Outcome Store → Taken
after_control σ k o =
    let n = o.reply.number in
    record { tape = record { store = o.after; pending = σ.pending; records = σ.records; arrivals = σ.arrivals }; event = cond (eqb n 0) nothing (refused k n) }

unfoldable pub take_control : Tape → ℕ → List ℕ → Taken
take_control σ k r = after_control σ k (control_write board8 σ.store (byte r 1) (byte r 2))

-- 41h, an arrival: its port and packet wait for the coming tick.
unfoldable pub take_arrival : Tape → ℕ → List ℕ → Taken
take_arrival σ k r =
    let p = byte r 1 in
    record { tape = record { store = σ.store; pending = σ.pending + 2 ^ p; records = set σ.records p k; arrivals = sets σ.arrivals (packet_length * p) (drop 4 r) }; event = nothing }

-- 54h, a tick: a refused one keeps the waiting arrivals.
abbrev pub after_tick : Tape → ℕ → Outcome Store → Taken
after_tick σ k o =
    let n = o.reply.number in
    let t = ticked σ.records (board8.get σ.store.state clock) o.reply.outgoing o.reply.answers in
    record { tape = record { store = o.after; pending = cond (eqb n 0) 0 σ.pending; records = σ.records; arrivals = σ.arrivals }; event = cond (eqb n 0) t (refused k n) }

unfoldable pub take_tick : Tape → ℕ → List ℕ → Taken
take_tick σ k r = after_tick σ k (tick board8 σ.store σ.pending (byte r 1) σ.arrivals (replicate outgoing_length 0) (replicate answers_length 0))

-- One record, the k-th: its questions, then what its kind does.
unfoldable pub take_record : Tape → ℕ → List ℕ → Taken
take_record σ k r =
    let q = record_refusal σ.pending r in
    cond (eqb q 0)
    (cond (eqb (byte r 0) control_kind) (take_control σ k r) (cond (eqb (byte r 0) arrival_kind) (take_arrival σ k r) (take_tick σ k r)))
    (record { tape = σ; event = refused k q })

-- After the first i records of an input, whose first is the tape's record k + 1: the tape, and what they came to, in order.
pub record Passed : Type 0 where
  pub tape : Tape
  pub events : List Event

unfoldable pub after : Tape → ℕ → List ℕ → ℕ → Passed
after σ k input zero = record { tape = σ; events = [] }
after σ k input (suc i) =
    let o = after σ k input i in
    let t = take_record o.tape (k + suc i) (record_at input i) in
    record { tape = t.tape; events = o.events ++ (t.event ∷ []) }

-- What the records of a whole tape come to.
unfoldable pub events_of : List ℕ → List Event
events_of input = (after start 0 input (records_in input)).events
