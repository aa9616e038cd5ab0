-- A tape's records, and their questions 9 to 12 (document 01, "Tape program" and "Per tape record"). Assumes nothing.
use Rattle.std.specs.Prelude.{ℕ, ◌+◌, ◌-◌, ◌*◌, ◌/◌, Bool, cond, ◌&&◌, List, length, take, drop, leb, eqb, ◌==◌, ◌≡◌, ◌≢◌, Result, Ok, Err, MatchResult}
use Rattle.std.specs.List.{list_all}
use Rattle.rules.specs.Areas.{byte, has}
use Rattle.records.specs.declared.Kind.{Kind}
use Rattle.records.specs.declared.Kind.TheVariants.{Control, Arrival, Tick}
use Rattle.records.specs.declared.Refusal.{Refusal}
use Rattle.records.specs.declared.Refusal.TheVariants.{Short, UnknownKind, Unused, Occupied}

-- Records of 24 bytes, no header: how many an input has, and its i-th from 0 on. A rest of fewer bytes is the last.
abbrev pub record_length : ℕ
record_length = 24

abbrev pub records_in : List ℕ → ℕ
records_in input = (length input + 23) / record_length

abbrev pub record_at : List ℕ → ℕ → List ℕ
record_at input i = take record_length (drop (record_length * i) input)

-- Byte 0 is the kind: 43h control, 41h arrival, 54h tick.
abbrev pub control_kind : ℕ
control_kind = 67

abbrev pub arrival_kind : ℕ
arrival_kind = 65

abbrev pub tick_kind : ℕ
tick_kind = 84

-- Every byte is zero, of a list and of the part between two places.
abbrev pub blank : List ℕ → Bool
blank l = list_all (λ b. b == 0) l

abbrev pub blank_part : List ℕ → ℕ → ℕ → Bool
blank_part r from to = blank (take (to - from) (drop from r))

-- Are unused bytes zero, those from a place on?
unfoldable pub unused_refusal : List ℕ → ℕ → ℕ
unused_refusal r from = cond (blank_part r from record_length) 0 11

-- Of an arrival: are unused bytes zero and is the port at most 4, is that port without a packet for the coming tick?
unfoldable pub arrival_refusal : ℕ → List ℕ → ℕ
arrival_refusal pending r = cond (blank_part r 2 4 && leb (byte r 1) 4) (cond (has pending (byte r 1)) 12 0) 11

-- Is the kind known?
unfoldable pub kind_refusal : ℕ → List ℕ → ℕ
kind_refusal pending r =
    cond (eqb (byte r 0) control_kind) (unused_refusal r 3)
    (cond (eqb (byte r 0) arrival_kind) (arrival_refusal pending r)
    (cond (eqb (byte r 0) tick_kind) (unused_refusal r 2) 10))

-- Are there 24 bytes?
unfoldable pub record_refusal : ℕ → List ℕ → ℕ
record_refusal pending r = cond (eqb (length r) record_length) (kind_refusal pending r) 9

-- The number of each refusal, and of an answer: 0 where nothing is refused.
abbrev pub number_of : Refusal → ℕ
number_of Short = 9
number_of UnknownKind = 10
number_of Unused = 11
number_of Occupied = 12

abbrev pub answer_of : {A : Type 0} → Result A Refusal → ℕ
answer_of (Ok x) = 0
answer_of (Err refusal) = number_of refusal

-- The byte of each kind.
abbrev pub byte_of : Kind → ℕ
byte_of Control = control_kind
byte_of Arrival = arrival_kind
byte_of Tick = tick_kind

-- The kind of a byte, or 10 where no kind has it.
abbrev pub Decodes : ℕ → Result Kind Refusal → Type 0
Decodes b r = MatchResult r (λ kind. byte_of kind ≡ b) (λ refusal. (refusal ≡ UnknownKind) × (b ≢ control_kind) × (b ≢ arrival_kind) × (b ≢ tick_kind))
