-- A tape read in pieces, as the programs `tape` and `page` read it, and the claim that this prints what is printed of the tape as a whole. Assumes nothing.
use Rattle.std.specs.Prelude.{ℕ, ◌+◌, ◌*◌, ◌/◌, ◌≡◌, Bool, true, false, cond, length, take, drop}
use mathlib.Core.List.{List, [], ◌∷◌, ◌++◌, flatten}
use Rattle.records.specs.Records.{record_length, records_in}
use Rattle.events.specs.Tape.{Tape, start, after}
use Rattle.pages.specs.Printing.{Page, unbegun}
use Rattle.tapes.specs.declared.printing.Style.{Style}
use Rattle.tapes.specs.Printed.{printed, print_events, print_end}

-- Between blocks: the tape, how many records it has had, and the page at hand.
pub record Place : Type 0 where
  pub tape : Tape
  pub number : ℕ
  pub page : Page

abbrev pub begin : Place
begin = record { tape = start; number = 0; page = unbegun 1 }

-- The records of a block, as `Place::run` takes them: the place after them, and their text.
pub record Turned : Type 0 where
  pub place : Place
  pub text : List ℕ

unfoldable pub turned : Style → Place → List ℕ → Turned
turned style p block =
    let o = after p.tape p.number block (records_in block) in
    let t = print_events style p.page o.events in
    record { place = record { tape = o.tape; number = p.number + records_in block; page = t.page }; text = t.text }

-- The last turn's text has what goes out at the tape's end too.
unfoldable pub with_end : Style → Bool → Turned → Turned
with_end style last o = record { place = o.place; text = o.text ++ cond last (print_end style o.place.page) [] }

-- Between turns: the place, and the bytes held, the first ones of a record that has not all come.
pub record Between : Type 0 where
  pub place : Place
  pub held : List ℕ

abbrev pub unread : Between
unread = record { place = begin; held = [] }

-- Of so many bytes those of whole records are taken, and at the input's end all.
unfoldable pub to_take : Bool → ℕ → ℕ
to_take ended n = cond ended n (record_length * (n / record_length))

-- One turn of the loop: what it leaves for the next one, and its text.
pub record Turn : Type 0 where
  pub left : Between
  pub text : List ℕ

-- Its block is the bytes held, and then those that a read brought. What is not taken is held.
unfoldable pub turn : Style → Bool → Between → List ℕ → Turn
turn style ended b read =
    let block = b.held ++ read in
    let n = to_take ended (length block) in
    let o = with_end style ended (turned style b.place (take n block)) in
    record { left = record { place = o.place; held = drop n block }; text = o.text }

-- The loop, over the reads in their order: each turn gets what the last left, and its text comes after those before.
unfoldable pub looped : Style → Between → List (List ℕ) → Turn
looped style b [] = record { left = b; text = [] }
looped style b (read ∷ reads) =
    let o = turn style false b read in
    let rest = looped style o.left reads in
    record { left = rest.left; text = o.text ++ rest.text }

-- The claim: however the reads cut the records, the text of the turns before the input's end and that of the turn there are what is printed of all bytes read.
unfoldable pub ReadsPrintTheTape : Type 0
ReadsPrintTheTape = (style : Style) (reads : List (List ℕ)) (last : List ℕ) →
    let o = looped style unread reads in
    o.text ++ (turn style true o.left last).text ≡ printed style (flatten reads ++ last)

-- What a loop has come to that made so many turns, whose reads brought so many bytes in all: its last block, and what is left after it, are those of the definition over such reads, whether the input ended with the last or not.
-- By their number this excludes bytes held that get lost or are taken twice (`NoByteLost`). Bytes held which are exchanged for as many others between two turns don't show here: that a turn's block begins with the bytes handed to it, and that it hands on the bytes left of it, is said by program's `turn`; and by its `run` what is written of all bytes, where the reader says which they are.
pub record Reached (style : Style) (ended : Bool) (turns bytes : ℕ) (block : List ℕ) (b : Between) : Type 0 where
  pub reads : List (List ℕ)
  pub last : List ℕ
  pub each : length reads + 1 ≡ turns
  pub all : length (flatten reads ++ last) ≡ bytes
  pub joined : (looped style unread reads).left.held ++ last ≡ block
  pub left : b ≡ (turn style ended (looped style unread reads).left last).left

-- The bytes read are those of the k records before the last block, and the block's.
unfoldable pub NoByteLost : Type 0
NoByteLost = (style : Style) (ended : Bool) (turns bytes : ℕ) (block : List ℕ) (b : Between) → Reached style ended turns bytes block b
    → (k : ℕ) → b.place.number ≡ k + records_in (take (to_take ended (length block)) block) → record_length * k + length block ≡ bytes
