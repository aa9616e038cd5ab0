-- What a turn of the programs' loop reads and holds, what lies between turns, what a run has come to, and what a whole run prints. Assumes nothing.
use Rattle.std.specs.Io.KnownBytes.{Appends}
use Rattle.std.specs.Prelude.{ℕ, ◌*◌, ◌≤◌, ◌<◌, Bool, List, length, take, drop, unwrap_or, IfSome}
use Rattle.std.specs.declared.option.Option.{Option}
use Rattle.arrayvec.specs.ArrayVec.{ArrayVec, array_vec_len}
use Rattle.records.specs.Records.{record_length}
use Rattle.tapes.specs.declared.printing.Style.{Style}
use Rattle.tapes.specs.Printed.{printed}
use Rattle.tapes.specs.Values.{place_of}
use Rattle.tapes.specs.Blocks.{Between, Reached}
use Rattle.program.specs.declared.Printer.{Printer}

-- The bytes held are fewer than a record has.
abbrev pub PartOfRecord : ArrayVec ℕ → Type 0
PartOfRecord held = array_vec_len held < record_length

-- What lies between turns.
abbrev pub between_of : Printer → Between
between_of p = record { place = place_of p.place; held = p.held.items }

-- What a read brought: a block's bytes after those held.
abbrev pub brought : List ℕ → Option ℕ → List ℕ → List ℕ
brought held r block = take (unwrap_or r 0) (drop (length held) block)

-- Each read has brought at most a block, of 1,024 records.
abbrev pub BlockPerRead : Printer → Type 0
BlockPerRead p = (p.place.number ≤ 1024 * p.reads) × (p.bytes ≤ 1024 * record_length * p.reads)

-- A run has come to what so many turns lead to whose reads brought so many bytes, the last one at the input's end or not, and its block has the last one's bytes.
abbrev pub HasReached : Style → Bool → Printer → Type 0
HasReached style ended p = (filled : ℕ) × Reached style ended p.reads p.bytes (take filled p.block) (between_of p)

-- Where the reader says which bytes it has left, and the writer which it holds: what is printed of all bytes that were left has been written after those held before.
abbrev pub PrintsTape : Style → Option (List ℕ) → Option (List ℕ) → Option (List ℕ) → Type 0
PrintsTape style tape before after = IfSome tape (λ bytes. Appends before after (printed style bytes))
