-- `tape` prints what the input's bytes say: record after record, each by `record-done`, and a rest by its length. Assumes nothing.
use Prim.Native.Nat.{ℕ, zero, suc, ◌+◌, ◌^◌, ◌≤◌, ◌<◌}
use mathlib.Core.Path.{◌≡◌, refl, sym, ap, subst, ◌∙◌}
use mathlib.Core.Option.{none}
use mathlib.Core.List.{List, [], ◌∷◌, ◌++◌, append-nil, append_assoc}
use native.Mathlib.Decide.{dec_lt}
use native.Mathlib.Omega.{arith}
use lib.ListN.{length, length-drop, take, drop, take-append-drop, replicate, get_or-eq_default}
use lib.Seq.{take_all, length-take-le, get_or-drop}
use borrow.Author.Tests.{ne_eqb}
use Rattle.rules.specs.Areas.{Store, Outcome, Bytes, byte, has}
use Rattle.rules.specs.Board.{board8}
use Rattle.rules.proofs.Agreement.{fresh-made}
use Rattle.rules.proofs.Board8Laws.{lawful8}
use Rattle.records.specs.Records.{records_in, record_refusal}
use Rattle.events.specs.Tape.{Tape, start, Event, take_record, after, events_of}
use Rattle.events.proofs.Joined.{after-joined}
use Rattle.text.specs.Characters.{cut_from}
use Rattle.text.specs.Lines.{refused_line}
use Rattle.tapes.specs.declared.printing.Style.TheVariants.{Lines}
use Rattle.tapes.specs.Printed.{event_lines, lines_of, printed}
use Rattle.readback.specs.TapePrinted.{Between, Prints, ended, short, next, begun, TapePrinted}
use Rattle.readback.proofs.LinesRead.{refused_text, refused-reads}
use Rattle.readback.proofs.Small.{Small, zeros-small, part_small, fresh-small}
use Rattle.readback.proofs.Steps.{CutsTo, cuts-none, cuts-then, cuts-refused, between, Lawful, Done, record-done}

lines-append : (a b : List Event) → lines_of (a ++ b) ≡ lines_of a ++ lines_of b
unfolding lines_of
lines-append [] b = refl
lines-append (e ∷ a) b = rw (lines-append a b) (sym (append_assoc (event_lines e) (lines_of a) (lines_of b)))

-- What is printed of an input after k records, from the tape σ on.
pub record Printed (k : ℕ) (σ : Tape) (input : List ℕ) (es : List Event) : Type 0 where
  pub lines : List (List ℕ)
  pub cut : CutsTo (lines_of es) lines
  pub prints : Prints k (between σ) input lines

-- ---- one record

module _ (σ : Tape) (k : ℕ) (r : List ℕ) where
  -- An input of one record.
  pub one-record : length r ≤ 24 → after σ k r 1 ≡ record { tape = (take_record σ (suc k) r).tape; events = (take_record σ (suc k) r).event ∷ [] }
  unfolding after
  one-record l =
      let n : k + 1 ≡ suc k = omega arith in
      rw (n, take_all 24 r l)

  -- A rest of fewer bytes than a record has.
  rest-printed : (0 < length r) × (length r < 24) → suc k < 10 ^ 20 → Printed k σ r (after σ k r 1).events
  unfolding take_record record_refusal lines_of event_lines
  rest-printed l few =
      let h = l.1 in
      rw (one-record (omega arith), ne_eqb (length r) 24 (λ e. omega arith))
      (record {
        lines = refused_text (suc k) 9 ∷ [];
        cut = cuts-then (refused_line (suc k) 9) [] (refused_text (suc k) 9 ∷ []) [] (cuts-refused (suc k) 9) cuts-none;
        prints = short (refused_text (suc k) 9) l (refused-reads (suc k) 9 few (omega arith));
      })

-- A whole record, and what is printed after it.
record-printed : (σ : Tape) (k : ℕ) (r rest : List ℕ) (n : ℕ) → length r ≡ 24 → Done (suc k) σ r (take_record σ (suc k) r)
    → (let τ = (take_record σ (suc k) r).tape in Printed (suc k) τ rest (after τ (suc k) rest n).events) → Printed k σ (r ++ rest) (after σ k (r ++ rest) (suc n)).events
unfolding lines_of
record-printed σ k r rest n whole D P =
    let one : suc n ≡ 1 + n = omega arith in
    let number : k + 1 ≡ suc k = omega arith in
    let t = take_record σ (suc k) r in
    rw (one, after-joined σ k r rest 1 whole n, one-record σ k r (omega arith), number)
    (record {
      lines = D.lines ++ P.lines;
      cut = cuts-then (event_lines t.event) (lines_of (after t.tape (suc k) rest n).events) D.lines P.lines D.cut P.cut;
      prints = next whole D.step P.prints;
    })

-- ---- one after the other

walk : (n k : ℕ) (σ : Tape) (input : List ℕ) → records_in input ≡ n → Lawful k σ → Small input → k + n < 10 ^ 20 → Printed k σ input (after σ k input n).events
unfolding after lines_of
walk zero k σ [] e L b few = record { lines = []; cut = cuts-none; prints = ended }
walk zero k σ (x ∷ l) e L b few = absurd (omega arith)
walk (suc n) k σ input e L b few = go (dec_lt (length input) 24) (λ τ N c. walk n (suc k) τ (drop 24 input) c N (λ j. rw (get_or-drop 24 input j 0) (b (24 + j))) (omega arith))
  where
    go : Dec (length input < 24) → ((τ : Tape) → Lawful (suc k) τ → records_in (drop 24 input) ≡ n → Printed (suc k) τ (drop 24 input) (after τ (suc k) (drop 24 input) n).events)
        → Printed k σ input (after σ k input (suc n)).events
    go (yes h) later = let one : n ≡ 0 = omega arith in rw one (rest-printed σ k input (omega arith, h) (omega arith))
    go (no h) later =
        let r = take 24 input in
        let whole = length-take-le 24 input (omega arith) in
        let D = record-done k σ r whole (part_small 24 0 input b) L (omega arith) in
        subst (λ (l : List ℕ). Printed k σ l (after σ k l (suc n)).events) (take-append-drop 24 input)
        (record-printed σ k r (drop 24 input) n whole D (later (take_record σ (suc k) r).tape D.lawful (omega (arith, length-drop 24 input))))

-- ---- from the start

pub start-lawful : Lawful 0 start
unfolding start
start-lawful = record { store = fresh-small; pending = omega arith; whole = refl; arrivals = zeros-small 100; five = refl; records = zero-at }
  where
    zero-at : (p : ℕ) → byte (replicate 5 0) p ≤ 0
    zero-at zero = omega arith
    zero-at (suc zero) = omega arith
    zero-at (suc (suc zero)) = omega arith
    zero-at (suc (suc (suc zero))) = omega arith
    zero-at (suc (suc (suc (suc zero)))) = omega arith
    zero-at (suc (suc (suc (suc (suc p))))) = omega arith

-- Bytes of the input, and none after it.
pub bytes_small : (l : List ℕ) → Bytes l → Small l
unfolding Bytes
bytes_small l b j = go (dec_lt j (length l))
  where
    go : Dec (j < length l) → byte l j < 256
    go (yes h) = b j h
    go (no h) = rw (get_or-eq_default l 0 {n = j} (omega arith)) (omega arith)

pub begun-start : (r : Store) → length r.state ≡ 1804 → length r.memory ≡ 5120 → begun r ≡ between start
unfolding start has
begun-start r s m = ap (λ (o : Outcome Store). record { store = o.after; waits = replicate 5 none }) (fresh-made board8 lawful8 r s m 0)

pub tape-printed : TapePrinted (printed Lines)
unfolding TapePrinted printed events_of cut_from
tape-printed r s m input b few =
    let P = walk (records_in input) 0 start input refl start-lawful (bytes_small input b) (omega arith) in
    let text = lines_of (after start 0 input (records_in input)).events in
    (P.lines, ap (cut_from []) (sym (append-nil text)) ∙ P.cut [], subst (λ (σ : Between). Prints 0 σ input P.lines) (sym (begun-start r s m)) P.prints)
