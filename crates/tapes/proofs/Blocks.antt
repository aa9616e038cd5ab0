-- The tape as a whole: joined inputs are one input, so the whole records of a turn, and then what is held and read after them, print what their bytes print. Assumes nothing.
use Prim.Native.Nat.{ℕ, ◌+◌, ◌*◌}
use mathlib.Core.Path.{◌≡◌, refl, sym, ap, ◌∙◌}
use mathlib.Core.Bool.{Bool, false}
use mathlib.Core.List.{List, [], ◌∷◌, ◌++◌, append-nil, append_assoc, flatten}
use native.Mathlib.Omega.{arith}
use lib.ListN.{length, length-append, length-drop, take, drop, take-append-drop}
use lib.Seq.{take-length, length-take-le}
use Rattle.records.specs.Records.{record_length, records_in}
use Rattle.events.specs.Tape.{after, events_of}
use Rattle.events.proofs.Joined.{after-joined}
use Rattle.pages.specs.Printing.{Paged}
use Rattle.tapes.specs.declared.printing.Style.{Style}
use Rattle.tapes.specs.Printed.{print_events, print_end}
use Rattle.tapes.specs.Blocks.{Between, unread, turned, with_end, to_take, Turn, turn, looped, ReadsPrintTheTape, Reached, NoByteLost}
use Rattle.tapes.proofs.Texts.{print-append, all-printed}

-- ---- reads

module _ (style : Style) where
  -- Turns over reads, and then all that is held, with a last read.
  abbrev then-all : Between → List (List ℕ) → List ℕ → Paged
  then-all b reads last =
      let o = looped style b reads in
      let t = turned style o.left.place (o.left.held ++ last) in
      record { page = t.place.page; text = o.text ++ t.text }

  looped-joined : (b : Between) (reads : List (List ℕ)) (last : List ℕ)
      → then-all b reads last
      ≡ print_events style b.place.page (after b.place.tape b.place.number (b.held ++ (flatten reads ++ last)) (records_in (b.held ++ (flatten reads ++ last)))).events
  unfolding looped turn turned with_end to_take flatten
  looped-joined b [] last = refl
  looped-joined b (r ∷ rs) last =
      let p = b.place in
      let block = b.held ++ r in
      let n = to_take false (length block) in
      let a = take n block in
      let o = turned style p a in
      let rest = flatten rs ++ last in
      let next = drop n block ++ rest in
      let input : b.held ++ ((r ++ flatten rs) ++ last) ≡ a ++ next = ap (λ (l : List ℕ). b.held ++ l) (append_assoc r (flatten rs) last) ∙ sym (append_assoc b.held r rest) ∙ ap (λ (l : List ℕ). l ++ rest) (sym (take-append-drop n block)) ∙ append_assoc a (drop n block) rest in
      let whole : length a ≡ record_length * records_in a = omega (arith, length-take-le n block (omega arith)) in
      let sum : records_in (a ++ next) ≡ records_in a + records_in next = omega (arith, length-append a next, whole) in
      rw (input, sum, after-joined p.tape p.number a next (records_in a) whole (records_in next), print-append, append-nil o.text, append_assoc)
      (ap (λ (t : Paged). record { page = t.page; text = o.text ++ t.text }) (looped-joined (record { place = o.place; held = drop n block }) rs last))

pub reads_print_the_tape : ReadsPrintTheTape
unfolding ReadsPrintTheTape turn with_end to_take events_of
reads_print_the_tape style reads last =
    let o = looped style unread reads in
    rw (take-length (o.left.held ++ last), ← append_assoc)
    (ap (λ (t : Paged). t.text ++ print_end style t.page) (looped-joined style unread reads last) ∙ all-printed style (flatten reads ++ last))

-- ---- bytes

-- The bytes in records and the bytes held are those of before and those read.
looped-counts : (style : Style) (b : Between) (reads : List (List ℕ))
    → record_length * (looped style b reads).left.place.number + length (looped style b reads).left.held ≡ record_length * b.place.number + length b.held + length (flatten reads)
unfolding looped turn turned with_end to_take flatten
looped-counts style b [] = omega arith
looped-counts style b (r ∷ rs) =
    let block = b.held ++ r in
    let n = to_take false (length block) in
    omega (arith, looped-counts style (turn style false b r).left rs, length-take-le n block (omega arith), length-drop n block, length-append b.held r, length-append r (flatten rs))

pub no_byte_lost : NoByteLost
unfolding NoByteLost turn turned with_end
no_byte_lost style ended turns bytes block b r k =
    let o = (looped style unread r.reads).left in
    rw (← r.joined)
    (λ e. omega (arith, e, ap (λ (q : Between). q.place.number) r.left, looped-counts style unread r.reads, length-append o.held r.last, length-append (flatten r.reads) r.last, r.all))

-- ---- the loop, turn after turn

-- A turn after others.
pub looped-then : (style : Style) (b : Between) (reads : List (List ℕ)) (read : List ℕ)
    → ◌≡◌ {A = Turn} (looped style b (reads ++ (read ∷ []))) (record { left = (turn style false (looped style b reads).left read).left; text = (looped style b reads).text ++ (turn style false (looped style b reads).left read).text })
unfolding looped
looped-then style b [] read = ap (λ (t : List ℕ). record { left = (turn style false b read).left; text = t }) (append-nil (turn style false b read).text)
looped-then style b (x ∷ xs) read =
    let o = turn style false b x in
    let rest = looped style o.left xs in
    ap (λ (t : Turn). record { left = t.left; text = o.text ++ t.text }) (looped-then style o.left xs read)
    ∙ ap (λ (t : List ℕ). record { left = (turn style false rest.left read).left; text = t }) (sym (append_assoc o.text rest.text (turn style false rest.left read).text))

pub flatten-then : (reads : List (List ℕ)) (read : List ℕ) → flatten (reads ++ (read ∷ [])) ≡ flatten reads ++ read
unfolding flatten
flatten-then [] read = append-nil read
flatten-then (x ∷ xs) read = rw (flatten-then xs read, append_assoc x (flatten xs) read)

-- After so many turns, none of them at the input's end, whose reads brought so many bytes.
pub record Passed (style : Style) (turns bytes : ℕ) (b : Between) : Type 0 where
  pub reads : List (List ℕ)
  pub each : length reads ≡ turns
  pub all : length (flatten reads) ≡ bytes
  pub left : b ≡ (looped style unread reads).left

pub passed_none : (style : Style) (b : Between) → b ≡ unread → Passed style 0 0 b
unfolding looped flatten
passed_none style b e = record { reads = []; each = refl; all = refl; left = e }

pub passed_on : {style : Style} {ended : Bool} {turns bytes : ℕ} {block : List ℕ} {b : Between} → Reached style ended turns bytes block b → ended ≡ false → Passed style turns bytes b
passed_on {style} r going = record {
  reads = r.reads ++ (r.last ∷ []);
  each = length-append r.reads (r.last ∷ []) ∙ r.each;
  all = ap length (flatten-then r.reads r.last) ∙ r.all;
  left = r.left ∙ rw going (sym (ap (λ (t : Turn). t.left) (looped-then style unread r.reads r.last)));
}

-- A turn more.
pub reached_then : {style : Style} {turns bytes : ℕ} {b : Between} → Passed style turns bytes b → (ended : Bool) (read block : List ℕ) (q : Between) → block ≡ b.held ++ read → q ≡ (turn style ended b read).left
    → Reached style ended (turns + 1) (bytes + length read) block q
reached_then p ended read block q joined left = record {
  reads = p.reads;
  last = read;
  each = omega (arith, p.each);
  all = length-append (flatten p.reads) read ∙ rw p.all;
  joined = rw (← p.left) (sym joined);
  left = rw (← p.left) left;
}
