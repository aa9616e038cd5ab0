-- What goes out with events one after the other, and with one record more; and that in each style it is all that is printed of them. Assumes nothing.
use Prim.Native.Nat.{ℕ, suc, ◌+◌}
use mathlib.Core.Path.{◌≡◌, refl, ◌∙◌}
use mathlib.Core.List.{List, [], ◌∷◌, ◌++◌, append-nil, append_assoc}
use native.Mathlib.Numerals.{add-one}
use native.Mathlib.Omega.{arith}
use Rattle.records.specs.Records.{record_at}
use Rattle.events.specs.Tape.{Tape, Event, Taken, take_record, after, events_of}
use Rattle.pages.specs.Printing.{Page, unbegun, Paged, in_order}
use Rattle.pages.specs.Claims.{PagesAsTicksCome}
use Rattle.pages.specs.Values.{PutPaged, PutPagedAt}
use Rattle.pages.proofs.AsTicksCome.{pages_as_ticks_come}
use Rattle.tapes.specs.declared.printing.Style.{Style}
use Rattle.tapes.specs.declared.printing.Style.TheVariants.{Lines, Pages}
use Rattle.tapes.specs.Printed.{lines_of, printed, print_event, print_events, print_end}
use Rattle.tapes.proofs.Put.{put_then}

-- ---- one after the other

abbrev then : Paged → Paged → Paged
then a b = record { page = b.page; text = a.text ++ b.text }

pub print-append : (style : Style) (p : Page) (a b : List Event) → print_events style p (a ++ b) ≡ then (print_events style p a) (print_events style (print_events style p a).page b)
unfolding in_order
print-append style p [] b = refl
print-append style p (e ∷ a) b =
    let o = print_event style p e in
    let rest = print_events style o.page a in
    rw (print-append style o.page a b, append_assoc o.text rest.text (print_events style rest.page b).text)

-- ---- one record more

module _ (σ : Tape) (k : ℕ) (b : List ℕ) (i : ℕ) (τ : Tape) (so_far : τ ≡ (after σ k b i).tape) (number : ℕ) (bytes : List ℕ) (its_number : number ≡ k + i + 1) (its_bytes : bytes ≡ record_at b i) where
  abbrev next : Taken
  next = take_record τ number bytes

  as_in_after : next ≡ take_record (after σ k b i).tape (k + suc i) (record_at b i)
  as_in_after =
      let s : k + suc i ≡ k + i + 1 = omega arith in
      rw (so_far, its_number, its_bytes, s)

  pub tape-then : (t : Tape) → t ≡ next.tape → t ≡ (after σ k b (i + 1)).tape
  unfolding after
  tape-then t e = rw (add-one i, ← as_in_after) e

  pub text-then : (style : Style) (p q r : Page) {l l' l'' : List ℕ}
      → PutPaged (print_events style p (after σ k b i).events) q l l' → PutPaged (print_event style q next.event) r l' l''
      → PutPaged (print_events style p (after σ k b (i + 1)).events) r l l''
  unfolding after in_order
  text-then style p q r {l} x y =
      let z = rw x.page at y in
      let o = print_events style p (after σ k b i).events in
      let e = print_event style o.page next.event in
      rw (add-one i, ← as_in_after, print-append style p (after σ k b i).events (next.event ∷ []), append-nil e.text)
      (record { page = z.page; text = z.text ∙ rw x.text (append_assoc l o.text e.text) })

  pub lent-then : (style : Style) (p q r : Page) {l l' l'' : List ℕ} {at m n : ℕ}
      → PutPagedAt (print_events style p (after σ k b i).events) q at l l' m → PutPagedAt (print_event style q next.event) r m l' l'' n
      → PutPagedAt (print_events style p (after σ k b (i + 1)).events) r at l l'' n
  unfolding after in_order
  lent-then style p q r x y =
      let z = rw x.page at y in
      let o = print_events style p (after σ k b i).events in
      let e = print_event style o.page next.event in
      rw (add-one i, ← as_in_after, print-append style p (after σ k b i).events (next.event ∷ []), append-nil e.text)
      (record { page = z.page; text = put_then x.text z.text })

-- ---- all that is printed

all_lines : (p : Page) (es : List Event) → print_events Lines p es ≡ record { page = p; text = lines_of es }
unfolding in_order print_event lines_of
all_lines p [] = refl
all_lines p (e ∷ es) = rw (all_lines p es)

-- With what goes out at the end.
pub all-printed : (style : Style) (input : List ℕ) → (let o = print_events style (unbegun 1) (events_of input) in o.text ++ print_end style o.page ≡ printed style input)
unfolding print_event print_end printed PagesAsTicksCome
all-printed Lines input = rw (all_lines (unbegun 1) (events_of input)) (append-nil (lines_of (events_of input)))
all-printed Pages input = pages_as_ticks_come (events_of input)
