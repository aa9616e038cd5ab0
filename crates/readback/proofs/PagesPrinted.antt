-- `page` prints pages of the T lines that `tape` prints: these are the texts of the accepted ticks, event by event. Assumes nothing.
use Prim.Native.Nat.{ℕ, zero, suc, ◌+◌}
use mathlib.Core.Path.{◌≡◌, refl, sym, ap, subst, ◌∙◌}
use mathlib.Core.Bool.{Bool, true, false, cond}
use mathlib.Core.List.{List, [], ◌∷◌, ◌++◌, append-nil, map}
use lib.ListN.{get_or}
use lib.Dec.{leb, eqb}
use Rattle.rules.specs.Areas.{byte, ports_below, per_port}
use Rattle.events.specs.Tape.{Event, nothing, refused, ticked, events_of}
use Rattle.text.specs.Lines.{refused_line, tick_text, tick_line}
use Rattle.text.specs.Characters.{cut_from}
use Rattle.pages.specs.Pages.{ticks_of, text_of, printed_pages}
use Rattle.pages.specs.Claims.{PagesRight}
use Rattle.pages.proofs.Withdrawn.{tape-bounded}
use Rattle.pages.proofs.Reading.{pages-right}
use Rattle.tapes.specs.declared.printing.Style.TheVariants.{Lines, Pages}
use Rattle.tapes.specs.Printed.{refused_arrival, ticked_lines, event_lines, lines_of, printed}
use Rattle.readback.specs.PagesPrinted.{tick_lines, PagesPrinted}
use Rattle.readback.proofs.LinesRead.{refused_text}
use Rattle.readback.proofs.Steps.{CutsTo, cuts-none, cuts-then, cuts-refused, cuts-tick}

-- The text is cut into lines of which those that begin with T are these.
record Ticks (text : List ℕ) (ts : List (List ℕ)) : Type 0 where
  lines : List (List ℕ)
  cut : CutsTo text lines
  those : tick_lines lines ≡ ts

lines-append : (a b : List (List ℕ)) → tick_lines (a ++ b) ≡ tick_lines a ++ tick_lines b
unfolding tick_lines
lines-append [] b = refl
lines-append (l ∷ a) b = go (eqb (byte l 0) 84) (lines-append a b)
  where
    go : (t : Bool) → tick_lines (a ++ b) ≡ tick_lines a ++ tick_lines b → cond t (l ∷ tick_lines (a ++ b)) (tick_lines (a ++ b)) ≡ cond t (l ∷ tick_lines a) (tick_lines a) ++ tick_lines b
    go true e = ap (λ (x : List (List ℕ)). l ∷ x) e
    go false e = e

ticks-then : (a b : List ℕ) {ts us : List (List ℕ)} → Ticks a ts → Ticks b us → Ticks (a ++ b) (ts ++ us)
ticks-then a b A B = record { lines = A.lines ++ B.lines; cut = cuts-then a b A.lines B.lines A.cut B.cut; those = rw (lines-append A.lines B.lines, A.those, B.those) }

no-ticks : Ticks [] []
unfolding tick_lines
no-ticks = record { lines = []; cut = cuts-none; those = refl }

-- An R line begins with R, a T line with T.
refused_none : (k q : ℕ) → Ticks (refused_line k q) []
unfolding tick_lines
refused_none k q = record { lines = refused_text k q ∷ []; cut = cuts-refused k q; those = refl }

tick-one : (t : ℕ) (out ans : List ℕ) → Ticks (tick_line t out ans) (tick_text t out ans ∷ [])
unfolding tick_lines tick_text
tick-one t out ans = record { lines = tick_text t out ans ∷ []; cut = cuts-tick t out ans; those = refl }

refusals-none : (records ans : List ℕ) (p : ℕ) → Ticks (ports_below (refused_arrival records ans) p) []
unfolding ports_below refused_arrival
refusals-none records ans zero = no-ticks
refusals-none records ans (suc p) = ticks-then (ports_below (refused_arrival records ans) p) _ (refusals-none records ans p) (go (leb 6 (byte ans (5 + p))))
  where
    go : (b : Bool) → Ticks (cond b (refused_line (get_or records p 0) (byte ans (5 + p))) []) []
    go true = refused_none (get_or records p 0) (byte ans (5 + p))
    go false = no-ticks

-- Event by event.
event-ticks : (es : List Event) → Ticks (lines_of es) (map text_of (ticks_of es))
unfolding lines_of event_lines ticked_lines ticks_of
event-ticks [] = no-ticks
event-ticks (nothing ∷ es) = event-ticks es
event-ticks (refused k q ∷ es) = ticks-then (refused_line k q) (lines_of es) (refused_none k q) (event-ticks es)
event-ticks (ticked records t out ans ∷ es) =
    ticks-then (per_port (refused_arrival records ans) ++ tick_line t out ans) (lines_of es) (ticks-then (per_port (refused_arrival records ans)) (tick_line t out ans) (refusals-none records ans 5) (tick-one t out ans)) (event-ticks es)

-- All lines, after the last of which nothing stands.
tape-ticks : (input : List ℕ) → tick_lines (cut_from [] (printed Lines input)) ≡ map text_of (ticks_of (events_of input))
unfolding printed cut_from tick_lines
tape-ticks input =
    let T = event-ticks (events_of input) in
    ap (λ (l : List ℕ). tick_lines (cut_from [] l)) (sym (append-nil (lines_of (events_of input)))) ∙ ap tick_lines (T.cut []) ∙ lines-append T.lines ([] ∷ []) ∙ append-nil (tick_lines T.lines) ∙ T.those

pub pages-printed : PagesPrinted (printed Lines) (printed Pages)
unfolding PagesPrinted printed printed_pages
pages-printed input = subst (λ (ts : List (List ℕ)). PagesRight ts (printed_pages (events_of input))) (sym (tape-ticks input)) (pages-right (ticks_of (events_of input)) (tape-bounded input))
