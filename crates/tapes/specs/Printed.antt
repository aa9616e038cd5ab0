-- What is printed of a tape, from what its records come to: lines by the program `tape` (document 01, "Tape program"), pages by `page` (document 02, [3]). Assumes nothing.
use Rattle.std.specs.Prelude.{ℕ, ◌+◌, cond, List, [], ◌∷◌, ◌++◌, get_or, leb}
use Rattle.rules.specs.Areas.{byte, per_port}
use Rattle.events.specs.Tape.{Event, nothing, refused, ticked, events_of}
use Rattle.text.specs.Lines.{refused_line, tick_line}
use Rattle.pages.specs.Pages.{printed_pages}
use Rattle.pages.specs.Printing.{Page, Paged, with_event, in_order, ending}
use Rattle.tapes.specs.declared.printing.Style.{Style}
use Rattle.tapes.specs.declared.printing.Style.TheVariants.{Lines, Pages}

-- ---- lines

-- The refusals 6 to 8 of a tick, each under its arrival's record.
unfoldable pub refused_arrival : List ℕ → List ℕ → ℕ → List ℕ
refused_arrival records ans p = cond (leb 6 (byte ans (5 + p))) (refused_line (get_or records p 0) (byte ans (5 + p))) []

-- An accepted tick: those lines, port order, before its own.
unfoldable pub ticked_lines : List ℕ → ℕ → List ℕ → List ℕ → List ℕ
ticked_lines records t out ans = per_port (refused_arrival records ans) ++ tick_line t out ans

unfoldable pub event_lines : Event → List ℕ
event_lines nothing = []
event_lines (refused k q) = refused_line k q
event_lines (ticked records t out ans) = ticked_lines records t out ans

unfoldable pub lines_of : List Event → List ℕ
lines_of [] = []
lines_of (e ∷ es) = event_lines e ++ lines_of es

-- ---- either of the two

-- All that is printed of a tape.
unfoldable pub printed : Style → List ℕ → List ℕ
printed Lines input = lines_of (events_of input)
printed Pages input = printed_pages (events_of input)

-- What goes out with an event, and the page at hand after it; lines leave that alone.
unfoldable pub print_event : Style → Page → Event → Paged
print_event Lines p e = record { page = p; text = event_lines e }
print_event Pages p e = with_event p e

abbrev pub print_events : Style → Page → List Event → Paged
print_events style p es = in_order (print_event style) p es

-- What goes out at the tape's end.
unfoldable pub print_end : Style → Page → List ℕ
print_end Lines p = []
print_end Pages p = ending p
