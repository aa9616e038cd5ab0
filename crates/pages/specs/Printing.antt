-- Pages printed as the ticks come: the text that goes out with each event, and what is left for the tape's end. Assumes nothing.
use Rattle.std.specs.Prelude.{ℕ, ◌+◌, ◌-◌, cond, List, [], ◌∷◌, ◌++◌, replicate, eqb}
use Rattle.events.specs.Tape.{Event, nothing, refused, ticked}
use Rattle.pages.specs.Pages.{Tick, page_ticks, number_line, tick_row, empty_row, withdrawn_by, total_line, next_number, ended}

-- The page at hand: its number, how many ticks stand on it, and how many packets these withdrew.
pub record Page : Type 0 where
  pub number : ℕ
  pub ticks : ℕ
  pub total : ℕ

-- A page that is not begun has no tick yet, and none of its lines is out.
abbrev pub unbegun : ℕ → Page
unbegun n = record { number = n; ticks = 0; total = 0 }

-- The page at hand after some text.
pub record Paged : Type 0 where
  pub page : Page
  pub text : List ℕ

-- A tick opens a page that is not begun.
unfoldable pub opening : Page → List ℕ
opening p = cond (eqb p.ticks 0) (ended (number_line p.number ∷ [])) []

-- A full page has its last line at once.
unfoldable pub closed : Page → Paged
closed p = cond (eqb p.ticks page_ticks) (record { page = unbegun (next_number p.number); text = ended (total_line p.total ∷ []) }) (record { page = p; text = [] })

unfoldable pub with_tick : Page → Tick → Paged
with_tick p t =
    let c = closed (record { number = p.number; ticks = p.ticks + 1; total = p.total + withdrawn_by t }) in
    record { page = c.page; text = opening p ++ ended (tick_row t ∷ []) ++ c.text }

unfoldable pub with_event : Page → Event → Paged
with_event p nothing = record { page = p; text = [] }
with_event p (refused k q) = record { page = p; text = [] }
with_event p (ticked records t out ans) = with_tick p (record { clock = t; outgoing = out; answers = ans })

-- The tape's end: the rest of a page that is begun.
unfoldable pub ending : Page → List ℕ
ending p = cond (eqb p.ticks 0) [] (ended (replicate (page_ticks - p.ticks) empty_row ++ (total_line p.total ∷ [])))

-- Events one after the other, by what goes out with one.
unfoldable pub in_order : (Page → Event → Paged) → Page → List Event → Paged
in_order step p [] = record { page = p; text = [] }
in_order step p (e ∷ es) =
    let o = step p e in
    let rest = in_order step o.page es in
    record { page = rest.page; text = o.text ++ rest.text }
