-- What the code keeps of the page at hand, and what its functions promise of it. Assumes nothing.
use Rattle.std.specs.Prelude.{ℕ, ◌*◌, ◌≤◌, ◌<◌, ◌≡◌, List, ◌++◌, Option, Some, None, Result, Ok, Err}
use Rattle.layout.specs.declared.ClockReading.{ClockReading}
use Rattle.events.specs.Tape.{Event, nothing, refused, ticked}
use Rattle.text.specs.Put.{Put}
use Rattle.pages.specs.Printing.{Page, Paged}

-- A page that is not full; each of its ticks withdrew what ten bytes can say.
abbrev pub Unfilled : Page → Type 0
Unfilled p = (p.number < 10000) × (p.ticks < 62) × (p.total ≤ 327675 * p.ticks)

-- The page at hand and what was appended to the text are those of o.
pub record PutPaged (o : Paged) (p : Page) (before after : List ℕ) : Type 0 where
  pub page : p ≡ o.page
  pub text : after ≡ before ++ o.text

-- The same in a lent area from `at` on, where r is the place after the text.
pub record PutPagedAt (o : Paged) (p : Page) (at : ℕ) (before after : List ℕ) (r : ℕ) : Type 0 where
  pub page : p ≡ o.page
  pub text : Put o.text at before after r

-- The event of record k, whose refusal may be any byte, with the outgoing and answer bytes of its reply.
abbrev pub byte_event_of : ℕ → List ℕ → Result (Option ClockReading) ℕ → List ℕ → List ℕ → Event
byte_event_of k records (Ok None) out ans = nothing
byte_event_of k records (Ok (Some clock)) out ans = ticked records clock.0 out ans
byte_event_of k records (Err number) out ans = refused k number
