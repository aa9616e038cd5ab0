-- The code's place as one of the definitions. Assumes nothing.
use Rattle.std.specs.Prelude.{ℕ, List}
use Rattle.events.specs.declared.Pending.{Pending}
use Rattle.events.specs.Values.{tape_in}
use Rattle.pages.specs.Printing.{Page}
use Rattle.tapes.specs.declared.stepping.Place as Code
use Rattle.tapes.specs.Blocks.{Place}

-- A place whose router and arrivals stand in areas, and the code's.
abbrev pub place_in : List ℕ → List ℕ → List ℕ → Pending → ℕ → Page → Place
place_in state memory arrivals w number page = record { tape = tape_in state memory arrivals w; number = number; page = page }

abbrev pub place_of : {S M : ℕ} → Code.Place S M → Place
place_of p = place_in p.tape.state p.tape.memory p.tape.arrivals p.tape.pending p.number p.page
