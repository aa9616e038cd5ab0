-- What the code is lent as the rules have it. Assumes nothing.
use Rattle.std.specs.Prelude.{ℕ, List}
use Rattle.rules.specs.Areas.{Store}

-- The state and the packet memory, as one store.
abbrev pub store : List ℕ → List ℕ → Store
store s m = record { state = s; memory = m }
