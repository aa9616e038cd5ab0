-- Empty slots at the end of the state, which a pass may leave out. Assumes nothing.
use Rattle.std.specs.Prelude.{ℕ, ◌<◌, ◌≤◌, ◌≡◌, List}
use Rattle.rules.specs.Board.{Board, Mask}

-- The slots from e on have no port to serve.
abbrev pub EmptyFrom : Board → List ℕ → ℕ → Type 0
EmptyFrom B s e = (e ≤ 256) × ((j : ℕ) → e ≤ j → j < 256 → B.get s (Mask, j) ≡ 0)
