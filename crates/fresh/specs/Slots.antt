-- Empty slots in the state of document 01's board. Assumes nothing.
use Rattle.std.specs.Prelude.{ℕ, zero, suc, List}
use Rattle.std.proofs.lemmas.List.Edits.{sets}
use Rattle.rules.specs.Board.{Time, table8}
use Rattle.layout.specs.Slots.{empty}

-- The state with empty slots in the place of those below k.
unfoldable pub emptied : ℕ → List ℕ → List ℕ
emptied zero s = s
emptied (suc k) s = let s' = emptied k s in sets s' (table8 (Time, k)).0 empty.0
