-- A prefix of the idle-address stack, and the marks of a pass over it. Assumes nothing.
use Rattle.std.specs.Prelude.{ℕ, ◌<◌, ◌≡◌, Bool, false, List, length, get_or}
use Rattle.rules.specs.Order.{top_first}
use Rattle.rules.specs.Areas.{elem, distinct}
use Rattle.rules.specs.Board.{Board, Idle}

-- The first n entries of the stack, top first; `stack` is those of the free count.
abbrev pub entries : Board → List ℕ → ℕ → List ℕ
entries B s n = top_first (λ i. B.get s (Idle, i)) n

-- The marks are of the slots among the first n entries, each of these is a slot, and d says whether they are different.
pub record Marked (B : Board) (s : List ℕ) (n : ℕ) (seen : List Bool) (d : Bool) : Type 0 where
  pub sized : length seen ≡ 256
  pub marks : (a : ℕ) → a < 256 → get_or seen a false ≡ elem a (entries B s n)
  pub slots : (j : ℕ) → j < n → B.get s (Idle, j) < 256
  pub different : d ≡ distinct (entries B s n)
