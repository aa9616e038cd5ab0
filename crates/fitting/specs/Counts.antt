-- Five counts in one number, twelve bits each. Assumes nothing.
use Rattle.std.specs.Prelude.{ℕ, zero, suc, ◌+◌, ◌*◌, List, [], ◌∷◌}
use Rattle.rules.specs.Order.{count, counted}
use Rattle.rules.specs.Areas.{has}
use Rattle.rules.specs.Board.{Mask, board8}

-- Port p's count is f p.
unfoldable pub packed_counts : (ℕ → ℕ) → ℕ
packed_counts f = f 0 + 4096 * (f 1 + 4096 * (f 2 + 4096 * (f 3 + 4096 * f 4)))

-- One for each port of the mask.
unfoldable pub spread : ℕ → ℕ
spread mask = packed_counts (λ p. counted (has mask p))

-- Those of n masks from i on.
unfoldable pub spreads : ℕ → ℕ → List ℕ
spreads zero i = []
spreads (suc n) i = spread i ∷ spreads n (suc i)

-- How many of the slots below n wait for port p.
abbrev pub wait_for : List ℕ → ℕ → ℕ → ℕ
wait_for s n p = count n (λ i. has (board8.get s (Mask, i)) p)
