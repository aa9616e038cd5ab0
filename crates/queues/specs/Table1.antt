-- What the queues of document 001, Table 1, hold (document 02, [1]): for each port the slots that are on time, and those that are early, in the comparator's order.
-- Said from the state alone. Assumes nothing.
use Rattle.std.specs.Prelude.{ℕ, ◌≡◌, Bool, true, ◌&&◌, List, [], ◌∷◌, ltb}
use Rattle.std.specs.Bool.{beq}
use Rattle.rules.specs.Order.{Order, by, then, comparator}
use Rattle.rules.specs.Areas.{has, elem}
use Rattle.rules.specs.Board.{Board, Mask}
use Rattle.rules.specs.Tick.{is_early, slot_key}

-- Each goes before all that come after it.
unfoldable pub Ordered : Order ℕ → List ℕ → Type 0
Ordered less [] = Unit {0}
Ordered less (x ∷ l) = ((y : ℕ) → elem y l ≡ true → less x y ≡ true) × Ordered less l

-- The list has exactly the slots that pass the test, in that order.
pub record Lists (less : Order ℕ) (test : ℕ → Bool) (l : List ℕ) : Type 0 where
  pub slots : (i : ℕ) → elem i l ≡ test i
  pub ordered : Ordered less l

module _ (B : Board) where
  open B use {get}

  -- Of two slots, the one that the comparator puts first; where both keys are equal, the lower.
  unfoldable pub before : List ℕ → Order ℕ
  before s = then (by (slot_key B s) comparator) ltb

  -- Slot i waits for port p, and is of the sort e, early or on time.
  unfoldable pub waits : List ℕ → ℕ → Bool → ℕ → Bool
  waits s p e i = ltb i 256 && (has (get s (Mask, i)) p && beq (is_early B s i) e)

  -- The list is what the queue of port p and the sort e should hold.
  abbrev pub Holds : List ℕ → ℕ → Bool → List ℕ → Type 0
  Holds s p e = Lists (before s) (waits s p e)
