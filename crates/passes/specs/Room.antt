-- Room on the stack for what a state holds, and what a tick is lent once its questions are passed. Assumes nothing.
use Rattle.std.specs.Prelude.{ℕ, ◌+◌, ◌≤◌, ◌≡◌, Bool, not, List, length, eqb}
use Rattle.rules.specs.Order.{count}
use Rattle.rules.specs.Areas.{memory_length, arrivals_length, outgoing_length, answers_length}
use Rattle.rules.specs.Board.{Board, Mask, free}

module _ (B : Board) where
  open B use {state_length, get}

  -- Slot i holds a packet.
  abbrev pub occupied : List ℕ → ℕ → Bool
  occupied s i = not (eqb (get s (Mask, i)) 0)

  -- The free count and the packets stored.
  abbrev pub used : List ℕ → ℕ
  used s = get s free + count 256 (occupied s)

  -- There is room on the stack for every slot that holds a packet.
  abbrev pub Room : List ℕ → Type 0
  Room s = used s ≤ 256

  -- Whole areas, and a state with room.
  abbrev pub Lent : List ℕ → List ℕ → List ℕ → List ℕ → List ℕ → Type 0
  Lent s m arrivals out ans = (length s ≡ state_length) × (length m ≡ memory_length) × (length arrivals ≡ arrivals_length) × (length out ≡ outgoing_length) × (length ans ≡ answers_length) × Room s
