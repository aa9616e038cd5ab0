-- Steps 3 to 5 slot by slot, in one pass. Assumes nothing.
use Rattle.std.specs.Prelude.{ℕ, zero, suc, ◌+◌, ◌-◌, Bool, cond, ◌&&◌, List, get_or, eqb}
use Rattle.rules.specs.Order.{count, counted}
use Rattle.rules.specs.Areas.{has}
use Rattle.rules.specs.Board.{Board, Deadline, Mask}
use Rattle.rules.specs.Tick.{is_due, give_back}
use Rattle.passes.specs.Room.{occupied}

module _ (B : Board) where
  open B use {get, put}

  -- Step 3: the ports of slot i that are left once those in l have sent it.
  abbrev pub ports_left : List ℕ → List ℕ → ℕ → ℕ
  ports_left s l i = get s (Mask, i) - get_or l i 0

  -- Slot i's mask becomes m; if the slot held a packet (h) and has no port left, it goes back on the stack.
  abbrev pub settle_slot : ℕ → Bool → ℕ → List ℕ → List ℕ
  settle_slot i h m s = cond (h && eqb m 0) (give_back B i (put s (Mask, i) m)) (put s (Mask, i) m)

  -- Steps 3 to 5 for slot i of the state s at the clock reading t; the ports in the mask x have sent it.
  abbrev pub slot_after : List ℕ → ℕ → ℕ → ℕ → List ℕ
  slot_after s t i x = settle_slot i (occupied B s i) (cond (eqb (get s (Deadline, i)) t) 0 (get s (Mask, i) - x)) s

  -- Port p's count with that slot, where c has the counts before: one more where the port is left and the slot is due.
  abbrev pub slot_count : List ℕ → ℕ → ℕ → ℕ → List ℕ → ℕ → ℕ
  slot_count s t i x c p = get_or c p 0 + counted (has (get s (Mask, i) - x) p && eqb (get s (Deadline, i)) t)

  -- The mask that step 4 leaves of slot i.
  abbrev pub mask_left : List ℕ → List ℕ → ℕ → ℕ
  mask_left s l i = cond (is_due B s i) 0 (ports_left s l i)

  -- Steps 3 to 5 for the slots below i.
  unfoldable pub settled : List ℕ → List ℕ → ℕ → List ℕ
  settled s l zero = s
  settled s l (suc i) = let s' = settled s l i in settle_slot i (occupied B s i) (mask_left s l i) s'

  -- What step 4 counts on port p for the slots below i.
  abbrev pub missed : List ℕ → List ℕ → ℕ → ℕ → ℕ
  missed s l i p = count i (λ j. has (ports_left s l j) p && is_due B s j)
