-- Step 3 once it is known who has each port: the ports that send each slot, and the state without them. Assumes nothing.
use Rattle.std.specs.Prelude.{ℕ, zero, suc, ◌+◌, ◌^◌, ◌<◌, ◌≡◌, true, List, get_or, set, replicate}
use Rattle.rules.specs.Areas.{has, Grant, nobody, best_effort, on_time, early}
use Rattle.rules.specs.Board.{Board, Mask}
use Rattle.rules.specs.Tick.{sent}

-- Port p joins the ports that send the slot it is granted.
unfoldable pub joined : ℕ → Grant ℕ → List ℕ → List ℕ
joined p nobody l = l
joined p best_effort l = l
joined p (on_time i) l = set l i (get_or l i 0 + 2 ^ p)
joined p (early i) l = set l i (get_or l i 0 + 2 ^ p)

-- Slot by slot the ports below p that send it, where port q has g q.
unfoldable pub sends : (ℕ → Grant ℕ) → ℕ → List ℕ
sends g zero = replicate 256 0
sends g (suc p) = let l = sends g p in joined p (g p) l

module _ (B : Board) where
  -- A slot granted to port p is one, and its mask has p.
  abbrev pub Winner : List ℕ → ℕ → Grant ℕ → Type 0
  Winner s p nobody = Unit
  Winner s p best_effort = Unit
  Winner s p (on_time i) = (i < 256) × (has (B.get s (Mask, i)) p ≡ true)
  Winner s p (early i) = (i < 256) × (has (B.get s (Mask, i)) p ≡ true)

  -- Step 3 for the ports below p, where port q has g q.
  unfoldable pub sent_by : (ℕ → Grant ℕ) → ℕ → List ℕ → List ℕ
  sent_by g zero s = s
  sent_by g (suc p) s = let s' = sent_by g p s in sent B p (g p) s'
