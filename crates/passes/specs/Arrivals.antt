-- What an arrival meets, as step 1 asks it port by port. Assumes nothing.
use Rattle.std.specs.Prelude.{ℕ, Bool, List, pos, neg_ℤ}
use Rattle.std.specs.Int.Signed.{le_z}
use Rattle.rules.specs.Clock.{offset}
use Rattle.rules.specs.Areas.{Store, byte, bits, packet, stamp}
use Rattle.rules.specs.Board.{Board, Delay, clock}
use Rattle.rules.specs.Tick.{arrival, arrived}

module _ (B : Board) where
  open B use {clock_bytes as c, get}

  -- Question 7 of the packet k: its offset is at least - d.
  abbrev pub in_time : List ℕ → List ℕ → Bool
  in_time s k = le_z (neg_ℤ (pos (get s (Delay, byte k 0)))) (offset (bits c) (stamp c k) (get s clock))

  -- What the arrival on port p meets, after those on the ports below p.
  abbrev pub met : Store → ℕ → List ℕ → ℕ → ℕ
  met r arriving area p = arrival B (arrived B p arriving area r).state arriving p (packet area p)
