-- The slots of a fresh state of document 01's board are empty already. Computed. Assumes nothing.
use Prim.Native.Nat.{ℕ}
use mathlib.Core.Path.{◌≡◌, refl}
use mathlib.Core.List.{◌∷◌}
use Rattle.rules.specs.Order.{top_first}
use Rattle.rules.specs.Board.{fresh8, board8}
use Rattle.layout.proofs.FreshState.{fresh-cons}
use Rattle.fresh.specs.Slots.{emptied}

-- Store by store.
emptied-bytes : (t : ℕ) → emptied 256 (t ∷ fresh8) ≡ t ∷ fresh8
unfolding emptied fresh8 top_first
emptied-bytes t = refl

pub emptied-fresh : (t : ℕ) → emptied 256 (board8.fresh_state t) ≡ board8.fresh_state t
emptied-fresh t = rw (fresh-cons t) (emptied-bytes t)
