-- The control latch as a value of the code. Assumes nothing.
use Rattle.std.specs.Prelude.{ℕ, cond, List, eqb}
use Rattle.rules.specs.Board.{Latch as LatchField, board8}
use Rattle.control.specs.declared.Latch.{Latch}

-- The latch that a state holds.
abbrev pub latch_of : List ℕ → Latch
latch_of s = record { outgoing = board8.get s (LatchField, 0); delay = board8.get s (LatchField, 1); routes = board8.get s (LatchField, 2); horizons = board8.get s (LatchField, 3) }

-- A latch with the byte v in register r; the commits, 3 and 5, leave it.
abbrev pub latch_with : Latch → ℕ → ℕ → Latch
latch_with l r v =
    record {
      outgoing = cond (eqb r 0) v l.outgoing;
      delay = cond (eqb r 1) v l.delay;
      routes = cond (eqb r 2) v l.routes;
      horizons = cond (eqb r 4) v l.horizons;
    }
