-- Whether the first of a queue fits: there is none, or it waits. Assumes nothing.
use Prim.Native.Nat.{ℕ}
use mathlib.Core.Path.{◌≡◌}
use mathlib.Core.Bool.{Bool}
use mathlib.Core.List.{List}
use mathlib.Core.Option as Math
use Rattle.std.specs.Prelude.{IsTrue, Option, Some, None}
use Rattle.std.specs.Option.{MatchOption}
use Rattle.layout.specs.declared.SlotAddress.{SlotAddress}
use Rattle.rules.specs.Board.{board8}
use Rattle.queues.specs.Table1.{waits}
use Rattle.queues.specs.Engine.{is_first_fitting}
use Rattle.table1.specs.Firsts.{slot_of}

-- The first o, whose slot is f; r is what a test that means P says of it.
pub first-fits : (s : List ℕ) (p : ℕ) (e : Bool) (f : Math.Option ℕ) (r : Bool) (o : Option SlotAddress) {P : SlotAddress → Type 0} → slot_of o ≡ f → MatchOption o (IsTrue r) P
    → ((i : SlotAddress) → P i → r ≡ waits board8 s p e i.0) → r ≡ is_first_fitting board8 s p e f
unfolding is_first_fitting
first-fits s p e f r None h m t = rw (← h) m
first-fits s p e f r (Some i) h m t = rw (← h) (t i m)
