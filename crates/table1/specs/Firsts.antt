-- The slot that a value of the code names, if any. Assumes nothing.
use Rattle.std.specs.Prelude.{ℕ, Option, Some, None}
use Rattle.std.proofs.Math.Option as Math
use Rattle.layout.specs.declared.SlotAddress.{SlotAddress}

abbrev pub slot_of : Option SlotAddress → Math.Option ℕ
slot_of (Some s) = Math.some s.0
slot_of None = Math.none
