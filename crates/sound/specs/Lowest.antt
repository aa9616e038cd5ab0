-- The lowest bad slot as a number. Assumes nothing.
use Rattle.std.specs.Prelude.{ℕ, Option, Some, None}
use Rattle.layout.specs.declared.SlotAddress.{SlotAddress}

-- A slot's address; 256, one past the last slot, for none.
abbrev pub slot_or_256 : Option SlotAddress → ℕ
slot_or_256 None = 256
slot_or_256 (Some s) = s.0
