-- Empty slots, as a value of the code. Assumes nothing.
use Rattle.std.specs.Prelude.{replicate}
use Rattle.layout.specs.declared.Slot.{Slot}

-- A slot with every byte zero.
abbrev pub empty : Slot
empty = record { 0 = replicate 3 0 }
