-- The code's fields have one byte each. Assumes nothing.
use mathlib.Core.Path.{◌≡◌, refl}
use Rattle.rules.specs.Board.{table8}
use Rattle.layout.specs.declared.Field.{Field}
use Rattle.layout.specs.declared.Field.TheVariants.{Clock, Horizon, Latch, Idle, Time, Deadline, Mask, Outgoing, Delay, Routes}
use Rattle.layout.specs.Fields.{field_of}

pub one_byte : (f : Field) → (table8 (field_of f)).1 ≡ 1
one_byte Clock = refl
one_byte (Horizon p) = refl
one_byte (Latch r) = refl
one_byte (Idle i) = refl
one_byte (Time i) = refl
one_byte (Deadline i) = refl
one_byte (Mask i) = refl
one_byte (Outgoing i) = refl
one_byte (Delay i) = refl
one_byte (Routes i) = refl
