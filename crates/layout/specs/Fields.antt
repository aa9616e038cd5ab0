-- The field that a value of the code names. Assumes nothing.
use Rattle.rules.specs.Board as Board
use Rattle.layout.specs.declared.Field.{Field}
use Rattle.layout.specs.declared.Field.TheVariants.{Clock, Horizon, Latch, Idle, Time, Deadline, Mask, Outgoing, Delay, Routes}

abbrev pub field_of : Field → Board.Field
field_of Clock = Board.clock
field_of (Horizon p) = (Board.Horizon, p)
field_of (Latch r) = (Board.Latch, r)
field_of (Idle i) = (Board.Idle, i)
field_of (Time i) = (Board.Time, i.0)
field_of (Deadline i) = (Board.Deadline, i.0)
field_of (Mask i) = (Board.Mask, i.0)
field_of (Outgoing i) = (Board.Outgoing, i.0)
field_of (Delay i) = (Board.Delay, i.0)
field_of (Routes i) = (Board.Routes, i.0)
