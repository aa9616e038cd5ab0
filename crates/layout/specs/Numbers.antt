-- The number of each refusal: document 01's ("The questions, in order"), those of a state that isn't sound (document 02, [2]), and that of queues which don't belong to the state. Assumes nothing.
use Rattle.std.specs.Prelude.{ℕ, Result, Ok, Err}
use Rattle.layout.specs.declared.Refusal.{Refusal}
use Rattle.layout.specs.declared.Refusal.TheVariants.{Lengths, Settings, Stack, Packets, Masks, Register, Value, Queues}

abbrev pub number_of : Refusal → ℕ
number_of Lengths = 1
number_of Settings = 13
number_of Stack = 14
number_of Packets = 15
number_of Masks = 3
number_of Register = 4
number_of Value = 5
number_of Queues = 21

-- What a call answers in C: 0, or the number of its refusal.
abbrev pub answer_of : Result (Unit {0}) Refusal → ℕ
answer_of (Ok _) = 0
answer_of (Err refusal) = number_of refusal
