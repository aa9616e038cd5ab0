-- The number of each fault, as document 02, [2], gives it: that of the question, and 15 with 256 times the slot added. Assumes nothing.
use Rattle.std.specs.Prelude.{ℕ, ◌+◌, ◌*◌, Option, Some, None}
use Rattle.layout.specs.Numbers.{number_of}
use Rattle.service.specs.declared.Fault.{Fault}
use Rattle.service.specs.declared.Fault.TheVariants.{Question, Packet}

abbrev pub fault_number : Fault → ℕ
fault_number (Question refusal) = number_of refusal
fault_number (Packet slot) = 15 + 256 * slot.0

-- What the entry answers in C: 0 for a sound state.
abbrev pub fault_answer : Option Fault → ℕ
fault_answer None = 0
fault_answer (Some fault) = fault_number fault
