-- Document 01's number of what an arrival meets ("Answers", and questions 6 to 8). Assumes nothing.
use Rattle.std.specs.Prelude.{ℕ, Option, Some, None, Result, Ok, Err}
use Rattle.arrive.specs.declared.Refused.{Refused}
use Rattle.arrive.specs.declared.Refused.TheVariants.{Closed, Late, Full}

-- The question that refuses it,
abbrev pub number_of : Refused → ℕ
number_of Closed = 6
number_of Late = 7
number_of Full = 8

-- 0 if none does,
abbrev pub refusal_of : Result (Unit {0}) Refused → ℕ
refusal_of (Ok _) = 0
refusal_of (Err refused) = number_of refused

-- and what is answered: 0 none, 1 stored, else the question that refuses it.
abbrev pub number : Option (Result (Unit {0}) Refused) → ℕ
number None = 0
number (Some (Ok _)) = 1
number (Some (Err refused)) = number_of refused
