-- What a call's number says: whether it is accepted, and what it promises then. Assumes nothing.
use mathlib.Core.Path.{◌≡◌, refl}
use Rattle.std.proofs.Common.{Result, Ok, Err}
use Rattle.std.specs.Result.{OnOk}
use Rattle.layout.specs.Numbers.{number_of, answer_of}
use Rattle.layout.specs.declared.Refusal.{Refusal}
use Rattle.layout.specs.declared.Refusal.TheVariants.{Lengths, Settings, Stack, Packets, Masks, Register, Value, Queues}
use native.Mathlib.Omega.{arith}

pub on_accepted : {P : Type 0} (answer : Result (Unit {0}) Refusal) → (answer_of answer ≡ 0 → P) → OnOk answer P
on_accepted (Ok _) h = h refl
on_accepted (Err _) h = tt

pub on_ok-map : {T E P Q : Type 0} (answer : Result T E) → (P → Q) → OnOk answer P → OnOk answer Q
on_ok-map (Ok _) f h = f h
on_ok-map (Err _) f h = tt

-- A refusal's number is not that of an accepted call.
pub number-some : (refusal : Refusal) → number_of refusal ≡ 0 → ⊥
number-some Lengths e = omega arith
number-some Settings e = omega arith
number-some Stack e = omega arith
number-some Packets e = omega arith
number-some Masks e = omega arith
number-some Register e = omega arith
number-some Value e = omega arith
number-some Queues e = omega arith
