-- What the answer of a store's questions says of its fault: none, a question's number, or 15, and then there is a lowest bad slot. Assumes nothing.
use Prim.Native.Nat.{ℕ, ◌+◌, ◌*◌}
use mathlib.Core.Logic.{◌≢◌}
use mathlib.Core.Path.{◌≡◌, refl, sym, ◌∙◌}
use native.Mathlib.Omega.{arith}
use lib.ListN.{length}
use Rattle.std.specs.Prelude.{Some, None, Result, Ok, Err}
use Rattle.std.specs.Result.{result_err}
use Rattle.rules.specs.Areas.{Store, memory_length}
use Rattle.rules.specs.Board.{board8}
use Rattle.rules.specs.Questions.{lowest_bad, service_fault}
use Rattle.any_state.proofs.Entries.{store_number, lowest-bad, service-same, service-adds}
use Rattle.layout.specs.Numbers.{number_of, answer_of}
use Rattle.layout.specs.declared.Refusal.{Refusal}
use Rattle.layout.specs.declared.Refusal.TheVariants.{Lengths, Settings, Stack, Packets, Masks, Register, Value, Queues}
use Rattle.questions.proofs.Passed.{full-lengths}

-- Without a refusal the number is 0, and else the refusal's.
unrefused : (answer : Result (Unit {0}) Refusal) → None ≡ result_err answer → answer_of answer ≡ 0
unrefused (Ok _) e = refl
unrefused (Err x) e = (cc)

refused : (answer : Result (Unit {0}) Refusal) (x : Refusal) → Some x ≡ result_err answer → answer_of answer ≡ number_of x
refused (Ok _) x e = (cc)
refused (Err y) x e = (cc)

-- Bad stored packets alone have the number 15.
not-15 : (x : Refusal) → x ≢ Packets → number_of x ≢ 15
not-15 Lengths h = λ e. omega arith
not-15 Settings h = λ e. omega arith
not-15 Stack h = λ e. omega arith
not-15 Packets h = absurd (h refl)
not-15 Masks h = λ e. omega arith
not-15 Register h = λ e. omega arith
not-15 Value h = λ e. omega arith
not-15 Queues h = λ e. omega arith

module _ (r : Store) (answer : Result (Unit {0}) Refusal) (asked : answer_of answer ≡ store_number board8 r) where
  pub no-fault : None ≡ result_err answer → 0 ≡ service_fault board8 r
  no-fault e = let z : store_number board8 r ≡ 0 = sym asked ∙ unrefused answer e in sym z ∙ service-same board8 r (λ f. omega arith)

  pub question-fault : (x : Refusal) → Some x ≡ result_err answer → x ≢ Packets → number_of x ≡ service_fault board8 r
  question-fault x e h = let z : number_of x ≡ store_number board8 r = sym (refused answer x e) ∙ asked in z ∙ service-same board8 r (λ f. not-15 x h (z ∙ f))

  -- Stored packets are bad.
  module _ (x : Refusal) (e : Some x ≡ result_err answer) (is : x ≡ Packets) where
    number-15 : store_number board8 r ≡ 15
    number-15 = sym asked ∙ refused answer x e ∙ rw is

    pub lengths : (length r.state ≡ board8.state_length) × (length r.memory ≡ memory_length)
    lengths = full-lengths r (service-adds board8 r number-15).1

    pub some-slot : 256 ≢ lowest_bad board8 r
    some-slot = λ f. let l = (lowest-bad board8 r (service-adds board8 r number-15).2).slot in omega arith

    pub slot-fault : (s : ℕ) → s ≡ lowest_bad board8 r → 15 + 256 * s ≡ service_fault board8 r
    slot-fault s f = let a = (service-adds board8 r number-15).3 in omega arith
