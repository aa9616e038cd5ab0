-- The register that a number names: a number of 0 to 5 names one, and what it names has that number. Assumes nothing.
use Prim.Native.Nat.{ℕ, ◌≤◌}
use mathlib.Core.Bool.{true}
use mathlib.Core.Path.{◌≡◌, refl}
use native.Mathlib.Omega.{arith}
use lib.Dec.{leb}
use Rattle.std.specs.Prelude.{Result, Ok, Err, IsOk}
use Rattle.std.proofs.lemmas.Result.{MatchResult-at_ok}
use Rattle.layout.specs.declared.Refusal.{Refusal}
use Rattle.control.specs.declared.Register.{Register}
use Rattle.control.specs.declared.Register.TheVariants.{Outgoing, Delay, Routes, Connection, Ports, Horizon}
use Rattle.control.specs.Registers.{register_number, Names}

pub named : (n : ℕ) (r : Result Register Refusal) → Names n r → n ≤ 5 → IsOk r
named n (Ok register) names known = refl
named n (Err refusal) names known = absurd (omega (arith, names.1))

pub number-named : (n : ℕ) (r : Result Register Refusal) (register : Register) → Names n r → r ≡ Ok register → register_number register ≡ n
number-named n r register names is = MatchResult-at_ok (λ register. register_number register ≡ n) _ register is names

pub number-known : (register : Register) → leb (register_number register) 5 ≡ true
number-known Outgoing = refl
number-known Delay = refl
number-known Routes = refl
number-known Connection = refl
number-known Ports = refl
number-known Horizon = refl
