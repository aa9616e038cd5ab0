-- The number of each control register, as document 01 gives it ("Control writes"). Assumes nothing.
use Rattle.std.specs.Prelude.{◌≡◌, ℕ, ◌<◌, Result, MatchResult}
use Rattle.layout.specs.declared.Refusal.{Refusal}
use Rattle.layout.specs.declared.Refusal.TheVariants as Refusals
use Rattle.control.specs.declared.Register.{Register}
use Rattle.control.specs.declared.Register.TheVariants.{Outgoing, Delay, Routes, Connection, Ports, Horizon}

abbrev pub register_number : Register → ℕ
register_number Outgoing = 0
register_number Delay = 1
register_number Routes = 2
register_number Connection = 3
register_number Ports = 4
register_number Horizon = 5

-- The result is the register with this number, or the refusal of a byte that names none.
abbrev pub Names : ℕ → Result Register Refusal → Type 0
Names n r = MatchResult r (λ register. register_number register ≡ n) (λ refusal. (refusal ≡ Refusals.Register) × (5 < n))
