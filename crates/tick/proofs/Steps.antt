-- The six steps of a tick: what their parts leave and answer is, put together, what `ticked` says. Assumes nothing.
use Prim.Native.Nat.{ℕ}
use mathlib.Core.Path.{◌≡◌}
use mathlib.Core.List.{List, [], ◌∷◌}
use Rattle.rules.specs.Areas.{Store, byte, packet, answers_area, ports_below, per_port, grant_code, Outcome}
use Rattle.rules.specs.Board.{board8}
use Rattle.rules.specs.Tick.{arrival, arrived, grant, grant_bytes, served, withdrawals, withdrawn, returned, advanced, ticked}

pub steps-ticked : (r r₁ : Store) (arriving waiting : ℕ) (area out ans codes met counts s : List ℕ) → r₁ ≡ arrived board8 5 arriving area r
    → met ≡ per_port (λ p. arrival board8 (arrived board8 p arriving area r).state arriving p (packet area p) ∷ [])
    → codes ≡ per_port (λ p. grant_code (grant board8 (served board8 p waiting r₁.state) waiting p) ∷ [])
    → out ≡ per_port (λ p. grant_bytes r₁.memory (grant board8 (served board8 p waiting r₁.state) waiting p))
    → counts ≡ per_port (λ p. withdrawals board8 (served board8 5 waiting r₁.state) p ∷ [])
    → s ≡ advanced board8 (returned board8 256 r₁.state (withdrawn board8 256 (served board8 5 waiting r₁.state)))
    → ans ≡ answers_area (byte codes) (byte met) (byte counts)
    → ◌≡◌ {A = Outcome Store} (record { reply = record { number = 0; outgoing = out; answers = ans }; after = record { state = s; memory = r₁.memory } }) (ticked board8 r arriving waiting area)
unfolding ticked answers_area ports_below
steps-ticked r r₁ arriving waiting area out ans codes met counts s e₁ em ec eo en es ea = rw (ea, es, en, eo, ec, em, ← e₁)
