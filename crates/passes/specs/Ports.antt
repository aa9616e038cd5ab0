-- Five numbers, port by port, and the change of those that a mask has. Assumes nothing.
use Rattle.std.specs.Prelude.{ℕ, ◌<◌, ◌≡◌, cond, List, length, get_or}
use Rattle.rules.specs.Areas.{has}

-- The number of port p is f p.
pub record EachPort (f : ℕ → ℕ) (l : List ℕ) : Type 0 where
  pub five : length l ≡ 5
  pub each : (p : ℕ) → p < 5 → get_or l p 0 ≡ f p

-- Port p's number, once h changes the numbers l of the ports in the mask m.
abbrev pub changed : (ℕ → ℕ) → ℕ → List ℕ → ℕ → ℕ
changed h m l p = cond (has m p) (h (get_or l p 0)) (get_or l p 0)
