-- Whom the code's grants name. Assumes nothing.
use Rattle.std.specs.Prelude.{ℕ, ◌<◌, ◌≡◌, List, length, get_or}
use Rattle.rules.specs.Areas as Areas
use Rattle.choose.specs.declared.Grant.{Grant}
use Rattle.choose.specs.declared.Grant.TheVariants.{Nobody, BestEffort, OnTime, Early}

-- The definitions' grant.
abbrev pub grant_of : Grant → Areas.Grant ℕ
grant_of Nobody = Areas.nobody
grant_of BestEffort = Areas.best_effort
grant_of (OnTime s) = Areas.on_time s.0
grant_of (Early s) = Areas.early s.0

-- Port p's of five.
abbrev pub grant_at : List Grant → ℕ → Areas.Grant ℕ
grant_at l p = grant_of (get_or l p Nobody)

-- Five grants, those of the ports below n as g has them.
pub record Granted (g : ℕ → Areas.Grant ℕ) (n : ℕ) (l : List Grant) : Type 0 where
  pub five : length l ≡ 5
  pub each : (p : ℕ) → p < n → grant_at l p ≡ g p
