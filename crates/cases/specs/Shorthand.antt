-- Calls and replies in few words, for the table and the runs. Assumes nothing.
use Rattle.std.specs.Prelude.{ℕ, ◌+◌, ◌-◌, List, ◌∷◌, ◌++◌, replicate, get_or, ℤ, pos}
use Rattle.rules.specs.Order.{top_first}
use Rattle.rules.specs.Areas.{Reply, packed}
use Rattle.rules.specs.Whole.{TickCall}
use Rattle.rules.specs.Calls.{Call, control, tick}

-- Connection i gets its outgoing identifier, d and mask.
abbrev pub connect : ℕ → ℕ → ℕ → ℕ → List Call → List Call
connect i o d m ks = control 0 o ∷ control 1 d ∷ control 2 m ∷ control 3 i ∷ ks

-- A packet with identifier i, the byte v for its time, and data k, k + 1, ..
abbrev pub packet_with : ℕ → ℕ → ℕ → List ℕ
packet_with k i v = packed 1 i v (top_first (λ j. k + 17 - j) 18)

-- What five ports have, one after the other.
abbrev pub five : List ℕ → List ℕ → List ℕ → List ℕ → List ℕ → List ℕ
five a b c d e = a ++ b ++ c ++ d ++ e

-- A tick's masks, arrivals and their true times.
abbrev pub ticking : ℕ → ℕ → List ℕ → List ℤ → TickCall
ticking arriving waiting area u = record { arriving = arriving; best_effort = waiting; arrivals = area; times = λ p. get_or u p (pos 0) }

-- Outgoing and answers are lent full of nines.
abbrev pub nines : ℕ → List ℕ
nines n = replicate n 9

abbrev pub lent : TickCall → Call
lent k = tick k (nines 100) (nines 20)

-- The reply to an accepted tick.
abbrev pub ticked : List ℕ → List ℕ → Reply
ticked out ans = record { number = 0; outgoing = out; answers = ans }

abbrev pub empty : List ℕ
empty = replicate 100 0
