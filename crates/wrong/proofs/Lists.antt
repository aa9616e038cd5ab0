-- The short lists of calls on which the wrong routers break the claim. Assumes nothing.
use Prim.Native.Nat.{ℕ}
use mathlib.Core.Bool.{cond}
use mathlib.Core.List.{List, [], ◌∷◌, ◌++◌}
use lib.ListN.{replicate}
use lib.Dec.{eqb}
use lib.IntN.{pos}
use Rattle.rules.specs.Whole.{TickCall}
use Rattle.rules.specs.Calls.{Call, control}
use Rattle.cases.specs.Shorthand.{connect, lent}

-- A packet of connection i whose header has the time v, data zero.
abbrev pub plain : ℕ → ℕ → List ℕ
plain i v = i ∷ v ∷ replicate 18 0

-- A packet of connection 0 arrives on port 0, its true time and header v; best-effort waits on the ports of b.
abbrev pub one : ℕ → ℕ → TickCall
one v b = record { arriving = 1; best_effort = b; arrivals = plain 0 v ++ replicate 80 0; times = λ p. pos v }

-- Packets of connections 0 and 1 arrive on ports 0 and 1 with the time v.
abbrev pub two : ℕ → TickCall
two v = record { arriving = 3; best_effort = 0; arrivals = plain 0 v ++ plain 1 v ++ replicate 60 0; times = λ p. pos v }

-- Nothing arrives.
abbrev pub none : TickCall
none = record { arriving = 0; best_effort = 0; arrivals = replicate 100 0; times = λ p. pos 0 }

-- Connection 0 goes out as 9 on port 0, and its packet comes on time.
unfoldable pub on_time : List Call
on_time = connect 0 9 0 1 (lent (one 0 0) ∷ [])

-- It goes by ports 0 and 1.
unfoldable pub multicast : List Call
multicast = connect 0 9 0 3 (lent (one 0 0) ∷ [])

-- It comes a tick before its time, with d = 10; then a tick that brings nothing.
unfoldable pub ahead : List Call
ahead = connect 0 9 10 1 (lent (one 1 0) ∷ lent none ∷ [])

-- It comes a tick before its time, at horizon 10, while best-effort waits for the port.
unfoldable pub beside_best_effort : List Call
beside_best_effort = connect 0 9 0 1 (control 4 1 ∷ control 5 10 ∷ lent (one 1 1) ∷ [])

-- At the clock 250 the packet has the time 260, 4 in its header.
unfoldable pub across_the_turn : List Call
across_the_turn = connect 0 9 0 1 (lent (record { arriving = 1; best_effort = 0; arrivals = plain 0 4 ++ replicate 80 0; times = λ p. pos 260 }) ∷ [])

-- At the clock 200 the packet has the time 72, 128 ticks before, and d = 40.
unfoldable pub half_a_turn_back : List Call
half_a_turn_back = connect 0 9 40 1 (lent (one 72 0) ∷ [])

-- Connections 0 and 1 go out as 0 and 1 on port 0, with d = 10 and d = 40; both packets come a tick before their time; then connection 1 gets d = 0, and a tick brings nothing.
unfoldable pub delay_changed : List Call
delay_changed = connect 0 0 10 1 (connect 1 1 40 1 (lent (two 1) ∷ connect 1 1 0 1 (lent none ∷ [])))

-- At the clock 10 two packets come on time with the deadline 20: that of connection 0 has the time 10, that of connection 1 the time 5.
unfoldable pub waited : List Call
waited = connect 0 0 10 1 (connect 1 1 15 1 (lent (record { arriving = 3; best_effort = 0; arrivals = plain 0 10 ++ plain 1 5 ++ replicate 60 0; times = λ p. cond (eqb p 0) (pos 10) (pos 5) }) ∷ []))

-- Both have one time and one deadline.
unfoldable pub alike : List Call
alike = connect 0 0 0 1 (connect 1 1 0 1 (lent (two 0) ∷ []))
