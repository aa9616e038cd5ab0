-- A port's choice by its queues: the first that waits for the port, read from a queue's bytes; and whom the two first ones grant the port. Assumes nothing.
use Prim.Native.Nat.{ℕ, ◌<◌}
use mathlib.Core.Path.{◌≡◌, refl, sym}
use mathlib.Core.Bool.{Bool, true, false, cond}
use mathlib.Core.List.{List}
use mathlib.Core.Option.{Option, none, some}
use lib.Dec.{leb}
use lib.IntN.{pos}
use Rattle.std.specs.Prelude as Slots
use Rattle.std.specs.Bool.{then_some}
use Rattle.std.specs.Option.{MatchOption}
use Rattle.layout.specs.declared.SlotAddress.{SlotAddress}
use Rattle.table1.specs.Firsts.{slot_of}
use Rattle.rules.specs.Areas.{has, nobody, best_effort, on_time, early}
use Rattle.rules.specs.Board.{Horizon, Mask, board8}
use Rattle.rules.specs.Tick.{slot_key}
use Rattle.rules.proofs.Booleans.{some_inj, none-some}
use Rattle.queues.specs.Area.{queue}
use Rattle.queues.specs.Engine.{first, heading, table_grant, queue_grant}

-- ---- the first of a queue

-- The first o, whose slot is f, and r, which is o if it passes a test that means P.
pub first-heads : (s : List ℕ) (p : ℕ) (f : Option ℕ) (r o : Slots.Option SlotAddress) {P : SlotAddress → Bool → Type 0} → slot_of o ≡ f → MatchOption o (r ≡ Slots.None) (λ i. (b : Bool) × P i b × (r ≡ then_some b i))
    → ((i : SlotAddress) (b : Bool) → P i b → b ≡ has (board8.get s (Mask, i.0)) p) → slot_of r ≡ heading board8 s p f
unfolding heading
first-heads s p f r Slots.None h m t = rw (← h, m) refl
first-heads s p f r (Slots.Some i) h (b, k, e) t = rw (← h, e, ← t i b k) (go b)
  where
    go : (b : Bool) → slot_of (then_some b i) ≡ cond b (some i.0) none
    go true = refl
    go false = refl

-- ---- whom the first ones grant the port

-- The first of a queue that waits for port p.
abbrev pub head : List ℕ → List ℕ → ℕ → Bool → Option ℕ
head s q p e = heading board8 s p (first (queue q p e))

-- It has the port in its mask.
pub head-wins : (s : List ℕ) (p : ℕ) {i : ℕ} → i < 256 → (o : Option ℕ) → some i ≡ heading board8 s p o → (i < 256) × (has (board8.get s (Mask, i)) p ≡ true)
unfolding heading
head-wins s p h none e = none-some (sym e)
head-wins s p {i} h (some j) e = (h, go (has (board8.get s (Mask, j)) p) refl e)
  where
    go : (t : Bool) → has (board8.get s (Mask, j)) p ≡ t → some i ≡ cond t (some j) none → has (board8.get s (Mask, i)) p ≡ true
    go true et e = rw (some_inj e) et
    go false et e = none-some (sym e)

module _ (s q : List ℕ) (waiting p : ℕ) where
  -- The first on time.
  pub grants-on-time : {i : ℕ} → some i ≡ head s q p false → on_time i ≡ queue_grant board8 s q waiting p
  unfolding queue_grant table_grant
  grants-on-time e = rw (← e)

  -- Where there is none, best-effort, if it waits.
  pub grants-best-effort : none ≡ head s q p false → has waiting p ≡ true → best_effort ≡ queue_grant board8 s q waiting p
  unfolding queue_grant table_grant
  grants-best-effort e w = rw (← e, w) (go (head s q p true))
    where
      go : (o : Option ℕ) → best_effort ≡ table_grant board8 s p true none o
      go none = refl
      go (some i) = refl

  -- Neither.
  abbrev pub Neither : Type 0
  Neither = (none ≡ head s q p false) × (has waiting p ≡ false)

  -- Else the first early one, if its key k is within the horizon h.
  pub grants-early : Neither → {i k h : ℕ} {t : Bool} → some i ≡ head s q p true → pos k ≡ (slot_key board8 s i).key → h ≡ board8.get s (Horizon, p) → leb k h ≡ t → cond t (early i) nobody ≡ queue_grant board8 s q waiting p
  unfolding queue_grant table_grant
  grants-early n e ek eh l = rw (← n.0, n.1, ← e, ← ek, ← eh, l)

  -- Nobody, where there is none.
  pub grants-nobody : Neither → none ≡ head s q p true → nobody ≡ queue_grant board8 s q waiting p
  unfolding queue_grant table_grant
  grants-nobody n e = rw (← n.0, n.1, ← e)
