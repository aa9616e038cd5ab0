-- A test of two slots' ranks tells which of them goes before the other. Assumes nothing.
use Prim.Native.Nat.{ℕ, ◌<◌, ◌≤◌}
use mathlib.Core.Path.{◌≡◌, ◌∙◌}
use mathlib.Core.Bool.{true, false}
use mathlib.Core.List.{List}
use borrow.Author.Tests.{lt-ltb, le-ltb}
use Rattle.rules.specs.Board.{Board}
use Rattle.passes.specs.Ranks.{slot_rank}
use Rattle.queues.specs.Table1.{before}
use Rattle.queues.proofs.BeforeLaws.{before-rank}

-- Slot o has the rank a, slot i the rank b.
module _ (B : Board) (s : List ℕ) (o i : ℕ) (ho : o < 256) (hi : i < 256) (a b : ℕ) (ea : a ≡ slot_rank B s o) (eb : b ≡ slot_rank B s i) where
  -- The lower rank goes before the other.
  pub lower-before : a < b → before B s o i ≡ true
  lower-before h = before-rank B s o i ho hi ∙ rw (← ea, ← eb) (lt-ltb a b h)

  -- And no other does.
  pub higher-after : b ≤ a → before B s o i ≡ false
  higher-after h = before-rank B s o i ho hi ∙ rw (← ea, ← eb) (le-ltb a b h)
