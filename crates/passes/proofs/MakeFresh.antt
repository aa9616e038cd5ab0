-- The outcome of making a fresh router, for any board: question 1 is the only one. Assumes nothing.
use Prim.Native.Nat.{ℕ}
use mathlib.Core.Path.{◌≡◌}
use mathlib.Core.Bool.{true, false}
use mathlib.Core.List.{List}
use lib.ListN.{length, replicate}
use Rattle.rules.specs.Areas.{Store, number_reply, memory_length, Outcome}
use Rattle.rules.specs.Board.{Board}
use Rattle.rules.specs.Questions.{full, fresh, make_fresh}
use Rattle.passes.specs.Stores.{store}

module _ (B : Board) (r : Store) (t : ℕ) where
  open B use {fresh_state}

  -- Refused: nothing changes.
  pub refused : full B r ≡ false → ◌≡◌ {A = Outcome Store} (record { reply = number_reply 1; after = r }) (make_fresh B r t)
  unfolding make_fresh
  refused h = rw h

  -- Accepted: the fresh state, and zero in every byte of the memory.
  pub accepted : {s m : List ℕ} → full B r ≡ true → length r.memory ≡ memory_length → s ≡ fresh_state t → m ≡ replicate (length r.memory) 0 → ◌≡◌ {A = Outcome Store} (record { reply = number_reply 0; after = store s m }) (make_fresh B r t)
  unfolding make_fresh fresh
  accepted h l es em = rw (h, es, em, l)
