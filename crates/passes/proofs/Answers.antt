-- What questions come to by the number of those before them. Assumes nothing.
use Prim.Native.Nat.{ℕ}
use mathlib.Core.Path.{◌≡◌}
use mathlib.Core.Bool.{Bool, true}
use mathlib.Core.List.{List, ◌++◌}
use mathlib.Core.Logic.{◌≢◌}
use borrow.Author.Tests.{eq-eqb, ne_eqb}
use Rattle.rules.specs.Areas.{asked}
use Rattle.rules.proofs.Booleans.{numbered, asked-append}

-- The code has the number n of the first ones, ps.
module _ (ps qs : List (Bool × ℕ)) (h : numbered ps ≡ true) {n : ℕ} (e : n ≡ asked ps) where
  -- The first ones have a no: the number stands.
  pub refused-before : n ≢ 0 → n ≡ asked (ps ++ qs)
  refused-before q = rw (asked-append ps qs h, ← e, ne_eqb n 0 q)

  -- They are passed: the others decide.
  pub passed-before : n ≡ 0 → {m : ℕ} → m ≡ asked qs → m ≡ asked (ps ++ qs)
  passed-before z q = rw (asked-append ps qs h, ← e, eq-eqb n 0 z) q
