-- `table1::front` meets its contract: the size and the first entry are read from the queue's part of the area. Assumes nothing.
use Prim.Native.Nat.{ℕ, suc, ◌-◌, ◌≤◌}
use mathlib.Core.List.{List}
use mathlib.Core.Option.{none, some}
use mathlib.Core.Path.{◌≡◌}
use native.Mathlib.Omega.{arith}
use Rattle.queues.specs.Area.{size, entry}
use Rattle.queues.specs.Engine.{first_of, first}
use Rattle.table1.proofs.front.Goals as goal

-- A queue x of no slots has no first.
none-first : (x : List ℕ) (n : ℕ) → n ≡ size x → (1 ≤ n → ⊥) → none ≡ first x
unfolding first_of
none-first x n en h = let z : n ≡ 0 = omega (arith, h) in rw (← en, z)

-- The first of n is entry n - 1.
some-first : (x : List ℕ) (n : ℕ) → n ≡ size x → 1 ≤ n → (i k : ℕ) → k ≡ n - 1 → i ≡ entry x k → some i ≡ first x
unfolding first_of
some-first x n en h i k ek e = let s : n ≡ suc k = omega arith in rw (← en, s, ← e)

pub returns-in_err-last : goal.returns-in_err-last
returns-in_err-last c =
    rw c.from_residual.ensures (none-first _ _ (rw c.part-queue.ensures at c.size.ensures) c.in_err-last.ensures)

pub returns : goal.returns
returns c =
    let h = c.in_ok-last.ensures in
    some-first _ _ (rw c.part-queue.ensures at c.size.ensures) h.0 _ _ h.1 (rw c.part-queue.ensures at c.entry.ensures)
