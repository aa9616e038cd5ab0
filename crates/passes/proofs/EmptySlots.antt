-- Empty slots at the end of the state: what none of them changes is the same at the first as past the last. Assumes nothing.
use Prim.Native.Nat.{ℕ, zero, suc, ◌+◌, ◌-◌, ◌<◌, ◌≤◌}
use mathlib.Core.Path.{◌≡◌, ap, ◌∙◌}
use mathlib.Core.List.{List}
use native.Mathlib.Decide.{dec_lt}
use native.Mathlib.Omega.{arith}
use Rattle.rules.specs.Board.{Board, Mask}
use Rattle.passes.specs.Empty.{EmptyFrom}

module _ (B : Board) (s : List ℕ) where
  -- One more empty slot, from below.
  pub empty-less : (e : ℕ) → 0 < e → EmptyFrom B s e → B.get s (Mask, e - 1) ≡ 0 → EmptyFrom B s (e - 1)
  empty-less e l (h, z) q = (omega arith, λ j a b. go j b (dec_lt j e) a)
    where
      go : (j : ℕ) → j < 256 → Dec (j < e) → e - 1 ≤ j → B.get s (Mask, j) ≡ 0
      go j b (yes m) a = let k : j ≡ e - 1 = omega arith in rw k q
      go j b (no m) a = z j (omega arith) b

  -- By induction on how many there are.
  pub to_end : {A : Type 0} (f : ℕ → A) → ((i : ℕ) → i < 256 → B.get s (Mask, i) ≡ 0 → f i ≡ f (suc i)) → (e : ℕ) → EmptyFrom B s e → f e ≡ f 256
  to_end {A} f keep e (h, z) =
      let k : e + (256 - e) ≡ 256 = omega arith in
      go (256 - e) (omega arith) ∙ ap f k
    where
      go : (d : ℕ) → e + d ≤ 256 → f e ≡ f (e + d)
      go zero l = ap f (omega arith)
      go (suc d) l = go d (omega arith) ∙ keep (e + d) (omega arith) (z (e + d) (omega arith) (omega arith)) ∙ ap f (omega arith)
