-- A state with other masks: what it reads, and that its masks may be stored again, one by one. Assumes nothing.
use Prim.Native.Nat.{ℕ, zero, suc, ◌<◌, ◌≤◌}
use mathlib.Core.Path.{◌≡◌, refl, ap, ap₂, ◌∙◌}
use mathlib.Core.Bool.{Bool, false, cond, ◌&&◌}
use mathlib.Core.List.{List}
use mathlib.Core.Logic.{◌≢◌}
use native.Mathlib.Decide.{ℕ_discrete}
use native.Mathlib.Omega.{arith}
use lib.ListN.{length}
use lib.Dec.{eqb}
use borrow.Author.Tests.{eq-eqb, ne_eqb}
use Rattle.rules.specs.Board.{Board, Mask, Field}
use Rattle.rules.proofs.BoardLaws.{Laws, Valid, same_kind}

module _ (B : Board) (L : Laws B) where
  open B use {state_length, get, put}

  -- The masks of the slots below k stored, as f says.
  unfoldable pub masked : (ℕ → ℕ) → List ℕ → ℕ → List ℕ
  masked f s zero = s
  masked f s (suc k) = let s' = masked f s k in put s' (Mask, k) (f k)

  -- ---- what it reads

  module _ (f : ℕ → ℕ) (s : List ℕ) (sized : length s ≡ state_length) where
    pub length-masked : (k : ℕ) → length (masked f s k) ≡ state_length
    unfolding masked
    length-masked zero = sized
    length-masked (suc k) = L.length-put (masked f s k) (Mask, k) (f k) ∙ length-masked k

    -- A field that is no mask is as before.
    pub get-masked : (g : Field) → Valid g → same_kind Mask g.0 ≡ false → (k : ℕ) → k ≤ 256 → get (masked f s k) g ≡ get s g
    unfolding masked
    get-masked g v n zero h = refl
    get-masked g v n (suc k) h =
        L.get-put (masked f s k) (Mask, k) (f k) g (length-masked k) h v
        ∙ ap (λ (b : Bool). cond (b && eqb k g.1) (f k) (get (masked f s k) g)) n
        ∙ get-masked g v n k (omega arith)

    -- So is the mask of a slot from k on.
    pub mask-above : (i : ℕ) → i < 256 → (k : ℕ) → k ≤ i → get (masked f s k) (Mask, i) ≡ get s (Mask, i)
    unfolding masked
    mask-above i v zero h = refl
    mask-above i v (suc k) h =
        L.get-put (masked f s k) (Mask, k) (f k) (Mask, i) (length-masked k) (omega arith) v
        ∙ ap (λ (b : Bool). cond b (f k) (get (masked f s k) (Mask, i))) (ne_eqb k i (λ e. omega arith))
        ∙ mask-above i v k (omega arith)

    -- A mask stored is read.
    pub mask-masked : (i k : ℕ) → i < k → k ≤ 256 → get (masked f s k) (Mask, i) ≡ f i
    unfolding masked
    mask-masked i zero l h = absurd (omega arith)
    mask-masked i (suc k) l h =
        L.get-put (masked f s k) (Mask, k) (f k) (Mask, i) (length-masked k) h (omega arith)
        ∙ go (λ m. mask-masked i k m (omega arith)) (ℕ_discrete k i)
      where
        go : (i < k → get (masked f s k) (Mask, i) ≡ f i) → Dec (k ≡ i) → cond (eqb k i) (f k) (get (masked f s k) (Mask, i)) ≡ f i
        go below (yes e) = rw (eq-eqb k i e) (ap f e)
        go below (no n) = rw (ne_eqb k i n) (below (omega arith))

  -- ---- masks stored again

  -- Equal masks make equal states.
  pub masked_same : (f g : ℕ → ℕ) (s : List ℕ) (k : ℕ) → ((j : ℕ) → j < k → f j ≡ g j) → masked f s k ≡ masked g s k
  unfolding masked
  masked_same f g s zero h = refl
  masked_same f g s (suc k) h = ap₂ (λ (x : List ℕ) (v : ℕ). put x (Mask, k) v) (masked_same f g s k (λ j l. h j (omega arith))) (h k (omega arith))

  -- A state has its own masks.
  pub masked-own : (s : List ℕ) (k : ℕ) → k ≤ 256 → masked (λ j. get s (Mask, j)) s k ≡ s
  unfolding masked
  masked-own s zero h = refl
  masked-own s (suc k) h = ap (λ (x : List ℕ). put x (Mask, k) (get s (Mask, k))) (masked-own s k (omega arith)) ∙ L.put-own s (Mask, k) h refl

  -- One of them stored again: it comes last, or commutes with the last.
  pub masked-put : (f g : ℕ → ℕ) (s : List ℕ) (i : ℕ) → ((j : ℕ) → j ≢ i → f j ≡ g j) → (k : ℕ) → i < k → k ≤ 256 → put (masked f s k) (Mask, i) (g i) ≡ masked g s k
  unfolding masked
  masked-put f g s i h zero l m = absurd (omega arith)
  masked-put f g s i h (suc k) l m = go (λ n. masked-put f g s i h k n (omega arith)) (ℕ_discrete k i)
    where
      go : (i < k → put (masked f s k) (Mask, i) (g i) ≡ masked g s k) → Dec (k ≡ i) → put (put (masked f s k) (Mask, k) (f k)) (Mask, i) (g i) ≡ put (masked g s k) (Mask, k) (g k)
      go below (yes e) =
          rw (← e) (L.put-put (masked f s k) (Mask, k) (f k) (g k) ∙ ap (λ (x : List ℕ). put x (Mask, k) (g k)) (masked_same f g s k (λ j n. h j (λ q. omega arith))))
      go below (no n) =
          L.put-comm (masked f s k) (Mask, k) (f k) (Mask, i) (g i) m (omega arith) (ne_eqb k i n)
          ∙ ap₂ (λ (x : List ℕ) (v : ℕ). put x (Mask, k) v) (below (omega arith)) (h k n)
