-- Slots given back one after the other: each raises the free count by one and leaves what is no part of the stack, so that a mask may be stored before or after.
-- Assumes nothing.
use Prim.Native.Nat.{ℕ, zero, suc, ◌+◌, ◌<◌, ◌≤◌}
use mathlib.Core.Path.{◌≡◌, refl, ap, ◌∙◌}
use mathlib.Core.Bool.{Bool, true, false, cond, ◌&&◌}
use mathlib.Core.List.{List}
use native.Mathlib.Omega.{arith}
use lib.ListN.{length}
use lib.Dec.{eqb}
use Rattle.rules.specs.Order.{count, counted}
use Rattle.rules.specs.Board.{Board, Free, Idle, Mask, Field, free}
use Rattle.rules.specs.Tick.{give_back}
use Rattle.rules.proofs.BoardLaws.{Laws, Valid, same_kind}
use Rattle.passes.proofs.Counting.{count-below}

-- The slots below k with the test b given back, lowest first.
module _ (B : Board) where
  unfoldable pub given_back : (ℕ → Bool) → List ℕ → ℕ → List ℕ
  given_back b s zero = s
  given_back b s (suc k) = let s' = given_back b s k in cond (b k) (give_back B k s') s'

module _ (B : Board) (L : Laws B) where
  open B use {state_length, get, put}

  -- ---- one slot

  module _ (i : ℕ) (s : List ℕ) (sized : length s ≡ state_length) where
    -- The entry stored.
    entry-sized : length (put s (Idle, get s free) i) ≡ state_length
    entry-sized = L.length-put s (Idle, get s free) i ∙ sized

    length-give_back : length (give_back B i s) ≡ state_length
    length-give_back = L.length-put (put s (Idle, get s free) i) free (get s free + 1) ∙ entry-sized

    free-give_back : get (give_back B i s) free ≡ get s free + 1
    free-give_back = L.get-put (put s (Idle, get s free) i) free (get s free + 1) free entry-sized (omega arith) (omega arith)

    -- A mask stored leaves the free count.
    free-mask : (j v : ℕ) → j < 256 → get (put s (Mask, j) v) free ≡ get s free
    free-mask j v h = L.get-put s (Mask, j) v free sized h (omega arith)

    -- So n, read once slot i is emptied, is the free count before.
    pub free-emptied : i < 256 → (s' : List ℕ) → s' ≡ put s (Mask, i) 0 → (n : ℕ) → n ≡ get s' free → n ≡ get s free
    free-emptied h s' e n q = q ∙ rw e (free-mask i 0 h)

    module _ (room : get s free < 256) where
      get-give_back : (g : Field) → Valid g → same_kind Free g.0 ≡ false → same_kind Idle g.0 ≡ false → get (give_back B i s) g ≡ get s g
      get-give_back g v f e =
          let n = get s free in
          L.get-put (put s (Idle, n) i) free (n + 1) g entry-sized (omega arith) v
          ∙ ap (λ (b : Bool). cond (b && eqb 0 g.1) (n + 1) (get (put s (Idle, n) i) g)) f
          ∙ L.get-put s (Idle, n) i g sized room v
          ∙ ap (λ (b : Bool). cond (b && eqb n g.1) i (get s g)) e

      give_back-put : (j v : ℕ) → j < 256 → give_back B i (put s (Mask, j) v) ≡ put (give_back B i s) (Mask, j) v
      give_back-put j v h =
          let n = get s free in
          rw (give_back, free-mask j v h)
          (ap (λ (x : List ℕ). put x free (n + 1)) (L.put-comm s (Mask, j) v (Idle, n) i h room refl)
          ∙ L.put-comm (put s (Idle, n) i) (Mask, j) v free (n + 1) h (omega arith) refl)

  -- ---- the slots below k, where there is room for them

  module _ (b : ℕ → Bool) (s : List ℕ) (sized : length s ≡ state_length) (room : get s free + count 256 b ≤ 256) where
    -- What holds of the state r after the slots below k.
    pub record Back (k : ℕ) (r : List ℕ) : Type 0 where
      pub long : length r ≡ state_length
      pub free_more : get r free ≡ get s free + count k b
      pub keeps : (g : Field) → Valid g → same_kind Free g.0 ≡ false → same_kind Idle g.0 ≡ false → get r g ≡ get s g

    -- There is room for the next.
    room_next : (k : ℕ) → k < 256 → b k ≡ true → (r : List ℕ) → Back k r → get r free < 256
    room_next k h e r R = let a = count-below b k 256 h e in let f = R.free_more in omega arith

    pub given_back-back : (k : ℕ) → k ≤ 256 → Back k (given_back B b s k)
    unfolding given_back count counted
    given_back-back zero h = record { long = sized; free_more = omega arith; keeps = λ g v f e. refl }
    given_back-back (suc k) h = go (b k) refl (given_back B b s k) (given_back-back k (omega arith))
      where
        go : (t : Bool) → b k ≡ t → (r : List ℕ) → Back k r → Back (suc k) (cond t (give_back B k r) r)
        go true e r R =
            let m = room_next k h e r R in record {
              long = length-give_back k r R.long;
              free_more = free-give_back k r R.long ∙ rw e (omega (arith, R.free_more));
              keeps = λ g v f i. get-give_back k r R.long m g v f i ∙ R.keeps g v f i;
            }
        go false e r R = record { long = R.long; free_more = R.free_more ∙ rw e (omega arith); keeps = R.keeps }

    -- A mask stored before is as well stored after.
    pub given_back-put : (j v : ℕ) → j < 256 → (k : ℕ) → k ≤ 256 → given_back B b (put s (Mask, j) v) k ≡ put (given_back B b s k) (Mask, j) v
    unfolding given_back
    given_back-put j v l zero h = refl
    given_back-put j v l (suc k) h =
        ap (λ (x : List ℕ). cond (b k) (give_back B k x) x) (given_back-put j v l k (omega arith)) ∙ go (b k) refl (given_back B b s k) (given_back-back k (omega arith))
      where
        go : (t : Bool) → b k ≡ t → (r : List ℕ) → Back k r → cond t (give_back B k (put r (Mask, j) v)) (put r (Mask, j) v) ≡ put (cond t (give_back B k r) r) (Mask, j) v
        go true e r R = give_back-put k r R.long (room_next k h e r R) j v l
        go false e r R = refl
