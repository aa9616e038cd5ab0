-- The free count and the slots that hold a packet make 256 in a sound state, and no accepted arrival makes them more. Assumes nothing.
use Prim.Native.Nat.{ℕ, zero, suc, ◌+◌, ◌-◌, ◌<◌, ◌≤◌}
use mathlib.Core.Path.{◌≡◌, refl, sym, ap, ◌∙◌}
use mathlib.Core.Bool.{Bool, true, false, cond, not}
use mathlib.Core.Logic.{◌≢◌}
use mathlib.Core.List.{List, [], ◌∷◌}
use native.Mathlib.Decide.{ℕ_discrete}
use native.Mathlib.Omega.{arith}
use lib.ListN.{length}
use lib.Dec.{eqb}
use borrow.Author.Tests.{ne_eqb}
use Rattle.rules.specs.Areas.{Store, byte, bits, stamp, elem, distinct}
use Rattle.rules.specs.Board.{Board, Idle, Time, Deadline, Mask, Delay, Routes, free}
use Rattle.rules.specs.Clock.{plus}
use Rattle.rules.specs.Order.{count, counted}
use Rattle.rules.specs.Questions.{stack, stack_sound}
use Rattle.passes.specs.Room.{occupied, used}
use Rattle.rules.specs.Tick.{placed}
use Rattle.rules.proofs.Booleans.{and_left, and_right, not-false}
use Rattle.rules.proofs.BoardLaws.{Laws, same_field}
use Rattle.rules.proofs.WholeLaws.{elem-first, elem-other}
use Rattle.rules.proofs.Soundness.{at-elem, stack-lists}
use Rattle.rules.proofs.StateLaws.{Reads, none_out, reads_self, reads-put, length-top_first}
use Rattle.rules.proofs.IndexLaws.{count_same, count-change, count_none, counted-true, counted-false}

-- ---- counts

-- A test and its opposite count every index.
count-not : (f : ℕ → Bool) (k : ℕ) → count k f + count k (λ i. not (f i)) ≡ k
unfolding count counted
count-not f zero = refl
count-not f (suc k) = let a = count-not f k in go (f k) a
  where
    go : (t : Bool) → count k f + count k (λ i. not (f i)) ≡ k → count k f + cond t 1 0 + (count k (λ i. not (f i)) + cond (not t) 1 0) ≡ suc k
    go true a = omega arith
    go false a = omega arith

-- A test that holds at one index more counts at most one more.
count-one-more : (f g : ℕ → Bool) (i k : ℕ) → ((j : ℕ) → j < k → j ≢ i → f j ≡ g j) → count k f ≤ count k g + 1
unfolding count counted
count-one-more f g i zero h = omega arith
count-one-more f g i (suc k) h = go (ℕ_discrete k i) (count-one-more f g i k (λ j l. h j (omega arith)))
  where
    one : (t : Bool) → cond t 1 0 ≤ 1
    one true = omega arith
    one false = omega arith

    go : Dec (k ≡ i) → count k f ≤ count k g + 1 → count k f + cond (f k) 1 0 ≤ count k g + cond (g k) 1 0 + 1
    go (yes e) a = let b = count_same f g k (λ j l. h j (omega arith) (omega arith)) in let d = one (f k) in omega arith
    go (no n) a = let e = ap counted (h k (omega arith) n) in omega arith

-- ---- lists of different slots

-- A list of different slots has as many entries as there are slots in it: one entry after the other.
count-elem : (l : List ℕ) → distinct l ≡ true → ((x : ℕ) → elem x l ≡ true → x < 256) → count 256 (λ i. elem i l) ≡ length l
unfolding distinct
count-elem [] d h = count_none (λ i. elem i []) 256 (λ i l. unfold elem in refl)
count-elem (x ∷ l) d h =
    let a = count-elem l (and_right (not (elem x l)) (distinct l) d) (λ y e. h y (later y e)) in
    let b = count-change (λ i. elem i (x ∷ l)) (λ i. elem i l) x 256 (h x (elem-first x l)) (λ j n. elem-other x j l n) in
    let e : counted (elem x l) ≡ 0 = ap counted (not-false (elem x l) (and_left (not (elem x l)) (distinct l) d)) ∙ counted-false in
    let f : counted (elem x (x ∷ l)) ≡ 1 = ap counted (elem-first x l) ∙ counted-true in
    omega arith
  where
    later : (y : ℕ) → elem y l ≡ true → elem y (x ∷ l) ≡ true
    later y e = go (ℕ_discrete y x)
      where
        go : Dec (y ≡ x) → elem y (x ∷ l) ≡ true
        go (yes q) = ap (λ (z : ℕ). elem z (x ∷ l)) q ∙ elem-first x l
        go (no n) = elem-other x y l n ∙ e

module _ (B : Board) (L : Laws B) where
  open B use {clock_bytes as c, state_length, get, put}

  -- In a sound state they make 256, where the stack's entries are slots.
  pub sound-used : (s : List ℕ) → stack_sound B s ≡ true → ((j : ℕ) → j < get s free → get s (Idle, j) < 256) → used B s ≡ 256
  unfolding stack
  sound-used s e small =
      let l = stack B s in
      let (d, m) = stack-lists B s e in
      let q = count_same (λ i. elem i l) (λ i. eqb (get s (Mask, i)) 0) 256 m in
      let n = count-not (λ i. eqb (get s (Mask, i)) 0) 256 in
      let k = count-elem l d (λ x h. within x (at-elem (λ i. get s (Idle, i)) x (get s free) h)) in
      let z = length-top_first (λ i. get s (Idle, i)) (get s free) in
      omega arith
    where
      within : (x : ℕ) → (j : ℕ) × (j < get s free) × (get s (Idle, j) ≡ x) → x < 256
      within x (j, h, e) = let a = small j h in omega arith

  -- An accepted packet takes one from the free count, and gives one slot a packet.
  pub placed-used : (r : Store) (k : List ℕ) → length r.state ≡ state_length → 0 < get r.state free → get r.state (Idle, get r.state free - 1) < 256 → used B (placed B r k).state ≤ used B r.state
  unfolding placed
  placed-used r k sized some hi =
      let more = count-one-more (occupied B (placed B r k).state) (occupied B s) i 256 (λ j l ne. ap (λ (m : ℕ). not (eqb m 0)) (mask-other j l ne)) in
      omega (arith, stores.reads free refl (omega arith))
    where
      s : List ℕ
      s = r.state

      n : ℕ
      n = get s free - 1

      i : ℕ
      i = get s (Idle, n)

      d : ℕ
      d = plus (bits c) (stamp c k) (get s (Delay, byte k 0))

      m : ℕ
      m = get s (Routes, byte k 0)

      -- Four stores, read back.
      stores : Reads B L none_out (placed B r k).state (λ f. cond (same_field (Mask, i) f) m (cond (same_field (Deadline, i) f) d (cond (same_field (Time, i) f) (stamp c k) (cond (same_field free f) n (get s f)))))
      stores = reads-put B L (reads-put B L (reads-put B L (reads-put B L (reads_self B L s sized) free n (omega arith)) (Time, i) (stamp c k) hi) (Deadline, i) d hi) (Mask, i) m hi

      mask-other : (j : ℕ) → j < 256 → j ≢ i → get (placed B r k).state (Mask, j) ≡ get s (Mask, j)
      mask-other j l ne = stores.reads (Mask, j) refl l ∙ rw (ne_eqb i j (λ e. ne (sym e)))
