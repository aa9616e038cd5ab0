-- What a sound state's tests say of its stack and of the questions after them. Assumes nothing.
use Prim.Native.Nat.{ℕ, zero, suc, ◌<◌}
use mathlib.Core.Path.{◌≡◌, sym, ap, ◌∙◌}
use mathlib.Core.Bool.{Bool, true, ◌&&◌, true≢false}
use mathlib.Core.List.{List, ◌++◌}
use native.Mathlib.Decide.{ℕ_discrete, dec_lt}
use native.Mathlib.Omega.{arith}
use lib.Dec.{leb, eqb}
use borrow.Author.Tests.{eq-eqb, ne_eqb}
use Rattle.rules.specs.Order.{all, top_first}
use Rattle.rules.specs.Areas.{Store, elem, distinct, asked}
use Rattle.rules.specs.Board.{Board, Mask, free}
use Rattle.rules.specs.Questions.{settings_sound, stack, listed, stack_sound, slots_sound, sound, sound_questions}
use Rattle.rules.proofs.Booleans.{and_left, and_right, or_right, beq-eq}
use Rattle.rules.proofs.IndexLaws.{all-at}

-- ---- the list f (n - 1), .., f 0

module _ (f : ℕ → ℕ) where
  -- What f gives below n is on the list: it is the new one or an older one.
  pub elem_at : (a n k : ℕ) → k < n → f k ≡ a → elem a (top_first f n) ≡ true
  unfolding elem top_first
  elem_at a zero k h e = absurd (omega arith)
  elem_at a (suc n) k h e = go (λ l. elem_at a n k l e) (dec_lt k n)
    where
      go : (k < n → elem a (top_first f n) ≡ true) → Dec (k < n) → elem a (top_first f (suc n)) ≡ true
      go older (yes l) = or_right (eqb a (f n)) (elem a (top_first f n)) (older l)
      go older (no l) = let j : k ≡ n = omega arith in rw (eq-eqb a (f n) (sym e ∙ ap f j))

  -- And nothing else is.
  pub at-elem : (a n : ℕ) → elem a (top_first f n) ≡ true → (k : ℕ) × (k < n) × (f k ≡ a)
  unfolding elem top_first
  at-elem a zero e = absurd (true≢false (sym e))
  at-elem a (suc n) e = go (at-elem a n) (ℕ_discrete a (f n))
    where
      go : (elem a (top_first f n) ≡ true → (k : ℕ) × (k < n) × (f k ≡ a)) → Dec (a ≡ f n) → (k : ℕ) × (k < suc n) × (f k ≡ a)
      go older (yes q) = (n, omega arith, sym q)
      go older (no q) = let (k, l, p) = older (rw (ne_eqb a (f n) q) at e) in (k, omega arith, p)

-- ---- a sound state

module _ (B : Board) where
  open B use {get}

  -- The stack of a sound state has no address twice, and has exactly the empty slots.
  pub stack-lists : (s : List ℕ) → stack_sound B s ≡ true → (distinct (stack B s) ≡ true) × ((i : ℕ) → i < 256 → elem i (stack B s) ≡ eqb (get s (Mask, i)) 0)
  unfolding stack_sound
  stack-lists s e =
      let d = distinct (stack B s) in
      let a = all 256 (listed B s) in
      let both = and_right (leb (get s free) 256) (d && a) e in
      (and_left d a both, λ i h. beq-eq (elem i (stack B s)) (eqb (get s (Mask, i)) 0) (all-at (listed B s) 256 i (and_right d a both) h))

  -- A sound state leaves the number to the questions after its own.
  pub sound-asked : (k : ℕ) (r : Store) (qs : List (Bool × ℕ)) → sound B r ≡ true → asked (sound_questions B k r ++ qs) ≡ asked qs
  unfolding sound asked
  sound-asked k r qs e =
      let a = settings_sound B r.state in
      let b = stack_sound B r.state in
      let d = slots_sound B r in
      let others = and_right a (b && d) e in
      rw (and_left a (b && d) e, and_left b d others, and_right b d others)
