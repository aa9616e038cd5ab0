-- A list that has exactly the slots that pass a test, in a strict order: how it changes as slots come in, leave and move over, and that there is one. By one slot after the other. Assumes nothing.
use Prim.Native.Nat.{ℕ, suc, ◌<◌, ◌≤◌}
use mathlib.Core.Path.{◌≡◌, refl, sym, ap, ap₂, ◌∙◌}
use mathlib.Core.Bool.{Bool, true, false, cond, not, ◌&&◌, ◌||◌, true≢false, and-true, and-false, or-false, or-true, or_assoc, or_comm}
use mathlib.Core.Logic.{◌≢◌, ◌⊎◌, inl, inr}
use mathlib.Core.List.{List, [], ◌∷◌}
use native.Mathlib.Decide.{ℕ_discrete}
use native.Mathlib.Omega.{arith}
use lib.ListN.{length}
use lib.Dec.{eqb}
use borrow.Author.Tests.{eq-eqb, ne_eqb}
use Rattle.rules.specs.Order.{Order, count, counted}
use Rattle.rules.specs.Areas.{elem}
use Rattle.rules.proofs.Booleans.{and_left, or_right}
use Rattle.rules.proofs.OrderLaws.{Strict, fails}
use Rattle.rules.proofs.IndexLaws.{count_none, count-change, counted-true, counted-false}
use Rattle.rules.proofs.WholeLaws.{elem-first, elem-other}
use Rattle.queues.specs.Table1.{Ordered, Lists}

-- Of two different slots one goes before the other.
abbrev pub Total : Order ℕ → Type 0
Total less = (i j : ℕ) → i ≢ j → less i j ≡ false → less j i ≡ true

-- Of the slots that pass, what passes f stands in front.
abbrev pub Front : Order ℕ → (ℕ → Bool) → (ℕ → Bool) → Type 0
Front less test f = (i j : ℕ) → test i ≡ true → test j ≡ true → less i j ≡ true → f j ≡ true → f i ≡ true

-- ---- what is done with a list

-- Slot i comes in, after all that go before it.
unfoldable pub place : Order ℕ → ℕ → List ℕ → List ℕ
place less i [] = i ∷ []
place less i (y ∷ l) = cond (less y i) (y ∷ place less i l) (i ∷ y ∷ l)

-- The first ones that pass the test leave.
unfoldable pub dropped : (ℕ → Bool) → List ℕ → List ℕ
dropped f [] = []
dropped f (i ∷ l) = cond (f i) (dropped f l) (i ∷ l)

-- It is no longer than the list.
pub length-dropped : (f : ℕ → Bool) (l : List ℕ) → length (dropped f l) ≤ length l
unfolding dropped
length-dropped f [] = omega arith
length-dropped f (i ∷ l) = let h = length-dropped f l in go (f i) h
  where
    go : (t : Bool) → length (dropped f l) ≤ length l → length (cond t (dropped f l) (i ∷ l)) ≤ suc (length l)
    go true h = omega arith
    go false h = omega arith

-- The first ones of a list that pass the test come into another, one after the other.
unfoldable pub moved : Order ℕ → (ℕ → Bool) → List ℕ → List ℕ → List ℕ
moved less f [] l = l
moved less f (i ∷ k) l = cond (f i) (moved less f k (place less i l)) l

-- ---- the slots of a list

-- A slot of a list is the first or one of the others.
elem-cases : (j i : ℕ) (l : List ℕ) → elem j (i ∷ l) ≡ true → (j ≡ i) ⊎ (elem j l ≡ true)
elem-cases j i l e = go (ℕ_discrete j i)
  where
    go : Dec (j ≡ i) → (j ≡ i) ⊎ (elem j l ≡ true)
    go (yes q) = inl q
    go (no n) = inr (sym (elem-other i j l n) ∙ e)

-- The others are slots of the list.
elem-later : (j i : ℕ) (l : List ℕ) → elem j l ≡ true → elem j (i ∷ l) ≡ true
unfolding elem
elem-later j i l e = or_right (eqb j i) (elem j l) e

-- Once slot i is in, there are the others and i.
elem-place : (less : Order ℕ) (i j : ℕ) (l : List ℕ) → elem j (place less i l) ≡ (elem j l || eqb j i)
unfolding place elem
elem-place less i j [] = or-false (eqb j i)
elem-place less i j (y ∷ l) = go (less y i) (elem-place less i j l)
  where
    go : (t : Bool) → elem j (place less i l) ≡ (elem j l || eqb j i) → elem j (cond t (y ∷ place less i l) (i ∷ y ∷ l)) ≡ (elem j (y ∷ l) || eqb j i)
    go true e = ap (λ (b : Bool). eqb j y || b) e ∙ sym (or_assoc (eqb j y) (elem j l) (eqb j i))
    go false e = or_comm (eqb j i) (eqb j y || elem j l)

-- Two orders that agree on the slots of a list order it alike.
ordered-as : {less less' : Order ℕ} (l : List ℕ) → Ordered less l → ((i j : ℕ) → elem i l ≡ true → elem j l ≡ true → less i j ≡ less' i j) → Ordered less' l
unfolding Ordered
ordered-as [] h same = tt
ordered-as (x ∷ l) h same =
    (λ y e. sym (same x y (elem-first x l) (elem-later y x l e)) ∙ h.0 y e, ordered-as l h.1 (λ i j p q. same i j (elem-later i x l p) (elem-later j x l q)))

-- ---- tests that are equal

-- No slot passes.
pub lists-none : {less : Order ℕ} {test : ℕ → Bool} → ((i : ℕ) → test i ≡ false) → Lists less test []
unfolding Ordered elem
lists-none h = record { slots = λ i. sym (h i); ordered = tt }

-- Nothing passes of an empty list.
pub none_passes : {less : Order ℕ} {test : ℕ → Bool} → Lists less test [] → (i : ℕ) → test i ≡ false
unfolding elem
none_passes L i = sym (L.slots i)

-- By equal tests, and an order that agrees on what passes.
pub lists-as : {less less' : Order ℕ} {test test' : ℕ → Bool} {l : List ℕ} → Lists less test l → ((i : ℕ) → test i ≡ test' i)
    → ((i j : ℕ) → test i ≡ true → test j ≡ true → less i j ≡ less' i j) → Lists less' test' l
lists-as {l = l} L same order = record { slots = λ i. L.slots i ∙ same i; ordered = ordered-as l L.ordered (λ i j p q. order i j (sym (L.slots i) ∙ p) (sym (L.slots j) ∙ q)) }

-- In one order.
pub lists-same : {less : Order ℕ} {test test' : ℕ → Bool} {l : List ℕ} → Lists less test l → ((i : ℕ) → test i ≡ test' i) → Lists less test' l
lists-same L same = lists-as L same (λ i j p q. refl)

-- ---- the first

module _ {less : Order ℕ} {test : ℕ → Bool} {i : ℕ} {l : List ℕ} (L : Lists less test (i ∷ l)) where
  -- It passes.
  pub first_slot : test i ≡ true
  first_slot = sym (L.slots i) ∙ elem-first i l

  -- It goes before every other that passes.
  pub first-before : (j : ℕ) → test j ≡ true → j ≢ i → less i j ≡ true
  unfolding Ordered
  first-before j e n = L.ordered.0 j (sym (elem-other i j l n) ∙ L.slots j ∙ e)

module _ {less : Order ℕ} (S : Strict less) where
  -- It doesn't stand on the list again.
  first-once : (i : ℕ) (l : List ℕ) → Ordered less (i ∷ l) → elem i l ≡ false
  unfolding Ordered
  first-once i l h = fails (elem i l) (λ e. S.irrefl i (h.0 i e))

  -- It leaves.
  pub lists-rest : {test : ℕ → Bool} {i : ℕ} {l : List ℕ} → Lists less test (i ∷ l) → Lists less (λ j. test j && not (eqb j i)) l
  unfolding Ordered
  lists-rest {test} {i} {l} L = record { slots = λ j. go j (ℕ_discrete j i); ordered = L.ordered.1 }
    where
      go : (j : ℕ) → Dec (j ≡ i) → elem j l ≡ (test j && not (eqb j i))
      go j (yes q) = ap (λ (j : ℕ). elem j l) q ∙ first-once i l L.ordered ∙ rw (eq-eqb j i q) (sym (and-false (test j)))
      go j (no n) = sym (elem-other i j l n) ∙ L.slots j ∙ rw (ne_eqb j i n) (sym (and-true (test j)))

  -- ---- one list

  -- Ordered lists of the same slots are equal: the first of each would go before the other's.
  ordered-one : (l l' : List ℕ) → Ordered less l → Ordered less l' → ((i : ℕ) → elem i l ≡ elem i l') → l ≡ l'
  unfolding Ordered elem
  ordered-one [] [] h h' same = refl
  ordered-one [] (y ∷ l') h h' same = absurd (true≢false (sym (elem-first y l') ∙ sym (same y)))
  ordered-one (x ∷ l) [] h h' same = absurd (true≢false (sym (elem-first x l) ∙ same x))
  ordered-one (x ∷ l) (y ∷ l') h h' same = ap₂ (λ (i : ℕ) (k : List ℕ). i ∷ k) first (ordered-one l l' h.1 h'.1 (λ i. rest i (ℕ_discrete i x)))
    where
      go : (x ≡ y) ⊎ (elem x l' ≡ true) → (y ≡ x) ⊎ (elem y l ≡ true) → x ≡ y
      go (inl q) d = q
      go (inr e) (inl q) = sym q
      go (inr e) (inr f) = absurd (S.irrefl x (S.trans x y x (h.0 y f) (h'.0 x e)))

      first : x ≡ y
      first = go (elem-cases x y l' (sym (same x) ∙ elem-first x l)) (elem-cases y x l (same y ∙ elem-first y l'))

      rest : (i : ℕ) → Dec (i ≡ x) → elem i l ≡ elem i l'
      rest i (yes q) = ap (λ (i : ℕ). elem i l) q ∙ first-once x l h ∙ sym (ap (λ (i : ℕ). elem i l') (q ∙ first) ∙ first-once y l' h')
      rest i (no n) = sym (elem-other x i l n) ∙ same i ∙ elem-other y i l' (λ q. n (q ∙ sym first))

  -- There is one list of what passes.
  pub lists-one : {test : ℕ → Bool} {l l' : List ℕ} → Lists less test l → Lists less test l' → l ≡ l'
  lists-one {test} {l} {l'} L L' = ordered-one l l' L.ordered L'.ordered (λ i. L.slots i ∙ sym (L'.slots i))

  -- It is as long as there are slots that pass.
  pub length-lists : {test : ℕ → Bool} {l : List ℕ} → Lists less test l → ((i : ℕ) → test i ≡ true → i < 256) → length l ≡ count 256 test
  length-lists {test} {l = []} L small = sym (count_none test 256 (λ i h. none_passes L i))
  length-lists {test} {l = i ∷ l} L small =
      let a = length-lists {test = λ j. test j && not (eqb j i)} {l = l} (lists-rest L) (λ j e. small j (and_left (test j) (not (eqb j i)) e)) in
      let b = count-change (λ j. test j && not (eqb j i)) test i 256 (small i (first_slot L)) (λ j n. rw (ne_eqb j i n) (and-true (test j))) in
      let d : counted (test i) ≡ 1 = ap counted (first_slot L) ∙ counted-true in
      let e : counted (test i && not (eqb i i)) ≡ 0 = rw (eq-eqb i i refl, and-false (test i)) counted-false in
      omega arith

  -- ---- the first ones leave

  -- If the first doesn't pass f, none does.
  none-front : {test f : ℕ → Bool} {i : ℕ} {l : List ℕ} → Lists less test (i ∷ l) → Front less test f → f i ≡ false → (j : ℕ) → test j ≡ true → f j ≡ false
  none-front {test} {f} {i} {l} L front e j h = go (ℕ_discrete j i)
    where
      go : Dec (j ≡ i) → f j ≡ false
      go (yes q) = ap f q ∙ e
      go (no n) = fails (f j) (λ p. true≢false (sym (front i j (first_slot L) h (first-before L j h n) p) ∙ e))

  -- And so without one slot.
  front_rest : {test f : ℕ → Bool} (i : ℕ) → Front less test f → Front less (λ j. test j && not (eqb j i)) f
  front_rest {test} i front j k p q = front j k (and_left (test j) (not (eqb j i)) p) (and_left (test k) (not (eqb k i)) q)

  -- What passes f leaves.
  pub lists-dropped : {test f : ℕ → Bool} {l : List ℕ} → Lists less test l → Front less test f → Lists less (λ j. test j && not (f j)) (dropped f l)
  unfolding dropped
  lists-dropped {test} {f} {l = []} L front = lists-same L (λ j. rw (none_passes L j))
  lists-dropped {test} {f} {l = i ∷ l} L front = go (f i) refl (lists-dropped {test = λ j. test j && not (eqb j i)} {l = l} (lists-rest L) (front_rest i front))
    where
      go : (t : Bool) → f i ≡ t → Lists less (λ j. (test j && not (eqb j i)) && not (f j)) (dropped f l) → Lists less (λ j. test j && not (f j)) (cond t (dropped f l) (i ∷ l))
      go true e R = lists-same R (λ j. same j (ℕ_discrete j i))
        where
          same : (j : ℕ) → Dec (j ≡ i) → ((test j && not (eqb j i)) && not (f j)) ≡ (test j && not (f j))
          same j (yes q) = rw (ap f q ∙ e) (and-false (test j && not (eqb j i)) ∙ sym (and-false (test j)))
          same j (no n) = rw (ne_eqb j i n, and-true (test j))
      go false e R = lists-same L (λ j. same j (test j) refl)
        where
          same : (j : ℕ) (t : Bool) → test j ≡ t → t ≡ (t && not (f j))
          same j true h = rw (none-front L front e j h)
          same j false h = refl

-- ---- slots come in

module _ {less : Order ℕ} (S : Strict less) (total : Total less) where
  -- The slot in its place keeps the order.
  ordered-place : (i : ℕ) (l : List ℕ) → Ordered less l → elem i l ≡ false → Ordered less (place less i l)
  unfolding Ordered place elem
  ordered-place i [] h e = (λ y q. absurd (true≢false (sym q)), tt)
  ordered-place i (y ∷ l) h e = go (less y i) refl (ordered-place i l h.1 (sym (elem-other y i l different) ∙ e))
    where
      different : i ≢ y
      different q = true≢false (sym (ap (λ (x : ℕ). elem x (y ∷ l)) q ∙ elem-first y l) ∙ e)

      go : (t : Bool) → less y i ≡ t → Ordered less (place less i l) → Ordered less (cond t (y ∷ place less i l) (i ∷ y ∷ l))
      go true q o = (λ z m. after z (ℕ_discrete z i) (sym (elem-place less i z l) ∙ m), o)
        where
          after : (z : ℕ) → Dec (z ≡ i) → (elem z l || eqb z i) ≡ true → less y z ≡ true
          after z (yes p) m = ap (less y) p ∙ q
          after z (no n) m = h.0 z (sym (or-false (elem z l)) ∙ rw (ne_eqb z i n) at m)
      go false q o = (λ z m. after z (elem-cases z y l m), h)
        where
          first : less i y ≡ true
          first = total y i (λ p. different (sym p)) q

          after : (z : ℕ) → (z ≡ y) ⊎ (elem z l ≡ true) → less i z ≡ true
          after z (inl p) = ap (less i) p ∙ first
          after z (inr m) = S.trans i y z first (h.0 z m)

  -- A slot that didn't pass comes in.
  pub lists-place : {test : ℕ → Bool} {l : List ℕ} → Lists less test l → (i : ℕ) → test i ≡ false → Lists less (λ j. test j || eqb j i) (place less i l)
  lists-place {l = l} L i e = record { slots = λ j. elem-place less i j l ∙ ap (λ (b : Bool). b || eqb j i) (L.slots j); ordered = ordered-place i l L.ordered (L.slots i ∙ e) }

  -- What passes f moves over from a list k to a list l; nothing is on both.
  pub lists-moved : {less' : Order ℕ} → Strict less' → {test test' f : ℕ → Bool} {k l : List ℕ} → Lists less' test k → Lists less test' l → ((j : ℕ) → test j ≡ true → test' j ≡ false) → Front less' test f
      → Lists less (λ j. test' j || (test j && f j)) (moved less f k l)
  unfolding moved
  lists-moved S' {test} {test'} {f} {k = []} {l} K L apart front = lists-same L (λ j. rw (none_passes K j) (sym (or-false (test' j))))
  lists-moved S' {test} {test'} {f} {k = i ∷ k} {l} K L apart front =
      go (f i) refl (lists-moved S' {test = λ j. test j && not (eqb j i)} {test' = λ j. test' j || eqb j i} {k = k} {l = place less i l} (lists-rest S' K) (lists-place L i (apart i (first_slot K))) (λ j. apart-rest (test j) (eqb j i) (test' j) (apart j)) (front_rest S' i front))
    where
      apart-rest : (a b d : Bool) → (a ≡ true → d ≡ false) → (a && not b) ≡ true → (d || b) ≡ false
      apart-rest true false d n e = or-false d ∙ n refl
      apart-rest true true d n e = absurd (true≢false (sym e))
      apart-rest false b d n e = absurd (true≢false (sym e))

      go : (t : Bool) → f i ≡ t → Lists less (λ j. (test' j || eqb j i) || ((test j && not (eqb j i)) && f j)) (moved less f k (place less i l))
          → Lists less (λ j. test' j || (test j && f j)) (cond t (moved less f k (place less i l)) l)
      go true e R = lists-same R (λ j. same j (ℕ_discrete j i))
        where
          same : (j : ℕ) → Dec (j ≡ i) → ((test' j || eqb j i) || ((test j && not (eqb j i)) && f j)) ≡ (test' j || (test j && f j))
          same j (yes q) = rw (eq-eqb j i q, ap test q ∙ first_slot K, ap f q ∙ e, or-true (test' j))
          same j (no n) = rw (ne_eqb j i n, or-false (test' j), and-true (test j))
      go false e R = lists-same L (λ j. same j (test j) refl)
        where
          same : (j : ℕ) (t : Bool) → test j ≡ t → test' j ≡ (test' j || (t && f j))
          same j true h = rw (none-front S' K front e j h) (sym (or-false (test' j)))
          same j false h = sym (or-false (test' j))
