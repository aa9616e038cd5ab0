-- What follows where every queue holds what it should: the queues fit the state, so that the engine asks what the comparator asks; and a call that changes no stored
-- packet leaves them right. Assumes nothing.
use Prim.Native.Nat.{ℕ, zero, suc, ◌+◌, ◌<◌, ◌≤◌}
use mathlib.Core.Path.{◌≡◌, refl, sym, ap, ap₂, subst, ◌∙◌}
use mathlib.Core.Bool.{Bool, true, false, cond, ◌&&◌, true≢false, beq}
use mathlib.Core.List.{List}
use mathlib.Core.Option.{Option, none, some}
use native.Mathlib.Decide.{dec_lt}
use native.Mathlib.Omega.{arith}
use lib.ListN.{length}
use lib.Dec.{ltb}
use borrow.Author.Tests.{eq-eqb, ne_eqb, lt-ltb, le-ltb}
use Rattle.rules.specs.Areas.{Store, bits, has, asked}
use Rattle.rules.specs.Clock.{cut}
use Rattle.rules.specs.Board.{Board, Mask, clock}
use Rattle.rules.specs.Order.{Key, count, counted, top_first}
use Rattle.rules.specs.Tick.{is_early, slot_key}
use Rattle.rules.specs.Whole.{Held, Router}
use Rattle.rules.proofs.BoardLaws.{Laws}
use Rattle.rules.proofs.Booleans.{and_both}
use Rattle.rules.proofs.IndexLaws.{all_true}
use Rattle.rules.proofs.Masks.{has-zero}
use Rattle.rules.proofs.Relation.{SlotShows, Rel}
use Rattle.passes.proofs.Counting.{count-at-most}
use Rattle.queues.specs.Table1.{waits, Holds}
use Rattle.queues.specs.Area.{queues_length, queue, size, entry, in_queue}
use Rattle.queues.specs.Engine.{Bench, first_of, first, sizes_fit, is_first_fitting, fitting, questions}
use Rattle.queues.specs.QueuesAgree.{AllHold}
use Rattle.queues.proofs.ListLaws.{lists-as, length-lists, first_slot}
use Rattle.queues.proofs.BeforeLaws.{before_same, strict-before}
use Rattle.queues.proofs.ChoiceLaws.{waits-slot}
use Rattle.queues.proofs.QueueLaws.{length-in_queue}

-- Two tests of which one fails where the other holds count as much as a test that holds where either does.
count-parts : (f g h : ℕ → Bool) (k : ℕ) → ((j : ℕ) → j < k → counted (f j) + counted (g j) ≡ counted (h j)) → count k f + count k g ≡ count k h
unfolding count
count-parts f g h zero e = refl
count-parts f g h (suc k) e = let a = count-parts f g h k (λ j l. e j (omega arith)) in let b = e k (omega arith) in omega arith

module _ (B : Board) where
  open B use {get}

  -- A slot that waits is one.
  waits-lt : (s : List ℕ) (p : ℕ) (e : Bool) (j : ℕ) → waits B s p e j ≡ true → j < 256
  waits-lt s p e j h = (waits-slot B s p e j h).0

  -- A slot with port p is of one sort.
  one-sort : (s : List ℕ) (p j : ℕ) → j < 256 → counted (waits B s p false j) + counted (waits B s p true j) ≡ counted (has (get s (Mask, j)) p)
  unfolding waits counted
  one-sort s p j l = rw (lt-ltb j 256 l) (go (has (get s (Mask, j)) p) (is_early B s j))
    where
      go : (a u : Bool) → cond (a && beq u false) 1 0 + cond (a && beq u true) 1 0 ≡ cond a 1 0
      go true true = refl
      go true false = refl
      go false u = refl

  -- So both queues of a port have as many slots as wait for it.
  sizes-count : (s : List ℕ) (p : ℕ) {lo le : List ℕ} → Holds B s p false lo → Holds B s p true le → length lo + length le ≡ count 256 (λ j. has (get s (Mask, j)) p)
  sizes-count s p O E =
      ap₂ (λ (a b : ℕ). a + b) (length-lists (strict-before B s) O (waits-lt s p false)) (length-lists (strict-before B s) E (waits-lt s p true))
      ∙ count-parts (waits B s p false) (waits B s p true) (λ j. has (get s (Mask, j)) p) 256 (one-sort s p)

  -- And no more than there are slots.
  pub sizes-most : (s : List ℕ) (p : ℕ) {lo le : List ℕ} → Holds B s p false lo → Holds B s p true le → length lo + length le ≤ 256
  sizes-most s p O E = let n = sizes-count s p O E in omega (arith, count-at-most (λ j. has (get s (Mask, j)) p) 256)

  -- The first of a queue is of its port and sort.
  first_fits : (s : List ℕ) (p : ℕ) (e : Bool) (x : List ℕ) → Holds B s p e (in_queue x) → is_first_fitting B s p e (first x) ≡ true
  unfolding in_queue top_first is_first_fitting first_of
  first_fits s p e x H = go (size x) H
    where
      go : (n : ℕ) → Holds B s p e (top_first (entry x) n) → is_first_fitting B s p e (first_of n x) ≡ true
      go zero H = refl
      go (suc n) H = first_slot H

  -- Question 21 is passed.
  holding-fits : (b : Bench) → AllHold B b → fitting B b.store.state b.queues ≡ true
  unfolding fitting
  holding-fits b H = all_true _ 5 (λ p l.
      let s = b.store.state in
      let q = b.queues in
      let n = sizes-count s p (H.holds p l false) (H.holds p l true) in
      and_both (sizes_fit B s q p) _
      (eq-eqb _ _ (ap₂ (λ (x y : ℕ). x + y) (sym (length-in_queue (queue q p false))) (sym (length-in_queue (queue q p true))) ∙ n))
      (and_both (is_first_fitting B s p false (first (queue q p false))) (is_first_fitting B s p true (first (queue q p true)))
      (first_fits s p false (queue q p false) (H.holds p l false)) (first_fits s p true (queue q p true) (H.holds p l true))))

  -- So the questions of the router decide.
  pub questions-same : (b : Bench) → AllHold B b → (n : ℕ) → asked (questions B b n) ≡ n
  unfolding asked
  questions-same b H zero = rw (eq-eqb (length b.queues) queues_length H.sized, holding-fits b H)
  questions-same b H (suc n) = rw (eq-eqb (length b.queues) queues_length H.sized, ne_eqb (suc n) 0 (λ e. omega arith))

module _ (B : Board) (L : Laws B) where
  open B use {clock_bytes as c, get}

  -- ---- a call that leaves the places and the clock leaves the queues right

  module _ {r r' : Store} {w w' : Router} (R : Rel B L r w) (R' : Rel B L r' w') (same_place : (j : ℕ) → j < 256 → w'.place j ≡ w.place j) (same-clock : w'.clock ≡ w.clock) where
    abbrev s : List ℕ
    s = r.state

    abbrev s' : List ℕ
    s' = r'.state

    -- A slot is empty in both states, or has the same mask and key.
    slot-still : (j : ℕ) → j < 256 → (p : ℕ) → p < 5 → (has (get s (Mask, j)) p ≡ has (get s' (Mask, j)) p) × (has (get s (Mask, j)) p ≡ true → slot_key B s j ≡ slot_key B s' j)
    unfolding slot_key
    slot-still j l p hp = go (w.place j) (R.place j l) (subst (SlotShows B L r' j) (same_place j l) (R'.place j l))
      where
        go : (v : Option Held) → SlotShows B L r j v → SlotShows B L r' j v → (has (get s (Mask, j)) p ≡ has (get s' (Mask, j)) p) × (has (get s (Mask, j)) p ≡ true → slot_key B s j ≡ slot_key B s' j)
        go none h h' = (rw (h, h'), λ e. absurd (true≢false (sym e ∙ ap (λ (m : ℕ). has m p) h ∙ has-zero p hp)))
        go (some x) H H' =
            let t : get s clock ≡ get s' clock = R.settings.reads clock refl (omega arith) ∙ ap (cut (bits c)) (sym same-clock) ∙ sym (R'.settings.reads clock refl (omega arith)) in
            (rw (H.left, H'.left), λ e. rw (H.time, H.deadline, H'.time, H'.deadline, t))

    -- Equal keys are of one sort.
    key-early : (i j : ℕ) → slot_key B s i ≡ slot_key B s' j → is_early B s i ≡ is_early B s' j
    unfolding slot_key
    key-early i j e = ap (λ (k : Key). k.early) e

    waits-still : (p : ℕ) → p < 5 → (e : Bool) (j : ℕ) → waits B s p e j ≡ waits B s' p e j
    unfolding waits
    waits-still p hp e j = go (dec_lt j 256)
      where
        sort : (t : Bool) → has (get s (Mask, j)) p ≡ t → (has (get s (Mask, j)) p ≡ true → is_early B s j ≡ is_early B s' j) → (t && beq (is_early B s j) e) ≡ (t && beq (is_early B s' j) e)
        sort true h f = rw (f h)
        sort false h f = refl

        go : Dec (j < 256) → (ltb j 256 && (has (get s (Mask, j)) p && beq (is_early B s j) e)) ≡ (ltb j 256 && (has (get s' (Mask, j)) p && beq (is_early B s' j) e))
        go (yes l) =
            let (m, k) = slot-still j l p hp in
            rw (lt-ltb j 256 l, ← m) (sort (has (get s (Mask, j)) p) refl (λ h. key-early j j (k h)))
        go (no l) = rw (le-ltb j 256 (omega arith))

    pub holds-still : (p : ℕ) → p < 5 → (e : Bool) {l : List ℕ} → Holds B s p e l → Holds B s' p e l
    holds-still p hp e H = lists-as H (waits-still p hp e) (λ i j hi hj.
        let (li, mi, _) = waits-slot B s p e i hi in
        let (lj, mj, _) = waits-slot B s p e j hj in
        before_same B s s' i j ((slot-still i li p hp).1 mi) ((slot-still j lj p hp).1 mj))
