-- Step 3 of a tick, for the slots: a port leaves the mask of the slot that it sends and no other, so that the slot leaves the queue whose first it is, and the other queues stay.
-- By one port after the other. Assumes nothing.
use Prim.Native.Nat.{ℕ, zero, suc, ◌<◌, ◌≤◌}
use mathlib.Core.Path.{◌≡◌, refl, sym, ap, ◌∙◌}
use mathlib.Core.Bool.{Bool, true, false, cond, not, ◌&&◌, beq, true≢false, and-true, and-false, and_comm}
use mathlib.Core.List.{List, ◌∷◌}
use native.Mathlib.Decide.{ℕ_discrete, dec_lt}
use native.Mathlib.Omega.{arith}
use lib.ListN.{length}
use lib.Dec.{ltb, eqb}
use borrow.Author.Tests.{eq-eqb, ne_eqb, lt-ltb, le-ltb}
use Rattle.rules.specs.Order.{Order}
use Rattle.rules.specs.Areas.{has, without, Grant, nobody, best_effort, on_time, early}
use Rattle.rules.specs.Board.{Board, Time, Deadline, Mask, Field, clock}
use Rattle.rules.specs.Tick.{is_early, slot_key, sent, leave}
use Rattle.rules.proofs.BoardLaws.{Laws, Valid, same_kind}
use Rattle.rules.proofs.Booleans.{and_left}
use Rattle.rules.proofs.Integers.{ltb_iff}
use Rattle.rules.proofs.Masks.{has-without-same, has-without-other}
use Rattle.rules.proofs.OrderLaws.{Strict, fails}
use Rattle.passes.specs.Sends.{Winner, sends, sent_by}
use Rattle.passes.specs.Settling.{ports_left}
use Rattle.passes.proofs.Sends.{sent_by-masked}
use Rattle.passes.proofs.SlotMasks.{length-masked, get-masked, mask-masked}
use Rattle.queues.specs.Table1.{before, waits, Lists, Holds}
use Rattle.queues.proofs.ListLaws.{lists-as, lists-same, lists-rest, first_slot}
use Rattle.queues.proofs.BeforeLaws.{strict-before, before_same}
use Rattle.queues.proofs.ChoiceLaws.{Firsts, waits-slot}
use Rattle.queues.proofs.EngineLaws.{less_first}

-- Slot j is the one that the port is granted to.
unfoldable sends_slot : Grant ℕ → ℕ → Bool
sends_slot nobody j = false
sends_slot best_effort j = false
sends_slot (on_time i) j = eqb i j
sends_slot (early i) j = eqb i j

-- The first leaves its list.
less_one : {less : Order ℕ} {test : ℕ → Bool} {i : ℕ} {l : List ℕ} → Strict less → Lists less test (i ∷ l) → Lists less (λ j. test j && not (eqb i j)) l
less_one {test = test} {i} S H = lists-same (lists-rest S H) (λ j. ap (λ (t : Bool). test j && not t) (turned j (ℕ_discrete i j)))
  where
    turned : (j : ℕ) → Dec (i ≡ j) → eqb j i ≡ eqb i j
    turned j (yes q) = eq-eqb j i (sym q) ∙ sym (eq-eqb i j q)
    turned j (no n) = ne_eqb j i (λ q. n (sym q)) ∙ sym (ne_eqb i j n)

-- A list that hasn't the slot stays.
less_none : {less : Order ℕ} {test : ℕ → Bool} {l : List ℕ} (i : ℕ) → test i ≡ false → Lists less test l → Lists less (λ j. test j && not (eqb i j)) l
less_none {test = test} i w H = lists-same H (λ j. go j (ℕ_discrete i j))
  where
    go : (j : ℕ) → Dec (i ≡ j) → test j ≡ (test j && not (eqb i j))
    go j (yes q) = rw (← q, w)
    go j (no n) = rw (ne_eqb i j n) (sym (and-true (test j)))

module _ (B : Board) (L : Laws B) where
  open B use {state_length, get}

  module _ (s : List ℕ) (sized : length s ≡ state_length) (small : (j : ℕ) → j < 256 → get s (Mask, j) ≤ 31) (g : ℕ → Grant ℕ) (wins : (p : ℕ) → p < 5 → Winner B s p (g p)) where
    -- ---- what the state reads

    -- The state after the ports below k.
    abbrev after : ℕ → List ℕ
    after k = sent_by B g k s

    -- It has its length.
    length-after : (k : ℕ) → k ≤ 5 → length (after k) ≡ state_length
    length-after k h = rw (sent_by-masked B L s g wins sized k h) (length-masked B L (ports_left B s (sends g k)) s sized 256)

    -- Its masks have not grown.
    small-after : (k : ℕ) → k ≤ 5 → (j : ℕ) → j < 256 → get (after k) (Mask, j) ≤ 31
    small-after k h j l = rw (sent_by-masked B L s g wins sized k h, mask-masked B L (ports_left B s (sends g k)) s sized j 256 l (omega arith)) (let m = small j l in omega arith)

    -- Port k leaves the mask of slot i: the others stay, in its mask and in the masks of other slots.
    left-mask : (k : ℕ) → k < 5 → (p : ℕ) → p < 5 → (i j : ℕ) → i < 256 → j < 256 → has (get (leave B k i (after k)) (Mask, j)) p ≡ (has (get (after k) (Mask, j)) p && not (eqb p k && eqb i j))
    left-mask k hk p hp i j hi hj = rw (L.get-put (after k) (Mask, i) (without (get (after k) (Mask, i)) k) (Mask, j) (length-after k (omega arith)) hi hj) (go (ℕ_discrete i j) (ℕ_discrete p k))
      where
        m : ℕ
        m = get (after k) (Mask, j)

        hm : m ≤ 31
        hm = small-after k (omega arith) j hj

        go : Dec (i ≡ j) → Dec (p ≡ k) → has (cond (eqb i j) (without (get (after k) (Mask, i)) k) m) p ≡ (has m p && not (eqb p k && eqb i j))
        go (no n) d = rw (ne_eqb i j n, and-false (eqb p k)) (sym (and-true (has m p)))
        go (yes e) (yes d) = rw (eq-eqb i j e, e, d, eq-eqb k k refl, has-without-same m k hm hk) (sym (and-false (has m k)))
        go (yes e) (no n) = rw (eq-eqb i j e, e, ne_eqb p k n, has-without-other m k p hm hk hp n) (sym (and-true (has m p)))

    -- Each of the ports below k has left the mask of the slot that it sends.
    mask-after : (k : ℕ) → k ≤ 5 → (p : ℕ) → p < 5 → (j : ℕ) → j < 256 → has (get (after k) (Mask, j)) p ≡ (has (get s (Mask, j)) p && not (ltb p k && sends_slot (g p) j))
    unfolding sent_by sent sends_slot
    mask-after zero h p hp j l = rw (le-ltb p 0 (omega arith)) (sym (and-true (has (get s (Mask, j)) p)))
    mask-after (suc k) h p hp j l = one (g k) (wins k h) ∙ ap (λ (t : Bool). t && not (eqb p k && sends_slot (g k) j)) (mask-after k (omega arith) p hp j l) ∙ next (ℕ_discrete p k)
      where
        a : Bool
        a = has (get s (Mask, j)) p

        one : (x : Grant ℕ) → Winner B s k x → has (get (sent B k x (after k)) (Mask, j)) p ≡ (has (get (after k) (Mask, j)) p && not (eqb p k && sends_slot x j))
        one nobody w = rw (and-false (eqb p k)) (sym (and-true (has (get (after k) (Mask, j)) p)))
        one best_effort w = rw (and-false (eqb p k)) (sym (and-true (has (get (after k) (Mask, j)) p)))
        one (on_time i) w = left-mask k h p hp i j w.0 l
        one (early i) w = left-mask k h p hp i j w.0 l

        next : Dec (p ≡ k) → ((a && not (ltb p k && sends_slot (g p) j)) && not (eqb p k && sends_slot (g k) j)) ≡ (a && not (ltb p (suc k) && sends_slot (g p) j))
        next (yes e) = rw (le-ltb p k (omega arith), eq-eqb p k e, lt-ltb p (suc k) (omega arith), and-true a, e)
        next (no n) = rw (ne_eqb p k n, ltb_iff p (suc k) p k (omega arith) (omega arith)) (and-true (a && not (ltb p k && sends_slot (g p) j)))

    abbrev s₃ : List ℕ
    s₃ = after 5

    -- The mask of a slot is without the ports that sent it.
    sent-mask : (j : ℕ) → j < 256 → (p : ℕ) → p < 5 → has (get (sent_by B g 5 s) (Mask, j)) p ≡ (has (get s (Mask, j)) p && not (sends_slot (g p) j))
    sent-mask j l p h = mask-after 5 (omega arith) p h j l ∙ rw (lt-ltb p 5 h)

    -- A field that is no mask stays.
    pub sent-other : (f : Field) → Valid f → same_kind Mask f.0 ≡ false → get (sent_by B g 5 s) f ≡ get s f
    sent-other f v n = rw (sent_by-masked B L s g wins sized 5 (omega arith)) (get-masked B L (ports_left B s (sends g 5)) s sized f v n 256 (omega arith))

    -- ---- keys, and what waits

    -- Sorts and keys stay.
    sent-early : (j : ℕ) → j < 256 → is_early B s₃ j ≡ is_early B s j
    sent-early j l = rw (sent-other (Time, j) l refl, sent-other clock (omega arith) refl)

    sent-key : (j : ℕ) → j < 256 → slot_key B (sent_by B g 5 s) j ≡ slot_key B s j
    unfolding slot_key
    sent-key j l = rw (sent-other (Time, j) l refl, sent-other (Deadline, j) l refl, sent-other clock (omega arith) refl)

    -- So the order stays.
    sent-before : (i j : ℕ) → i < 256 → j < 256 → before B (sent_by B g 5 s) i j ≡ before B s i j
    sent-before i j hi hj = before_same B s₃ s i j (sent-key i hi) (sent-key j hj)

    -- What still waits for a port is what it doesn't send.
    sent-waits : (p : ℕ) → p < 5 → (e : Bool) (j : ℕ) → waits B (sent_by B g 5 s) p e j ≡ (waits B s p e j && not (sends_slot (g p) j))
    unfolding waits
    sent-waits p h e j = go (dec_lt j 256)
      where
        swap : (a b d : Bool) → ((a && d) && b) ≡ ((a && b) && d)
        swap true b d = and_comm d b
        swap false b d = refl

        go : Dec (j < 256) → waits B s₃ p e j ≡ (waits B s p e j && not (sends_slot (g p) j))
        go (yes l) = rw (lt-ltb j 256 l, sent-mask j l p h, sent-early j l) (swap (has (get s (Mask, j)) p) (beq (is_early B s j) e) (not (sends_slot (g p) j)))
        go (no n) = rw (le-ltb j 256 (omega arith))

    -- ---- the lists

    -- A slot of one sort is not of the other.
    one-sort : (p : ℕ) (e : Bool) (i : ℕ) → waits B s p e i ≡ true → waits B s p (not e) i ≡ false
    one-sort p e i w = fails (waits B s p (not e) i) (λ v. differ e (sym (waits-slot B s p e i w).2 ∙ (waits-slot B s p (not e) i v).2))
      where
        differ : (e : Bool) → e ≡ not e → ⊥
        differ true q = true≢false q
        differ false q = true≢false (sym q)

    -- Where the port sends the first of one of its two lists.
    pub sent-lists : (p : ℕ) → p < 5 → (l : Bool → List ℕ) → ((e : Bool) → Holds B s p e (l e)) → Firsts (l false) (l true) (g p) → (e : Bool) → Holds B (sent_by B g 5 s) p e (less_first (g p) e (l e))
    unfolding sends_slot
    sent-lists p h l H first e = lists-as (go (g p) first e) (λ j. sym (sent-waits p h e j)) (λ i j a b. sym (sent-before i j (slot i a) (slot j b)))
      where
        slot : (j : ℕ) → (waits B s p e j && not (sends_slot (g p) j)) ≡ true → j < 256
        slot j a = (waits-slot B s p e j (and_left (waits B s p e j) (not (sends_slot (g p) j)) a)).0

        go : (x : Grant ℕ) → Firsts (l false) (l true) x → (e : Bool) → Lists (before B s) (λ j. waits B s p e j && not (sends_slot x j)) (less_first x e (l e))
        go nobody f e = lists-same (H e) (λ j. sym (and-true (waits B s p e j)))
        go best_effort f e = lists-same (H e) (λ j. sym (and-true (waits B s p e j)))
        go (on_time i) (k, f) false = rw f (less_one (strict-before B s) (rw f at (H false)))
        go (on_time i) (k, f) true = less_none i (one-sort p false i (first_slot (rw f at (H false)))) (H true)
        go (early i) (k, f) false = less_none i (one-sort p true i (first_slot (rw f at (H true)))) (H false)
        go (early i) (k, f) true = rw f (less_one (strict-before B s) (rw f at (H true)))
