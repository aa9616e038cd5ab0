-- The one pass: a slot's steps store its own mask and then the stack, so that the pass leaves the state with its masks stored and the emptied slots given back.
-- The slots ahead of it are as they were. Assumes nothing.
use Prim.Native.Nat.{ℕ, zero, suc, ◌+◌, ◌-◌, ◌%◌, ◌<◌, ◌≤◌}
use mathlib.Core.Path.{◌≡◌, refl, sym, ap, ◌∙◌}
use mathlib.Core.Bool.{Bool, true, false, cond, ◌&&◌, and-false}
use mathlib.Core.List.{List}
use mathlib.Core.Logic.{◌≢◌}
use native.Mathlib.Decide.{ℕ_discrete}
use native.Mathlib.Omega.{arith}
use lib.ListN.{length, get_or}
use lib.Dec.{eqb}
use borrow.Author.Tests.{eq-eqb, ne_eqb}
use Rattle.rules.specs.Areas.{has}
use Rattle.rules.specs.Board.{Board, Deadline, Mask, clock, free}
use Rattle.rules.specs.Order.{count, counted}
use Rattle.rules.specs.Tick.{is_due, give_back}
use Rattle.passes.specs.Room.{occupied, used}
use Rattle.rules.proofs.BoardLaws.{Laws}
use Rattle.rules.proofs.Masks.{has-zero}
use Rattle.passes.specs.Ports.{EachPort, changed}
use Rattle.passes.specs.Settling.{ports_left, mask_left, slot_after, slot_count, settled, missed}
use Rattle.passes.proofs.Counting.{count-le, count-and, count-at-most}
use Rattle.passes.proofs.MaskPorts.{has-low}
use Rattle.passes.proofs.SlotMasks.{masked, length-masked, get-masked, mask-above}
use Rattle.passes.proofs.GivingBack.{given_back, Back, given_back-back, given_back-put}

module _ (B : Board) (L : Laws B) where
  open B use {state_length, get, put}

  -- ---- a slot's steps, by the tests of the code

  -- A mask stored as it is leaves the state.
  put-mask : (s : List ℕ) (i : ℕ) → i < 256 → (v : ℕ) → v ≡ get s (Mask, i) → put s (Mask, i) v ≡ s
  put-mask s i h v e = rw e (L.put-own s (Mask, i) h refl)

  -- An empty slot.
  pub slot-empty : (s : List ℕ) (i t x : ℕ) → i < 256 → get s (Mask, i) ≡ 0 → s ≡ slot_after B s t i x
  slot-empty s i t x h e = rw (eq-eqb (get s (Mask, i)) 0 e) (sym (put-mask s i h _ (left (eqb (get s (Deadline, i)) t))))
    where
      left : (d : Bool) → cond d 0 (get s (Mask, i) - x) ≡ get s (Mask, i)
      left true = sym e
      left false = omega arith

  -- The slot i of the state s with the mask m and the deadline v; the ports in x have sent it, and t is the clock reading.
  module _ (s : List ℕ) (i t x m v : ℕ) (em : m ≡ get s (Mask, i)) (ev : v ≡ get s (Deadline, i)) where
    module _ (n : m ≢ 0) where
      is-occupied : eqb (get s (Mask, i)) 0 ≡ false
      is-occupied = ne_eqb (get s (Mask, i)) 0 (λ e. n (em ∙ e))

      -- If it is due, it is emptied.
      pub slot_due : eqb v t ≡ true → (r : List ℕ) → r ≡ give_back B i (put s (Mask, i) 0) → r ≡ slot_after B s t i x
      slot_due d r e = rw (is-occupied, ← ev, d) e

      module _ (d : eqb v t ≡ false) where
        -- Also if all its ports have sent it.
        pub slot-sent : m - x ≡ 0 → (r : List ℕ) → r ≡ give_back B i (put s (Mask, i) 0) → r ≡ slot_after B s t i x
        slot-sent z r e = rw (is-occupied, ← ev, d, ← em, z) e

        -- Else it keeps the ports left.
        pub slot-left : m - x ≢ 0 → (r : List ℕ) → r ≡ put s (Mask, i) (m - x) → r ≡ slot_after B s t i x
        slot-left z r e = rw (is-occupied, ← ev, d, ← em, ne_eqb (m - x) 0 z) e

  -- A slot that no port sends and that isn't due stays as it is.
  pub slot-waits : (s : List ℕ) (i t x v : ℕ) → i < 256 → v ≡ get s (Deadline, i) → eqb v t ≡ false → x ≡ 0 → s ≡ slot_after B s t i x
  slot-waits s i t x v h ev d z = go (ℕ_discrete (get s (Mask, i)) 0)
    where
      go : Dec (get s (Mask, i) ≡ 0) → s ≡ slot_after B s t i x
      go (yes e) = slot-empty s i t x h e
      go (no n) = slot-left s i t x (get s (Mask, i)) v refl ev n d (λ q. n (omega arith)) s (sym (put-mask s i h (get s (Mask, i) - x) (omega arith)))

  -- ---- a slot's counts, by the tests of the code

  module _ (s : List ℕ) (i t x : ℕ) (l : List ℕ) (five : length l ≡ 5) where
    -- An empty slot counts nothing.
    pub counts-empty : get s (Mask, i) ≡ 0 → EachPort (slot_count B s t i x l) l
    unfolding counted
    counts-empty e = record { five = five; each = λ p h. let z : get s (Mask, i) - x ≡ 0 = omega arith in rw (z, has-zero p h) (omega arith) }

    module _ (v : ℕ) (ev : v ≡ get s (Deadline, i)) where
      -- Nor does one that isn't due.
      pub counts-waiting : eqb v t ≡ false → EachPort (slot_count B s t i x l) l
      unfolding counted
      counts-waiting d = record { five = five; each = λ p h. rw (← ev, d, and-false (has (get s (Mask, i) - x) p)) (omega arith) }

      -- One that is counts one for each port left, of which the code tests the five low bits.
      pub counts-due : eqb v t ≡ true → (m : ℕ) → m ≡ get s (Mask, i) → (l' : List ℕ) → EachPort (changed (λ n. n + 1) ((m - x) % 32) l) l' → EachPort (slot_count B s t i x l) l'
      unfolding counted
      counts-due d m em l' E = record { five = E.five; each = λ p h. E.each p h ∙ rw (has-low (m - x) p h, ← ev, d, ← em) (go p (has (m - x) p)) }
        where
          go : (p : ℕ) (b : Bool) → cond b (get_or l p 0 + 1) (get_or l p 0) ≡ get_or l p 0 + cond (b && true) 1 0
          go p true = refl
          go p false = omega arith

  -- ---- the pass

  module _ (s l : List ℕ) (sized : length s ≡ state_length) (room : used B s ≤ 256) where
    -- The slots that it empties.
    abbrev empties : ℕ → Bool
    empties i = occupied B s i && eqb (mask_left B s l i) 0

    -- The state with the masks that it leaves of the slots below k.
    abbrev left : ℕ → List ℕ
    left k = masked B L (mask_left B s l) s k

    left-sized : (k : ℕ) → length (left k) ≡ state_length
    left-sized k = length-masked B L (mask_left B s l) s sized k

    pub left-room : (k : ℕ) → k ≤ 256 → get (left k) free + count 256 empties ≤ 256
    left-room k h = omega (arith, get-masked B L (mask_left B s l) s sized free (omega arith) refl k h, count-and (occupied B s) (λ i. eqb (mask_left B s l i) 0) 256)

    -- By induction: the mask of slot k may as well be stored before the slots below it are given back.
    pub settled_back : (k : ℕ) → k ≤ 256 → settled B s l k ≡ given_back B (λ i. occupied B s i && eqb (mask_left B s l i) 0) (masked B L (mask_left B s l) s k) k
    unfolding settled given_back masked
    settled_back zero h = refl
    settled_back (suc k) h =
        ap (λ (x : List ℕ). cond (empties k) (give_back B k x) x)
        (ap (λ (r : List ℕ). put r (Mask, k) (mask_left B s l k)) (settled_back k (omega arith))
        ∙ sym (given_back-put B L empties (left k) (left-sized k) (left-room k (omega arith)) k (mask_left B s l k) h k (omega arith)))

    -- What holds of the state after k slots.
    settled-state : (k : ℕ) → (h : k ≤ 256) → Back B L empties (left k) (left-sized k) (left-room k h) k (settled B s l k)
    settled-state k h = rw (settled_back k h) (given_back-back B L empties (left k) (left-sized k) (left-room k h) k h)

    pub length-settled : (k : ℕ) → k ≤ 256 → length (settled B s l k) ≡ state_length
    length-settled k h = (settled-state k h).long

    pub settled-room : (k : ℕ) → k ≤ 256 → get (settled B s l k) free ≤ 256
    settled-room k h = omega (arith, (settled-state k h).free_more, left-room k h, count-le empties k 256 h)

    -- Slot k is as it was when the pass comes to it.
    pub settled-keeps-mask : (k : ℕ) → k < 256 → get (settled B s l k) (Mask, k) ≡ get s (Mask, k)
    settled-keeps-mask k h = (settled-state k (omega arith)).keeps (Mask, k) h refl refl ∙ mask-above B L (mask_left B s l) s sized k h k (omega arith)

    pub settled-keeps-deadline : (k : ℕ) → k < 256 → get (settled B s l k) (Deadline, k) ≡ get s (Deadline, k)
    settled-keeps-deadline k h = (settled-state k (omega arith)).keeps (Deadline, k) h refl refl ∙ get-masked B L (mask_left B s l) s sized (Deadline, k) h refl k (omega arith)

    -- An empty slot changes nothing.
    pub settled-empty : (k : ℕ) → k < 256 → get s (Mask, k) ≡ 0 → settled B s l k ≡ settled B s l (suc k)
    unfolding settled
    settled-empty k h z =
        slot-empty (settled B s l k) k (get s clock) (get_or l k 0) h (settled-keeps-mask k h ∙ z)
        ∙ rw (settled-keeps-mask k h, settled-keeps-deadline k h)

    -- ---- one turn of the loop

    module _ (k : ℕ) (h : k < 256) (x : ℕ) (ex : x ≡ get_or l k 0) (t : ℕ) (et : t ≡ get s clock) where
      pub settled-turn : (r r' : List ℕ) → r ≡ settled B s l k → r' ≡ slot_after B r t k x → r' ≡ settled B s l (suc k)
      unfolding settled
      settled-turn r r' er q = q ∙ rw (er, settled-keeps-mask k h, settled-keeps-deadline k h, ex, et)

      pub missed-turn : (r c c' : List ℕ) → r ≡ settled B s l k → EachPort (missed B s l k) c → EachPort (slot_count B r t k x c) c' → EachPort (missed B s l (suc k)) c'
      unfolding count
      missed-turn r c c' er E F = record { five = F.five; each = λ p hp. F.each p hp ∙ rw (er, settled-keeps-mask k h, settled-keeps-deadline k h, ex, et, E.each p hp) }

  -- ---- the counts

  module _ (s l : List ℕ) where
    -- They are at most the slots passed.
    pub missed-few : (k : ℕ) → k ≤ 256 → (c : List ℕ) → EachPort (missed B s l k) c → (p : ℕ) → p < 5 → get_or c p 0 ≤ 256
    missed-few k h c E p hp = omega (arith, E.each p hp, count-at-most (λ j. has (ports_left B s l j) p && is_due B s j) k)

    pub missed-empty : (p : ℕ) → p < 5 → (k : ℕ) → k < 256 → get s (Mask, k) ≡ 0 → missed B s l k p ≡ missed B s l (suc k) p
    unfolding count counted
    missed-empty p hp k h z = let e : ports_left B s l k ≡ 0 = omega arith in rw (e, has-zero p hp) (omega arith)
