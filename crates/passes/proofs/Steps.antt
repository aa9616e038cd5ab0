-- The one pass is steps 3 to 5 in the order of the definition: each step but the last stores masks only, and the last gives back the slots that the pass gives back.
-- Assumes nothing.
use Prim.Native.Nat.{ℕ, zero, suc, ◌+◌, ◌<◌, ◌≤◌}
use mathlib.Core.Path.{◌≡◌, refl, sym, ap, ◌∙◌}
use mathlib.Core.Bool.{Bool, true, false, cond, ◌&&◌}
use mathlib.Core.List.{List, [], ◌∷◌}
use mathlib.Core.Logic.{◌≢◌}
use native.Mathlib.Decide.{ℕ_discrete}
use native.Mathlib.Omega.{arith}
use lib.ListN.{length}
use lib.Dec.{eqb, ltb}
use borrow.Author.Tests.{lt-ltb, le-ltb}
use Rattle.rules.specs.Areas.{has, per_port, Grant}
use Rattle.rules.specs.Board.{Board, Deadline, Mask, clock, free}
use Rattle.rules.specs.Order.{count}
use Rattle.rules.specs.Tick.{is_due, withdrawn, withdrawals, returned}
use Rattle.passes.specs.Room.{occupied, used}
use Rattle.rules.proofs.BoardLaws.{Laws}
use Rattle.rules.proofs.IndexLaws.{count_same}
use Rattle.rules.proofs.Integers.{ltb_iff}
use Rattle.passes.specs.Ports.{EachPort}
use Rattle.passes.specs.Sends.{sends, Winner, sent_by}
use Rattle.passes.specs.Settling.{ports_left, mask_left, settled, missed}
use Rattle.passes.proofs.MaskPorts.{each-as, each-per_port}
use Rattle.passes.proofs.Sends.{sent_by-masked}
use Rattle.passes.proofs.SlotMasks.{masked, length-masked, get-masked, mask-masked, masked_same, masked-put}
use Rattle.passes.proofs.GivingBack.{given_back, given_back-back}
use Rattle.passes.proofs.Settling.{left-room, settled_back}

module _ (B : Board) (L : Laws B) where
  open B use {state_length, get, put}

  module _ (s : List ℕ) (sized : length s ≡ state_length) where
    -- A state with other masks has the same slots due.
    due-masked : (f : ℕ → ℕ) (i : ℕ) → i < 256 → is_due B (masked B L f s 256) i ≡ is_due B s i
    due-masked f i h = rw (get-masked B L f s sized (Deadline, i) h refl 256 (omega arith), get-masked B L f s sized clock (omega arith) refl 256 (omega arith))

    -- ---- step 4

    module _ (f : ℕ → ℕ) where
      -- The masks once the slots below k are withdrawn.
      abbrev kept : ℕ → ℕ → ℕ
      kept k j = cond (ltb j k && is_due B s j) 0 (f j)

      kept-other : (k j : ℕ) → j ≢ k → kept k j ≡ kept (suc k) j
      kept-other k j n = rw (ltb_iff j k j (suc k) (λ l. omega arith) (λ l. omega arith))

      -- Slot by slot, by whether it is due.
      withdrawn-masked : (k : ℕ) → k ≤ 256 → withdrawn B k (masked B L f s 256) ≡ masked B L (kept k) s 256
      unfolding withdrawn
      withdrawn-masked zero h = masked_same B L f (kept 0) s 256 (λ j l. rw (le-ltb j 0 (omega arith)))
      withdrawn-masked (suc k) h = rw (withdrawn-masked k (omega arith), due-masked (kept k) k h) (go (is_due B s k) refl)
        where
          here : (d : Bool) → is_due B s k ≡ d → kept (suc k) k ≡ cond d 0 (f k)
          here d e = rw (lt-ltb k (suc k) (omega arith), e)

          stays : is_due B s k ≡ false → (j : ℕ) → Dec (j ≡ k) → kept k j ≡ kept (suc k) j
          stays e j (yes q) = rw (q, here false e, le-ltb k k (omega arith))
          stays e j (no n) = kept-other k j n

          go : (d : Bool) → is_due B s k ≡ d → cond d (put (masked B L (kept k) s 256) (Mask, k) 0) (masked B L (kept k) s 256) ≡ masked B L (kept (suc k)) s 256
          go true e = rw (← here true e) (masked-put B L (kept k) (kept (suc k)) s k (kept-other k) 256 h (omega arith))
          go false e = masked_same B L (kept k) (kept (suc k)) s 256 (λ j l. stays e j (ℕ_discrete j k))

    -- ---- step 5

    -- It gives back the slots b, where these are the occupied ones without a port in x.
    module _ (x : List ℕ) (long : length x ≡ state_length) (b : ℕ → Bool) (room : get x free + count 256 b ≤ 256)
        (same : (i : ℕ) → i < 256 → (occupied B s i && eqb (get x (Mask, i)) 0) ≡ b i) where
      returned-back : (k : ℕ) → k ≤ 256 → returned B k s x ≡ given_back B b x k
      unfolding returned given_back
      returned-back zero h = refl
      returned-back (suc k) h =
          let e = (given_back-back B L b x long room k (omega arith)).keeps (Mask, k) h refl refl in
          rw (returned-back k (omega arith), e, same k h)

  -- ---- steps 3 to 5 for the grants g

  module _ (s : List ℕ) (sized : length s ≡ state_length) (g : ℕ → Grant ℕ) (wins : (p : ℕ) → p < 5 → Winner B s p (g p)) where
    abbrev l : List ℕ
    l = sends g 5

    -- The masks after step 3, and after step 4.
    third : sent_by B g 5 s ≡ masked B L (ports_left B s l) s 256
    third = sent_by-masked B L s g wins sized 5 (omega arith)

    fourth : withdrawn B 256 (sent_by B g 5 s) ≡ masked B L (mask_left B s l) s 256
    fourth =
        ap (withdrawn B 256) third ∙ withdrawn-masked s sized (ports_left B s l) 256 (omega arith)
        ∙ masked_same B L (kept s sized (ports_left B s l) 256) (mask_left B s l) s 256 (λ j h. rw (lt-ltb j 256 h))

    pub settled-steps : used B s ≤ 256 → settled B s (sends g 5) 256 ≡ returned B 256 s (withdrawn B 256 (sent_by B g 5 s))
    settled-steps room =
        settled_back B L s l sized room 256 (omega arith)
        ∙ sym (ap (returned B 256 s) fourth ∙ returned-back s sized (masked B L (mask_left B s l) s 256) (length-masked B L (mask_left B s l) s sized 256) (λ i. occupied B s i && eqb (mask_left B s l i) 0)
        (left-room B L s l sized room 256 (omega arith)) (λ i h. rw (mask-masked B L (mask_left B s l) s sized i 256 h (omega arith))) 256 (omega arith))

    -- What the pass counts is what step 4 withdraws.
    missed-withdrawals : (p : ℕ) → missed B s l 256 p ≡ withdrawals B (sent_by B g 5 s) p
    unfolding withdrawals
    missed-withdrawals p =
        rw third (count_same (λ j. has (ports_left B s l j) p && is_due B s j) _ 256 (λ j h. rw (mask-masked B L (ports_left B s l) s sized j 256 h (omega arith), due-masked s sized (ports_left B s l) j h)))

    pub counts-withdrawals : (c : List ℕ) → EachPort (missed B s (sends g 5) 256) c → c ≡ per_port (λ p. withdrawals B (sent_by B g 5 s) p ∷ [])
    counts-withdrawals c E = each-per_port (withdrawals B (sent_by B g 5 s)) c (each-as E (λ p h. missed-withdrawals p))
