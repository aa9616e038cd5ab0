-- Step 3 for five ports at once: no port's grant depends on another port, so that all may choose before any leaves a mask; and what the sent masks gain, the masks
-- lose. Assumes nothing.
use Prim.Native.Nat.{ℕ, zero, suc, ◌+◌, ◌^◌, ◌<◌, ◌≤◌}
use mathlib.Core.Path.{◌≡◌, refl, sym, ap, ap₂, ◌∙◌}
use mathlib.Core.Bool.{Bool, true, false, cond}
use mathlib.Core.List.{List}
use mathlib.Core.Logic.{◌≢◌}
use mathlib.Core.Option.{Option, none, some}
use native.Mathlib.Decide.{ℕ_discrete, dec_lt}
use native.Mathlib.Omega.{arith}
use lib.Pow.{pow_pos}
use lib.ListN.{length, length-set, get_or, set, replicate}
use lib.Seq.{get_or-set_same, get_or-set_other, set_out}
use lib.IntN.{pos}
use lib.Signed.{le_z}
use Rattle.rules.specs.Areas.{has, without, per_port, Grant, nobody, best_effort, on_time, early}
use Rattle.rules.specs.Board.{Board, Horizon, Time, Deadline, Mask, clock}
use Rattle.rules.specs.Order.{least, better, Order, Key, comparator}
use Rattle.rules.specs.Tick.{granted, slot_key, candidate, grant, sent, served}
use Rattle.rules.proofs.AreaLaws.{ports_below-same}
use Rattle.rules.proofs.BoardLaws.{Laws}
use Rattle.rules.proofs.Booleans.{none-some}
use Rattle.rules.proofs.IndexLaws.{least-in}
use Rattle.passes.specs.Sends.{joined, sends, Winner, sent_by}
use Rattle.passes.specs.Settling.{ports_left}
use Rattle.passes.proofs.MaskPorts.{without-bit, has-without}
use Rattle.passes.proofs.SlotMasks.{masked, masked_same, masked-own, masked-put, get-masked, mask-masked}

-- ---- the sent masks

-- By the place.
get_or-zeros : (n j : ℕ) → ◌≡◌ {A = ℕ} (get_or (replicate n 0) j 0) 0
get_or-zeros zero j = refl
get_or-zeros (suc n) zero = refl
get_or-zeros (suc n) (suc j) = get_or-zeros n j

module _ (g : ℕ → Grant ℕ) where
  -- Before port p no sent mask has a bit as high as p's.
  pub sends-lt : (p j : ℕ) → get_or (sends g p) j 0 < 2 ^ p
  unfolding sends joined
  sends-lt zero j = let z = get_or-zeros 256 j in omega arith
  sends-lt (suc p) j = go (sends g p) (sends-lt p) (g p)
    where
      one : (l : List ℕ) → ((k : ℕ) → get_or l k 0 < 2 ^ p) → (i : ℕ) → Dec (j ≡ i) → Dec (i < length l) → get_or (set l i (get_or l i 0 + 2 ^ p)) j 0 < 2 ^ suc p
      one l h i (yes e) (yes k) = rw (e, get_or-set_same l i (get_or l i 0 + 2 ^ p) 0 k) (let q = h i in omega arith)
      one l h i (yes e) (no k) = rw (set_out l i (get_or l i 0 + 2 ^ p) (omega arith)) (let q = h j in omega arith)
      one l h i (no e) k = rw (get_or-set_other l i j (get_or l i 0 + 2 ^ p) 0 e) (let q = h j in omega arith)

      go : (l : List ℕ) → ((k : ℕ) → get_or l k 0 < 2 ^ p) → (h : Grant ℕ) → get_or (joined p h l) j 0 < 2 ^ suc p
      go l h nobody = let q = h j in omega arith
      go l h best_effort = let q = h j in omega arith
      go l h (on_time i) = one l h i (ℕ_discrete j i) (dec_lt i (length l))
      go l h (early i) = one l h i (ℕ_discrete j i) (dec_lt i (length l))

  -- There are 256.
  length-sends : (p : ℕ) → length (sends g p) ≡ 256
  unfolding sends joined
  length-sends zero = refl
  length-sends (suc p) = go (g p) ∙ length-sends p
    where
      go : (h : Grant ℕ) → length (joined p h (sends g p)) ≡ length (sends g p)
      go nobody = refl
      go best_effort = refl
      go (on_time i) = length-set (sends g p) i (get_or (sends g p) i 0 + 2 ^ p)
      go (early i) = length-set (sends g p) i (get_or (sends g p) i 0 + 2 ^ p)

-- ---- what is left of the masks

module _ (B : Board) (L : Laws B) where
  open B use {state_length, get, put}

  module _ (s : List ℕ) (g : ℕ → Grant ℕ) (wins : (p : ℕ) → p < 5 → Winner B s p (g p)) where
    abbrev left : ℕ → ℕ → ℕ
    left p = ports_left B s (sends g p)

    left-none : (j : ℕ) → left 0 j ≡ get s (Mask, j)
    unfolding sends
    left-none j = omega (arith, get_or-zeros 256 j)

    -- The sent masks once port p sends slot i.
    abbrev joins : ℕ → ℕ → List ℕ
    joins p i = set (sends g p) i (get_or (sends g p) i 0 + 2 ^ p)

    -- The port leaves what is left of that slot's mask, and of no other's.
    left_here : (p i : ℕ) → i < 256 → has (left p i) p ≡ true → ports_left B s (joins p i) i ≡ without (left p i) p
    left_here p i hi h =
        let e = length-sends g p in
        let q = without-bit (left p i) p h in
        rw (get_or-set_same (sends g p) i (get_or (sends g p) i 0 + 2 ^ p) 0 (omega arith)) (omega arith)

    left_other : (p i j : ℕ) → j ≢ i → left p j ≡ ports_left B s (joins p i) j
    left_other p i j n = rw (get_or-set_other (sends g p) i j (get_or (sends g p) i 0 + 2 ^ p) 0 n)

    -- The ports from p on are left where they were.
    left-has : (p : ℕ) → p ≤ 5 → (q : ℕ) → p ≤ q → q < 5 → (j : ℕ) → has (left p j) q ≡ has (get s (Mask, j)) q
    unfolding sends joined
    left-has zero h q l hq j = ap (λ (m : ℕ). has m q) (left-none j)
    left-has (suc p) h q l hq j = go (left-has p (omega arith)) (g p) (wins p (omega arith))
      where
        Before : Type 0
        Before = (q : ℕ) → p ≤ q → q < 5 → (j : ℕ) → has (left p j) q ≡ has (get s (Mask, j)) q

        one : Before → (i : ℕ) → (i < 256) × (has (get s (Mask, i)) p ≡ true) → Dec (j ≡ i) → has (ports_left B s (joins p i) j) q ≡ has (get s (Mask, j)) q
        one before i (hi, w) (yes e) =
            rw (e, left_here p i hi (before p (omega arith) (omega arith) i ∙ w)) (has-without (left p i) p q (omega arith) hq (λ k. omega arith) ∙ before q (omega arith) hq i)
        one before i (hi, w) (no n) = ap (λ (m : ℕ). has m q) (sym (left_other p i j n)) ∙ before q (omega arith) hq j

        go : Before → (h : Grant ℕ) → Winner B s p h → has (ports_left B s (joined p h (sends g p)) j) q ≡ has (get s (Mask, j)) q
        go before nobody w = before q (omega arith) hq j
        go before best_effort w = before q (omega arith) hq j
        go before (on_time i) w = one before i w (ℕ_discrete j i)
        go before (early i) w = one before i w (ℕ_discrete j i)

    -- No more ports send a slot than its mask has.
    pub sends-le : (p : ℕ) → p ≤ 5 → (j : ℕ) → get_or (sends g p) j 0 ≤ get s (Mask, j)
    unfolding sends joined
    sends-le zero h j = let z = get_or-zeros 256 j in omega arith
    sends-le (suc p) h j = go (sends-le p (omega arith) j) (g p) (wins p (omega arith))
      where
        one : get_or (sends g p) j 0 ≤ get s (Mask, j) → (i : ℕ) → (i < 256) × (has (get s (Mask, i)) p ≡ true) → Dec (j ≡ i) → get_or (joins p i) j 0 ≤ get s (Mask, j)
        one k i (hi, w) (yes e) =
            let n = length-sends g p in
            let q = without-bit (left p i) p (left-has p (omega arith) p (omega arith) (omega arith) i ∙ w) in
            rw (e, get_or-set_same (sends g p) i (get_or (sends g p) i 0 + 2 ^ p) 0 (omega arith)) (let m = pow_pos p in omega arith)
        one k i (hi, w) (no n) = rw (get_or-set_other (sends g p) i j (get_or (sends g p) i 0 + 2 ^ p) 0 n) k

        go : get_or (sends g p) j 0 ≤ get s (Mask, j) → (h : Grant ℕ) → Winner B s p h → get_or (joined p h (sends g p)) j 0 ≤ get s (Mask, j)
        go k nobody w = k
        go k best_effort w = k
        go k (on_time i) w = one k i w (ℕ_discrete j i)
        go k (early i) w = one k i w (ℕ_discrete j i)

    -- After step 3 the masks are what is left, and nothing else has changed.
    pub sent_by-masked : length s ≡ state_length → (p : ℕ) → p ≤ 5 → sent_by B g p s ≡ masked B L (ports_left B s (sends g p)) s 256
    unfolding sends joined sent_by sent
    sent_by-masked sized zero h = sym (masked_same B L (left 0) (λ j. get s (Mask, j)) s 256 (λ j l. left-none j) ∙ masked-own B L s 256 (omega arith))
    sent_by-masked sized (suc p) h = ap (sent B p (g p)) (sent_by-masked sized p (omega arith)) ∙ go (g p) (wins p (omega arith))
      where
        one : (i : ℕ) → (i < 256) × (has (get s (Mask, i)) p ≡ true) → let y = masked B L (left p) s 256 in put y (Mask, i) (without (get y (Mask, i)) p) ≡ masked B L (ports_left B s (joins p i)) s 256
        one i (hi, w) =
            let f = left-has p (omega arith) p (omega arith) (omega arith) i ∙ w in
            rw (mask-masked B L (left p) s sized i 256 hi (omega arith), ← left_here p i hi f)
            (masked-put B L (left p) (ports_left B s (joins p i)) s i (left_other p i) 256 hi (omega arith))

        go : (h : Grant ℕ) → Winner B s p h → sent B p h (masked B L (left p) s 256) ≡ masked B L (ports_left B s (joined p h (sends g p))) s 256
        go nobody w = refl
        go best_effort w = refl
        go (on_time i) w = one i w
        go (early i) w = one i w

  -- ---- the grants

  -- The least of the keys is one of them.
  pub winner : (s : List ℕ) (waiting p : ℕ) → Winner B s p (grant B s waiting p)
  unfolding grant granted candidate
  winner s waiting p = go (least comparator (candidate B s p) 256) refl
    where
      keyed : (t : Bool) (i : ℕ) (k : Key) → cond t (some (slot_key B s i)) none ≡ some k → t ≡ true
      keyed true i k e = refl
      keyed false i k e = none-some e

      pick : (i : ℕ) → (i < 256) × (has (get s (Mask, i)) p ≡ true) → (a b d : Bool) → Winner B s p (cond a (cond b best_effort (cond d (early i) nobody)) (on_time i))
      pick i h false b d = h
      pick i h true true d = tt
      pick i h true false true = h
      pick i h true false false = tt

      nobody-else : (b : Bool) → Winner B s p (cond b best_effort nobody)
      nobody-else true = tt
      nobody-else false = tt

      go : (v : Option (ℕ × Key)) → least comparator (candidate B s p) 256 ≡ v → Winner B s p (granted v (has waiting p) (get s (Horizon, p)))
      go none e = nobody-else (has waiting p)
      go (some (i, k)) e =
          let h = least-in comparator (candidate B s p) 256 i k e in
          pick i (h.0, keyed (has (get s (Mask, i)) p) i k h.1) k.early (has waiting p) (le_z k.key (pos (get s (Horizon, p))))

  -- Equal keys have one least.
  least-cong : {A : Type 0} (less : Order A) (f g : ℕ → Option A) (n : ℕ) → ((i : ℕ) → i < n → f i ≡ g i) → least less f n ≡ least less g n
  unfolding least
  least-cong less f g zero h = refl
  least-cong less f g (suc n) h = ap₂ (λ (v : Option (ℕ × _)) (x : Option _). better less v n x) (least-cong less f g n (λ i l. h i (omega arith))) (h n (omega arith))

  module _ (s : List ℕ) (sized : length s ≡ state_length) (waiting : ℕ) where
    -- Port q looks at its own bit of the masks only.
    grant-masked : (f : ℕ → ℕ) (q : ℕ) → q < 5 → ((j : ℕ) → has (f j) q ≡ has (get s (Mask, j)) q) → grant B (masked B L f s 256) waiting q ≡ grant B s waiting q
    unfolding grant candidate slot_key
    grant-masked f q hq h =
        rw (least-cong comparator (candidate B (masked B L f s 256) q) (candidate B s q) 256 same, get-masked B L f s sized (Horizon, q) hq refl 256 (omega arith))
      where
        same : (i : ℕ) → i < 256 → candidate B (masked B L f s 256) q i ≡ candidate B s q i
        same i l =
            rw (
              mask-masked B L f s sized i 256 l (omega arith),
              h i,
              get-masked B L f s sized (Time, i) l refl 256 (omega arith),
              get-masked B L f s sized (Deadline, i) l refl 256 (omega arith),
              get-masked B L f s sized clock (omega arith) refl 256 (omega arith),
            )

    -- The grants before step 3.
    abbrev grants : ℕ → Grant ℕ
    grants = grant B s waiting

    grant-sent_by : (p q : ℕ) → p ≤ q → q < 5 → grant B (sent_by B grants p s) waiting q ≡ grant B s waiting q
    grant-sent_by p q h hq =
        rw (sent_by-masked s grants (λ p l. winner s waiting p) sized p (omega arith))
        (grant-masked (ports_left B s (sends grants p)) q hq (left-has s grants (λ p l. winner s waiting p) p (omega arith) q h hq))

    -- So steps 2 and 3 port after port are step 3 with these grants, and the ports in turn are granted what they would be before.
    served-sent_by : (p : ℕ) → p ≤ 5 → served B p waiting s ≡ sent_by B grants p s
    unfolding served sent_by
    served-sent_by zero h = refl
    served-sent_by (suc p) h = rw (served-sent_by p (omega arith), grant-sent_by p p (omega arith) h)

    grant-served : (p : ℕ) → p < 5 → grant B (served B p waiting s) waiting p ≡ grant B s waiting p
    grant-served p h = rw (served-sent_by p (omega arith)) (grant-sent_by p p (omega arith) h)

    -- ---- grants that are the definition's, whoever chose them

    module _ (g : ℕ → Grant ℕ) (same : (p : ℕ) → p < 5 → g p ≡ grant B s waiting p) where
      -- They win.
      pub granted-wins : (p : ℕ) → p < 5 → Winner B s p (g p)
      granted-wins p h = rw (same p h) (winner s waiting p)

      -- Step 3 with them is steps 2 and 3.
      same-sent_by : (p : ℕ) → p ≤ 5 → sent_by B g p s ≡ sent_by B grants p s
      unfolding sent_by
      same-sent_by zero h = refl
      same-sent_by (suc p) h = rw (same-sent_by p (omega arith), same p h)

      pub granted-served : sent_by B g 5 s ≡ served B 5 waiting s
      granted-served = same-sent_by 5 (omega arith) ∙ sym (served-sent_by 5 (omega arith))

      -- What each port makes of its grant.
      pub granted-ports : (F : Grant ℕ → List ℕ) → per_port (λ p. F (g p)) ≡ per_port (λ p. F (grant B (served B p waiting s) waiting p))
      granted-ports F = ports_below-same (λ p. F (g p)) (λ p. F (grant B (served B p waiting s) waiting p)) 5 (λ p h. ap F (same p h ∙ sym (grant-served p h)))
