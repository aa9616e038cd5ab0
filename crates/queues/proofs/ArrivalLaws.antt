-- Slots enter the queues: filled from a state they hold what waits there, and after step 1 of a tick what waits then, since a stored packet takes a slot that waited for no port and
-- changes no other slot. By one slot after the other. Assumes nothing.
use Prim.Native.Nat.{ℕ, zero, suc, ◌+◌, ◌-◌, ◌*◌, ◌<◌, ◌≤◌}
use mathlib.Core.Path.{◌≡◌, refl, sym, ap, ap₂, ◌∙◌}
use mathlib.Core.Bool.{Bool, true, false, cond, not, ◌&&◌, ◌||◌, beq, true≢false, and-true, and-false, or-false}
use mathlib.Core.List.{List, []}
use native.Mathlib.Decide.{ℕ_discrete, dec_lt}
use native.Mathlib.Omega.{arith}
use lib.ListN.{length, take, drop, replicate, get_or-replicate}
use lib.Seq.{get_or-take, get_or-drop}
use lib.Dec.{ltb, eqb}
use borrow.Author.Tests.{eq-eqb, ne_eqb, lt-ltb, le-ltb}
use Rattle.rules.specs.Order.{count, counted, top_first}
use Rattle.rules.specs.Areas.{Store, byte, has, elem}
use Rattle.rules.specs.Board.{Board, Idle, Mask, free}
use Rattle.rules.specs.Tick.{arrived, is_early, slot_key}
use Rattle.rules.specs.Whole.{Router}
use Rattle.rules.proofs.BoardLaws.{Laws}
use Rattle.rules.proofs.Booleans.{and_left}
use Rattle.rules.proofs.Integers.{ltb_iff}
use Rattle.rules.proofs.Masks.{has-zero}
use Rattle.rules.proofs.OrderLaws.{fails}
use Rattle.rules.proofs.WholeLaws.{elem-first, elem-other}
use Rattle.rules.proofs.IndexLaws.{count-change, counted-true, counted-false}
use Rattle.rules.proofs.Soundness.{elem_at, at-elem}
use Rattle.rules.proofs.Good.{Good}
use Rattle.rules.proofs.Relation.{Untouched, Rel}
use Rattle.any_state.proofs.Taking.{Taken, stack-sound, addresses, arrivals-taken}
use Rattle.passes.proofs.Counting.{count-at-most}
use Rattle.queues.specs.Table1.{before, waits, Lists, Holds}
use Rattle.queues.specs.Area.{queues_length, queue_at, queue, size, in_queue}
use Rattle.queues.specs.Engine.{entered, filled, received}
use Rattle.queues.proofs.ListLaws.{place, lists-none, lists-as, lists-same, lists-place, length-lists}
use Rattle.queues.proofs.BeforeLaws.{strict-before, total-before, before_same}
use Rattle.queues.proofs.ChoiceLaws.{waits-slot}
use Rattle.queues.proofs.QueueLaws.{length-in_queue}
use Rattle.queues.proofs.EngineLaws.{held, entered-held, length-filled, length-received}

-- Where an index fails, not all are counted.
count-short : (f : ℕ → Bool) (i k : ℕ) → i < k → f i ≡ false → count k f < k
count-short f i k l e =
    let h = count-change f (λ j. f j || eqb j i) i k l (λ j n. sym (rw (ne_eqb j i n) (or-false (f j)))) in
    let a : counted (f i || eqb i i) ≡ 1 = rw (e, eq-eqb i i refl) counted-true in
    let b : counted (f i) ≡ 0 = ap counted e ∙ counted-false in
    let m = count-at-most (λ j. f j || eqb j i) k in
    omega arith

-- A queue of zeros is empty.
zeros-empty : (p : ℕ) → p < 5 → (e : Bool) → in_queue (queue (replicate queues_length 0) p e) ≡ []
unfolding in_queue queue size top_first counted
zeros-empty p h e = ap (top_first _) (ap₂ (λ (a b : ℕ). a * 256 + b) (zero-at 0 (omega arith)) (zero-at 1 (omega arith)))
  where
    within : (j : ℕ) → j < 258 → (e : Bool) → queue_at p e + j < queues_length
    within j l true = omega arith
    within j l false = omega arith

    zero-at : (j : ℕ) → j < 258 → byte (take 258 (drop (queue_at p e) (replicate queues_length 0))) j ≡ 0
    zero-at j l =
        get_or-take 258 (drop (queue_at p e) (replicate queues_length 0)) j 0 l ∙ get_or-drop (queue_at p e) (replicate queues_length 0) j 0
        ∙ get_or-replicate queues_length (queue_at p e + j) 0 0 (within j l e)

-- ---- slots enter the queues of a state

module _ (B : Board) (s : List ℕ) where
  open B use {get}

  -- The queue of port p and the sort e has exactly the slots that pass the test for them, in the comparator's order.
  abbrev AllList : (ℕ → Bool → ℕ → Bool) → List ℕ → Type 0
  AllList test q = (p : ℕ) → p < 5 → (e : Bool) → Lists (before B s) (test p e) (held q p e)

  -- A slot that is in no queue enters those that it waits for.
  entered-lists : {test : ℕ → Bool → ℕ → Bool} (q : List ℕ) → length q ≡ queues_length → AllList test q → ((p : ℕ) (e : Bool) (j : ℕ) → test p e j ≡ true → j < 256)
      → (i : ℕ) → i < 256 → ((p : ℕ) → p < 5 → (e : Bool) → test p e i ≡ false) → AllList (λ p e j. test p e j || (waits B s p e i && eqb j i)) (entered B s i q)
  unfolding waits
  entered-lists {test} q sized A small i l new p h e =
      let n = sym (length-in_queue (queue q p e)) ∙ length-lists (strict-before B s) (A p h e) (small p e) in
      let m = count-short (test p e) i 256 l (new p h e) in
      rw (entered-held B s i q sized p h e (omega arith), lt-ltb i 256 l) (go (has (get s (Mask, i)) p && beq (is_early B s i) e))
    where
      go : (t : Bool) → Lists (before B s) (λ j. test p e j || (t && eqb j i)) (cond t (place (before B s) i (held q p e)) (held q p e))
      go true = lists-place (strict-before B s) (total-before B s) (A p h e) i (new p h e)
      go false = lists-same (A p h e) (λ j. sym (or-false (test p e j)))

  -- The slots below n have entered.
  filled-lists : (n : ℕ) → n ≤ 256 → AllList (λ p e j. waits B s p e j && ltb j n) (filled B s n)
  unfolding filled
  filled-lists zero h p l e = rw (zeros-empty p l e) (lists-none (λ j. rw (le-ltb j 0 (omega arith)) (and-false (waits B s p e j))))
  filled-lists (suc n) h p l e =
      lists-same
      (entered-lists (filled B s n) (length-filled B s n) (filled-lists n (omega arith)) (λ p e j t. (waits-slot B s p e j (and_left (waits B s p e j) (ltb j n) t)).0) n h
      (λ p l e. rw (le-ltb n n (omega arith)) (and-false (waits B s p e n))) p l e)
      (λ j. next j (ℕ_discrete j n))
    where
      next : (j : ℕ) → Dec (j ≡ n) → ((waits B s p e j && ltb j n) || (waits B s p e n && eqb j n)) ≡ (waits B s p e j && ltb j (suc n))
      next j (yes d) = rw (d, le-ltb n n (omega arith), eq-eqb n n refl, lt-ltb n (suc n) (omega arith), and-false (waits B s p e n))
      next j (no d) = rw (ne_eqb j n d, and-false (waits B s p e n), or-false (waits B s p e j && ltb j n), ltb_iff j (suc n) j n (omega arith) (omega arith))

  -- Filled from a state, every queue holds what it should.
  pub filled-holds : (p : ℕ) → p < 5 → (e : Bool) → Holds B s p e (in_queue (queue (filled B s 256) p e))
  filled-holds p l e = lists-same (filled-lists 256 (omega arith) p l e) (λ j. go j (waits B s p e j) refl)
    where
      go : (j : ℕ) (t : Bool) → waits B s p e j ≡ t → (t && ltb j 256) ≡ t
      go j true w = lt-ltb j 256 (waits-slot B s p e j w).0
      go j false w = refl

-- ---- step 1

module _ (B : Board) (L : Laws B) where
  open B use {clock_bytes as c, state_length, get}

  -- Such a slot has its key, and waits as it did.
  module _ {r r' : Store} (T : Taken B L r r') {i : ℕ} (S : Untouched B L r r' i) where
    key-same : slot_key B r.state i ≡ slot_key B r'.state i
    unfolding slot_key
    key-same = rw (S.time, S.deadline, T.clock)

    waits-same : (p : ℕ) (e : Bool) → waits B r.state p e i ≡ waits B r'.state p e i
    unfolding waits
    waits-same p e = rw (S.mask, S.time, T.clock)

  module _ {r : Store} {w : Router} (R : Rel B L r w) (G : Good c w) where
    abbrev s : List ℕ
    s = r.state

    -- The masks of the stack's entries are 0.
    entry-empty : (j : ℕ) → j < get r.state free → get r.state (Mask, get r.state (Idle, j)) ≡ 0
    entry-empty j l = (stack-sound B L R G).idle_empty (get s (Idle, j)) j (addresses B L R G j l) l refl

    module _ (arriving : ℕ) (area : List ℕ) (whole : length area ≡ 100) where
      -- ---- the packets of step 1 come in

      abbrev r₅ : Store
      r₅ = arrived B 5 arriving area r

      abbrev s₅ : List ℕ
      s₅ = r₅.state

      abbrev n₀ : ℕ
      n₀ = get s free

      abbrev n₅ : ℕ
      n₅ = get s₅ free

      T : Taken B L r r₅
      T = arrivals-taken B L R G arriving area whole 5 (omega arith)

      -- The entries that were taken, from the lowest on; they enter from the highest on, and a slot is pending while it is among the x lowest, which are still to enter.
      abbrev taken : ℕ → ℕ
      taken j = get s (Idle, n₅ + j)

      abbrev pending : ℕ → ℕ → Bool
      pending x j = elem j (top_first taken x)

      -- A slot that was not taken is as it was.
      kept : (i : ℕ) → i < 256 → pending (n₀ - n₅) i ≡ false → Untouched B L r r₅ i
      kept i l e = T.others i l (λ j a b q.
          let z : n₅ + (j - n₅) ≡ j = omega arith in
          true≢false (sym (elem_at taken i (n₀ - n₅) (j - n₅) (omega arith) (ap (λ (k : ℕ). get s (Idle, k)) z ∙ q)) ∙ e))

      -- One that was taken waited for no port.
      taken-waits : (p : ℕ) → p < 5 → (e : Bool) (i : ℕ) → pending (n₀ - n₅) i ≡ true → waits B s p e i ≡ false
      unfolding waits
      taken-waits p h e i a =
          let (j, l, q) = at-elem taken i (n₀ - n₅) a in
          let z : get s (Mask, i) ≡ 0 = ap (λ (k : ℕ). get s (Mask, k)) (sym q) ∙ entry-empty (n₅ + j) (omega arith) in
          rw (z, has-zero p h) (and-false (ltb i 256))

      -- What waited is as it was.
      waited : (p : ℕ) → p < 5 → (e : Bool) (i : ℕ) → waits B s p e i ≡ true → Untouched B L r r₅ i
      waited p h e i a = kept i (waits-slot B s p e i a).0 (fails (pending (n₀ - n₅) i) (λ t. true≢false (sym a ∙ taken-waits p h e i t)))

      -- So what waited is what waits now and was not taken.
      waits-now : (p : ℕ) → p < 5 → (e : Bool) (i : ℕ) → waits B s p e i ≡ (waits B s₅ p e i && not (pending (n₀ - n₅) i))
      unfolding waits
      waits-now p h e i = go (pending (n₀ - n₅) i) refl (dec_lt i 256)
        where
          go : (t : Bool) → pending (n₀ - n₅) i ≡ t → Dec (i < 256) → waits B s p e i ≡ (waits B s₅ p e i && not t)
          go true a d = taken-waits p h e i a ∙ sym (and-false (waits B s₅ p e i))
          go false a (yes l) = waits-same T (kept i l a) p e ∙ sym (and-true (waits B s₅ p e i))
          go false a (no n) = rw (le-ltb i 256 (omega arith))

      -- An entry stands on the stack once.
      once : (x : ℕ) → x < n₀ - n₅ → pending x (taken x) ≡ false
      once x h = fails (pending x (taken x)) (λ a. let (j, l, q) = at-elem taken (taken x) x a in (stack-sound B L R G).different (n₅ + j) (n₅ + x) (omega arith) (omega arith) q)

      module _ (q : List ℕ) (sized : length q ≡ queues_length) (holds : (p : ℕ) → p < 5 → (e : Bool) → Holds B r.state p e (in_queue (queue q p e))) where
        -- k of them have entered, and x are to enter.
        received-lists : (k x : ℕ) → k + x ≡ n₀ - n₅ → AllList B s₅ (λ p e j. waits B s₅ p e j && not (pending x j)) (received B s₅ n₀ k q)
        unfolding received top_first
        received-lists zero x m p h e =
            let z : x ≡ n₀ - n₅ = omega arith in
            rw z (lists-as (holds p h e) (waits-now p h e) (λ i j a b. before_same B s s₅ i j (key-same T (waited p h e i a)) (key-same T (waited p h e j b))))
        received-lists (suc k) x m p h e =
            let z : n₀ - suc k ≡ n₅ + x = let f = T.fewer in omega arith in
            let i : get s₅ (Idle, n₀ - suc k) ≡ taken x = ap (λ (j : ℕ). get s₅ (Idle, j)) z ∙ T.entries (n₅ + x) (let l = (stack-sound B L R G).count in omega arith) in
            rw i
            (lists-same
            (entered-lists B s₅ (received B s₅ n₀ k q) (length-received B s₅ n₀ k q sized) (received-lists k (suc x) (omega arith)) (λ p e j t. (waits-slot B s₅ p e j (and_left (waits B s₅ p e j) (not (pending (suc x) j)) t)).0)
            (taken x) (addresses B L R G (n₅ + x) (omega arith)) (λ p h e. rw (elem-first (taken x) (top_first taken x)) (and-false (waits B s₅ p e (taken x)))) p h e)
            (λ j. next j (ℕ_discrete j (taken x))))
          where
            next : (j : ℕ) → Dec (j ≡ taken x) → ((waits B s₅ p e j && not (pending (suc x) j)) || (waits B s₅ p e (taken x) && eqb j (taken x))) ≡ (waits B s₅ p e j && not (pending x j))
            next j (yes d) = rw (d, elem-first (taken x) (top_first taken x), eq-eqb (taken x) (taken x) refl, and-false (waits B s₅ p e (taken x)), once x (omega arith))
            next j (no d) = rw (elem-other (taken x) j (top_first taken x) d, ne_eqb j (taken x) d, and-false (waits B s₅ p e (taken x))) (or-false (waits B s₅ p e j && not (pending x j)))

        -- Once all have entered, every queue holds what it should.
        pub received-holds : (p : ℕ) → p < 5 → (e : Bool)
            → let s₅ = (arrived B 5 arriving area r).state in
            let n = get r.state free in
            Holds B s₅ p e (in_queue (queue (received B s₅ n (n - get s₅ free) q) p e))
        unfolding top_first elem
        received-holds p h e = lists-same (received-lists (n₀ - n₅) 0 (omega arith) p h e) (λ j. and-true (waits B s₅ p e j))
