-- One turn more of what is done for each port, for each slot, and for each packet stored; and the first of an early queue that moves over or does not. Assumes nothing.
use Prim.Native.Nat.{ℕ, zero, suc, ◌+◌, ◌-◌, ◌≤◌, ◌<◌}
use mathlib.Core.Path.{◌≡◌, refl, sym, ap, ◌∙◌}
use mathlib.Core.Bool.{true, false, true≢false}
use mathlib.Core.List.{List}
use native.Mathlib.Numerals.{add-one}
use native.Mathlib.Omega.{arith}
use lib.ListN.{length}
use Rattle.rules.specs.Board.{Board, Idle, Mask}
use Rattle.rules.specs.Tick.{is_early}
use Rattle.queues.specs.Table1.{before}
use Rattle.queues.specs.Area.{queues_length, queue, put_queue, size, entry, resized, inserted}
use Rattle.queues.specs.Engine.{each_port, shortened, enter, entered, received, moved_over}
use Rattle.rules.proofs.Masks.{has-zero}
use Rattle.queues.proofs.QueueLaws.{length-resized, length-put_queue, length-queue, queue-other}

-- ---- the queues of one port

-- A port's queue on time is as before when its early one gets shorter.
on-time-kept : (p : ℕ) (q q₁ : List ℕ) → q₁ ≡ shortened p true q → length q₁ ≡ queues_length → p < 5 → queue q₁ p false ≡ queue q p false
unfolding shortened
on-time-kept p q q₁ e l h =
    let x = queue q p true in
    let k : length q ≡ queues_length = sym (length-put_queue p true (resized (size x - 1) x) q) ∙ sym (ap length e) ∙ l in
    rw e (queue-other q _ p p true false (length-resized _ x ∙ length-queue q p true k h) (λ e f. true≢false f))

module _ (B : Board) (s : List ℕ) where
  open B use {get}

  -- ---- the slots

  -- An empty one enters no queue.
  enters_none : (i : ℕ) (q : List ℕ) → get s (Mask, i) ≡ 0 → (p : ℕ) → p ≤ 5 → q ≡ each_port (enter B s i) p q
  unfolding each_port
  enters_none i q e zero h = refl
  enters_none i q e (suc p) h = rw (← enters_none i q e p (omega arith), e, has-zero p (omega arith))

  pub entered-empty : (i : ℕ) (q : List ℕ) → get s (Mask, i) ≡ 0 → q ≡ entered B s i q
  entered-empty i q e = enters_none i q e 5 (omega arith)

  -- ---- the packets stored

  -- None has entered at the start.
  pub received-none : (n k : ℕ) (q : List ℕ) → k ≡ 0 → q ≡ received B s n k q
  unfolding received
  received-none n k q e = rw e

  -- The slot of the stack's entry m enters after k others.
  pub received-next : (n m k k' : ℕ) (q₀ q q' : List ℕ) → k' ≡ k + 1 → m + k' ≡ n → q ≡ received B s n k q₀ → q' ≡ entered B s (get s (Idle, m)) q → q' ≡ received B s n k' q₀
  unfolding received
  received-next n m k k' q₀ q q' h l e t =
      let j : n - suc k ≡ m = omega arith in
      rw (h, add-one k, received, j) (t ∙ ap (entered B s (get s (Idle, m))) e)

  -- ---- the first of n in the early queue of port p, slot i, with the k others

  module _ (p n k : ℕ) (q : List ℕ) (i : ℕ) (z : n ≡ k + 1) (e : i ≡ entry (queue q p true) k) where
    -- It is not early any more, and moves over.
    pub moved-more : is_early B s i ≡ false → (q₁ q₂ : List ℕ) → q₁ ≡ shortened p true q → length q₁ ≡ queues_length → p < 5
        → q₂ ≡ put_queue p false (inserted (before B s) i (queue q₁ p false)) q₁ → moved_over B s p k q₂ ≡ moved_over B s p n q
    unfolding moved_over
    moved-more t q₁ q₂ e₁ l h e₂ =
        rw (z, add-one k, moved_over, ← e, t) (ap (moved_over B s p k) (e₂ ∙ rw (on-time-kept p q q₁ e₁ l h, e₁)))

    -- It is early, and all stay.
    pub moved-done : is_early B s i ≡ true → q ≡ moved_over B s p n q
    unfolding moved_over
    moved-done t = rw (z, add-one k, moved_over, ← e, t)

  -- None is left to look at.
  pub moved-none : (p n : ℕ) (q : List ℕ) → n ≡ 0 → q ≡ moved_over B s p n q
  unfolding moved_over
  moved-none p n q h = rw h
