-- The part of the queues area that holds one queue is that queue, and the area with a function's result in the part's place is the area with that queue stored. Assumes nothing.
use Prim.Native.Nat.{ℕ, ◌+◌, ◌-◌, ◌≤◌}
use mathlib.Core.Path.{◌≡◌, sym, ap, ◌∙◌}
use mathlib.Core.Bool.{Bool}
use mathlib.Core.List.{List, ◌++◌, append_assoc}
use native.Mathlib.Omega.{arith}
use lib.ListN.{length, take, drop, length-take, length-drop}
use lib.Seq.{sets, sets-eq, drop-drop}
use Rattle.queues.specs.Area.{queue_at, queue, put_queue}

-- The queue of the port p and the sort e, from a to b.
module _ (p : ℕ) (e : Bool) (a b : ℕ) (ea : a ≡ queue_at p e) (eb : b ≡ a + 258) where
  -- The part is the queue.
  pub part-queue : (q : List ℕ) → take (b - a) (drop a q) ≡ queue q p e
  unfolding queue
  part-queue q = let k : b - a ≡ 258 = omega arith in rw (k, ea)

  -- Another, y, in its place.
  part-stored : (q y : List ℕ) → length y ≡ 258 → b ≤ length q → take a q ++ (y ++ drop (b - a) (drop a q)) ≡ put_queue p e y q
  unfolding put_queue
  part-stored q y l h =
      let k : b - a ≡ 258 = omega arith in
      let s = sets-eq y q a (rw l (omega arith)) in
      rw (k, drop-drop 258 a q, ← append_assoc (take a q) y (drop (a + 258) q)) (sym (rw l at s)) ∙ ap (λ (a : ℕ). sets q a y) ea

  -- The part changed by f.
  pub part-changed : (q : List ℕ) → length q ≡ 2580 → b ≤ 2580 → (f : List ℕ → List ℕ) (y : List ℕ) → y ≡ f (take (b - a) (drop a q)) → length y ≡ length (take (b - a) (drop a q))
      → take a q ++ (y ++ drop (b - a) (drop a q)) ≡ put_queue p e (f (queue q p e)) q
  part-changed q l h f y ey ly =
      let n : length y ≡ 258 = omega (arith, ly, length-take {A = ℕ}, length-drop {A = ℕ}) in
      part-stored q y n (omega arith) ∙ ap (λ (x : List ℕ). put_queue p e x q) (ey ∙ ap f (part-queue q))
