-- The bytes of a queue as a list of slots, and the queues of the area: a store into one leaves the others. By the entries, one after the other. Assumes nothing.
use Prim.Native.Nat.{ℕ, zero, suc, ◌+◌, ◌-◌, ◌/◌, ◌%◌, ◌<◌, ◌≤◌}
use mathlib.Core.Path.{◌≡◌, refl, ap, ap₂, ◌∙◌}
use mathlib.Core.Bool.{Bool, true, false, cond}
use mathlib.Core.Logic.{◌≢◌}
use mathlib.Core.List.{List, [], ◌∷◌}
use native.Mathlib.Nat.{div-add-mod'}
use native.Mathlib.Omega.{arith}
use lib.ListN.{length, drop, set, replicate, length-drop, length-set, get_or-replicate}
use lib.Seq.{length-sets, length-take-le, get_or-set_same, get_or-set_other, get_or-take, get_or-drop}
use lib.Dec.{ltb}
use borrow.Author.Tests.{lt-ltb}
use Rattle.rules.specs.Order.{Order, counted, top_first}
use Rattle.rules.specs.Areas.{byte}
use Rattle.rules.proofs.AreaLaws.{part_same, part-other}
use Rattle.rules.proofs.StateLaws.{top_first-same, length-top_first}
use Rattle.queues.specs.Area.{queue_length, queues_length, queue_at, queue, put_queue, size, entry, in_queue, resized, put_entry, placed, inserted, rest}
use Rattle.queues.proofs.ListLaws.{place, dropped}

-- ---- lengths

-- Stores keep the length of a queue.
pub length-resized : (n : ℕ) (x : List ℕ) → length (resized n x) ≡ length x
unfolding resized
length-resized n x = simp length-set

length-put_entry : (x : List ℕ) (j i : ℕ) → length (put_entry x j i) ≡ length x
unfolding put_entry
length-put_entry x j i = length-set x (2 + j) i

length-placed : (less : Order ℕ) (i n : ℕ) (x : List ℕ) → length (placed less i n x) ≡ length x
unfolding placed
length-placed less i zero x = length-put_entry x 0 i
length-placed less i (suc n) x = go (less (entry x n) i) (length-placed less i n (put_entry x (suc n) (entry x n)) ∙ length-put_entry x (suc n) (entry x n))
  where
    go : (t : Bool) → length (placed less i n (put_entry x (suc n) (entry x n))) ≡ length x → length (cond t (placed less i n (put_entry x (suc n) (entry x n))) (put_entry x (suc n) i)) ≡ length x
    go true e = e
    go false e = length-put_entry x (suc n) i

pub length_inserted : (less : Order ℕ) (i : ℕ) (x : List ℕ) → length (inserted less i x) ≡ length x
unfolding inserted
length_inserted less i x = go (ltb (size x) 256)
  where
    go : (t : Bool) → length (cond t (resized (size x + 1) (placed less i (size x) x)) x) ≡ length x
    go true = length-resized (size x + 1) (placed less i (size x) x) ∙ length-placed less i (size x) x
    go false = refl

-- And of the area.
pub length-put_queue : (p : ℕ) (e : Bool) (x q : List ℕ) → length (put_queue p e x q) ≡ length q
unfolding put_queue
length-put_queue p e x q = length-sets q (queue_at p e) x

-- ---- the queues of the area

-- The two sorts count for less than two, and differ.
pub counted-small : (e : Bool) → counted e < 2
unfolding counted
counted-small true = omega arith
counted-small false = omega arith

counted_same : (e e' : Bool) → counted e ≡ counted e' → e ≡ e'
unfolding counted
counted_same true true h = refl
counted_same true false h = absurd (omega arith)
counted_same false true h = absurd (omega arith)
counted_same false false h = refl

-- A queue of the area has its length.
pub length-queue : (q : List ℕ) (p : ℕ) (e : Bool) → length q ≡ queues_length → p < 5 → length (queue q p e) ≡ queue_length
unfolding queue
length-queue q p e sized l = length-take-le 258 (drop (queue_at p e) q) (omega (arith, length-drop (queue_at p e) q, counted-small e))

-- The queue stored is there.
pub queue-same : (q x : List ℕ) (p : ℕ) (e : Bool) → length q ≡ queues_length → p < 5 → length x ≡ queue_length → queue (put_queue p e x q) p e ≡ x
unfolding queue put_queue
queue-same q x p e sized l h = part_same q x (queue_at p e) 258 h (omega (arith, counted-small e))

-- Any other is as before.
pub queue-other : (q x : List ℕ) (p p' : ℕ) (e e' : Bool) → length x ≡ queue_length → (p ≡ p' → e ≡ e' → ⊥) → queue (put_queue p e x q) p' e' ≡ queue q p' e'
unfolding queue put_queue
queue-other q x p p' e e' h n =
    part-other q x (queue_at p e) (queue_at p' e') 258 (λ k l hk hl z.
    let a = counted-small e in
    let b = counted-small e' in
    n (omega arith) (counted_same e e' (omega arith)))

-- ---- one queue

-- It has as many slots as its size says.
pub length-in_queue : (x : List ℕ) → length (in_queue x) ≡ size x
unfolding in_queue
length-in_queue x = length-top_first (entry x) (size x)

-- A queue of no slots, and one with a first.
pub in_queue-none : (x : List ℕ) → size x ≡ 0 → in_queue x ≡ []
unfolding in_queue top_first
in_queue-none x e = ap (top_first (entry x)) e

pub in_queue-first : (x : List ℕ) (n : ℕ) → size x ≡ suc n → in_queue x ≡ entry x n ∷ top_first (entry x) n
unfolding in_queue top_first
in_queue-first x n e = ap (top_first (entry x)) e

-- The size stored is there.
pub size-resized : (n : ℕ) (x : List ℕ) → 2 ≤ length x → size (resized n x) ≡ n
unfolding size resized
size-resized n [] h = absurd (omega arith)
size-resized n (a ∷ []) h = absurd (omega arith)
size-resized n (a ∷ b ∷ x) h = div-add-mod' n 256

-- The entries are as before.
entry-resized : (n : ℕ) (x : List ℕ) (j : ℕ) → entry (resized n x) j ≡ entry x j
unfolding entry resized
entry-resized n x j = get_or-set_other (set x 0 (n / 256)) 1 (2 + j) (n % 256) 0 (λ e. absurd (omega arith)) ∙ get_or-set_other x 0 (2 + j) (n / 256) 0 (λ e. absurd (omega arith))

-- The entry stored is there.
entry-same : (x : List ℕ) (j i : ℕ) → 2 + j < length x → entry (put_entry x j i) j ≡ i
unfolding entry put_entry
entry-same x j i h = get_or-set_same x (2 + j) i 0 h

-- Any other is as before.
entry_other : (x : List ℕ) (j i k : ℕ) → k ≢ j → entry (put_entry x j i) k ≡ entry x k
unfolding entry put_entry
entry_other x j i k n = get_or-set_other x (2 + j) (2 + k) i 0 (λ e. n (omega arith))

-- Once n is stored as its size, its slots are those of the last n entries.
in_queue-resized : (n : ℕ) (x : List ℕ) → 2 ≤ length x → in_queue (resized n x) ≡ top_first (entry x) n
unfolding in_queue
in_queue-resized n x h = ap (top_first (entry (resized n x))) (size-resized n x h) ∙ top_first-same (entry (resized n x)) (entry x) n (λ j l. entry-resized n x j)

-- ---- a slot comes in

module _ (less : Order ℕ) (i : ℕ) where
  -- Among the last n entries, the entries after these stay.
  placed-above : (n : ℕ) (x : List ℕ) (k : ℕ) → n < k → entry (placed less i n x) k ≡ entry x k
  unfolding placed
  placed-above zero x k h = entry_other x 0 i k (λ e. absurd (omega arith))
  placed-above (suc n) x k h = go (less (entry x n) i) (placed-above n (put_entry x (suc n) (entry x n)) k (omega arith))
    where
      go : (t : Bool) → entry (placed less i n (put_entry x (suc n) (entry x n))) k ≡ entry (put_entry x (suc n) (entry x n)) k → entry (cond t (placed less i n (put_entry x (suc n) (entry x n))) (put_entry x (suc n) i)) k ≡ entry x k
      go true e = e ∙ entry_other x (suc n) (entry x n) k (λ e. absurd (omega arith))
      go false e = entry_other x (suc n) i k (λ e. absurd (omega arith))

  -- It comes to its place in their list.
  placed-places : (n : ℕ) (x : List ℕ) → 2 + n < length x → top_first (entry (placed less i n x)) (suc n) ≡ place less i (top_first (entry x) n)
  unfolding placed place top_first
  placed-places zero x h = ap (λ (k : ℕ). k ∷ []) (entry-same x 0 i h)
  placed-places (suc n) x h = go (less (entry x n) i) (placed-places n y (omega (arith, length-put_entry x (suc n) (entry x n))))
    where
      -- The first of them moved up.
      y : List ℕ
      y = put_entry x (suc n) (entry x n)

      below : (k : ℕ) → top_first (entry (put_entry x (suc n) k)) n ≡ top_first (entry x) n
      below k = top_first-same (entry (put_entry x (suc n) k)) (entry x) n (λ j l. entry_other x (suc n) k j (λ e. absurd (omega arith)))

      go : (t : Bool) → top_first (entry (placed less i n y)) (suc n) ≡ place less i (top_first (entry y) n)
          → top_first (entry (cond t (placed less i n y) (put_entry x (suc n) i))) (suc (suc n)) ≡ cond t (entry x n ∷ place less i (top_first (entry x) n)) (i ∷ entry x n ∷ top_first (entry x) n)
      go true r = ap₂ (λ (k : ℕ) (l : List ℕ). k ∷ l) (placed-above n y (suc n) (omega arith) ∙ entry-same x (suc n) (entry x n) h) (r ∙ ap (place less i) (below (entry x n)))
      go false r = ap₂ (λ (k : ℕ) (l : List ℕ). k ∷ l) (entry-same x (suc n) i h) (ap₂ (λ (k : ℕ) (l : List ℕ). k ∷ l) (entry_other x (suc n) i n (λ e. absurd (omega arith))) (below i))

  -- It comes to its place in the queue, if there is room.
  pub inserted-places : (x : List ℕ) → length x ≡ queue_length → size x < 256 → in_queue (inserted less i x) ≡ place less i (in_queue x)
  unfolding inserted in_queue
  inserted-places x sized h = rw (lt-ltb (size x) 256 h) (go (omega arith))
    where
      go : size x + 1 ≡ suc (size x) → in_queue (resized (size x + 1) (placed less i (size x) x)) ≡ place less i (in_queue x)
      go e = in_queue-resized (size x + 1) (placed less i (size x) x) (omega (arith, length-placed less i (size x) x)) ∙ rw e (placed-places (size x) x (omega arith))

  -- There is one more.
  pub size-inserted : (x : List ℕ) → length x ≡ queue_length → size x < 256 → size (inserted less i x) ≡ size x + 1
  unfolding inserted
  size-inserted x sized h = rw (lt-ltb (size x) 256 h) (size-resized (size x + 1) (placed less i (size x) x) (omega (arith, length-placed less i (size x) x)))

-- ---- slots leave

-- A list without its first.
abbrev pub others : List ℕ → List ℕ
others [] = []
others (i ∷ l) = l

module _ (x : List ℕ) (sized : length x ≡ queue_length) where
  -- The first leaves, if there is one.
  pub shortened-others : in_queue (resized (size x - 1) x) ≡ others (in_queue x)
  unfolding in_queue top_first
  shortened-others = in_queue-resized (size x - 1) x (omega arith) ∙ go (size x)
    where
      go : (n : ℕ) → top_first (entry x) (n - 1) ≡ others (top_first (entry x) n)
      go zero = refl
      go (suc n) = let e : suc n - 1 ≡ n = omega arith in rw e

  pub shortened-rest : (i : ℕ) (l : List ℕ) → in_queue x ≡ i ∷ l → in_queue (resized (size x - 1) x) ≡ l
  shortened-rest i l e = shortened-others ∙ ap others e

  -- The first ones that pass leave.
  pub rest-dropped : (f : ℕ → Bool) → in_queue (resized (rest f x (size x)) x) ≡ dropped f (in_queue x)
  unfolding in_queue rest dropped top_first
  rest-dropped f = in_queue-resized (rest f x (size x)) x (omega arith) ∙ go (size x)
    where
      go : (n : ℕ) → top_first (entry x) (rest f x n) ≡ dropped f (top_first (entry x) n)
      go zero = refl
      go (suc n) = cases (f (entry x n)) (go n)
        where
          cases : (t : Bool) → top_first (entry x) (rest f x n) ≡ dropped f (top_first (entry x) n)
              → top_first (entry x) (cond t (rest f x n) (suc n)) ≡ cond t (dropped f (top_first (entry x) n)) (entry x n ∷ top_first (entry x) n)
          cases true e = e
          cases false e = refl

-- ---- empty queues

module _ (p : ℕ) (e : Bool) (h : p < 5) where
  zeros : (k : ℕ) → k < 258 → byte (queue (replicate queues_length 0) p e) k ≡ 0
  unfolding queue
  zeros k l =
      get_or-take 258 (drop (queue_at p e) (replicate 2580 0)) k 0 l ∙ get_or-drop (queue_at p e) (replicate 2580 0) k 0
      ∙ get_or-replicate 2580 (queue_at p e + k) 0 0 (omega (arith, counted-small e))
