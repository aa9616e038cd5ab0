-- The queues area, 2,580 bytes: for each port its on-time queue, then its early one, each of 258 bytes: how many slots are in it, high byte first, then 256 entries.
-- As on the idle-address stack, the first of n is entry n - 1, and what stands from entry n on is no part of the queue. Assumes nothing.
use Rattle.std.specs.Prelude.{ℕ, zero, suc, ◌+◌, ◌*◌, ◌/◌, ◌%◌, Bool, cond, List, take, drop, set, ltb}
use Rattle.std.proofs.lemmas.List.Edits.{sets}
use Rattle.rules.specs.Order.{Order, counted, top_first}
use Rattle.rules.specs.Areas.{byte}

abbrev pub queue_length : ℕ
queue_length = 258

abbrev pub queues_length : ℕ
queues_length = 2580

-- Where the queue of port p stands, the early one if e.
abbrev pub queue_at : ℕ → Bool → ℕ
queue_at p e = queue_length * (2 * p + counted e)

-- Its bytes, and the area with these stored.
unfoldable pub queue : List ℕ → ℕ → Bool → List ℕ
queue q p e = take queue_length (drop (queue_at p e) q)

unfoldable pub put_queue : ℕ → Bool → List ℕ → List ℕ → List ℕ
put_queue p e x q = sets q (queue_at p e) x

-- ---- one queue x

-- How many slots are in it, and entry j.
unfoldable pub size : List ℕ → ℕ
size x = byte x 0 * 256 + byte x 1

unfoldable pub entry : List ℕ → ℕ → ℕ
entry x j = byte x (2 + j)

-- The slots in it, first ones first.
unfoldable pub in_queue : List ℕ → List ℕ
in_queue x = top_first (entry x) (size x)

-- Its size or an entry stored.
unfoldable pub resized : ℕ → List ℕ → List ℕ
resized n x = set (set x 0 (n / 256)) 1 (n % 256)

unfoldable pub put_entry : List ℕ → ℕ → ℕ → List ℕ
put_entry x j i = set x (2 + j) i

-- Slot i comes in among the last n entries: those that go before it move up by one, from the first on.
unfoldable pub placed : Order ℕ → ℕ → ℕ → List ℕ → List ℕ
placed less i zero x = put_entry x 0 i
placed less i (suc n) x = cond (less (entry x n) i) (placed less i n (put_entry x (suc n) (entry x n))) (put_entry x (suc n) i)

-- The queue with slot i in its place; a full one stays as it is.
unfoldable pub inserted : Order ℕ → ℕ → List ℕ → List ℕ
inserted less i x = cond (ltb (size x) 256) (resized (size x + 1) (placed less i (size x) x)) x

-- Of the last n entries, how many are left once the first ones that pass the test have left.
unfoldable pub rest : (ℕ → Bool) → List ℕ → ℕ → ℕ
rest test x zero = 0
rest test x (suc n) = cond (test (entry x n)) (rest test x n) (suc n)
