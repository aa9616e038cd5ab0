-- The engine of document 001, Table 1 (document 02, [1]): what filling, a control write and a tick do with state, memory and queues, for areas of any content. Assumes nothing.
use Rattle.std.specs.Prelude.{ℕ, zero, suc, ◌+◌, ◌-◌, Bool, true, false, cond, ◌&&◌, List, [], ◌∷◌, length, replicate, eqb, pos}
use Rattle.std.proofs.Math.Option.{Option, none, some}
use Rattle.std.specs.Int.Signed.{le_z}
use Rattle.rules.specs.Order.{all, count}
use Rattle.rules.specs.Areas.{Store, Outcome, number_reply, packet, has, per_port, Grant, nobody, best_effort, on_time, early, grant_code, answers_area, asked}
use Rattle.rules.specs.Board.{Board, Horizon, Idle, Mask, free}
use Rattle.rules.specs.Tick.{arrival, arrived, is_early, slot_key, grant_bytes, is_due, withdrawals, withdrawn, returned, advanced}
use Rattle.rules.specs.Questions.{full, sound_questions, control_refusal, tick_refusal, written}
use Rattle.passes.specs.Sends.{sent_by}
use Rattle.queues.specs.Table1.{before, waits}
use Rattle.queues.specs.Area.{queues_length, queue, put_queue, size, entry, resized, inserted, rest}

-- State, memory and queues, which every entry of the engine is lent.
pub record Bench : Type 0 where
  pub store : Store
  pub queues : List ℕ

-- What ports below p do to the queues, one after the other.
unfoldable pub each_port : (ℕ → List ℕ → List ℕ) → ℕ → List ℕ → List ℕ
each_port f zero q = q
each_port f (suc p) q = let q' = each_port f p q in f p q'

-- The first of a queue.
unfoldable pub first_of : ℕ → List ℕ → Option ℕ
first_of zero x = none
first_of (suc n) x = some (entry x n)

abbrev pub first : List ℕ → Option ℕ
first x = first_of (size x) x

module _ (B : Board) where
  open B use {get}

  -- ---- slots come in

  -- Slot i goes into the queue of its sort of port p, if its mask has the port, at its place in the comparator's order.
  abbrev pub enter : List ℕ → ℕ → ℕ → List ℕ → List ℕ
  enter s i p q = let e = is_early B s i in cond (has (get s (Mask, i)) p) (put_queue p e (inserted (before B s) i (queue q p e)) q) q

  -- Of every port of its mask.
  abbrev pub entered : List ℕ → ℕ → List ℕ → List ℕ
  entered s i = each_port (enter s i) 5

  -- Filling: the slots below i enter empty queues.
  unfoldable pub filled : List ℕ → ℕ → List ℕ
  filled s zero = replicate queues_length 0
  filled s (suc i) = let q = filled s i in entered s i q

  -- Step 1: the packets that it stored took entries n - 1, n - 2, .. of the idle-address stack; they enter, first ones first, k of them.
  unfoldable pub received : List ℕ → ℕ → ℕ → List ℕ → List ℕ
  received s n zero q = q
  received s n (suc k) q = let q' = received s n k q in entered s (get s (Idle, n - suc k)) q'

  -- ---- Table 1

  -- The first of a queue of port p, if it is a slot that waits for the port.
  unfoldable pub heading : List ℕ → ℕ → Option ℕ → Option ℕ
  heading s p none = none
  heading s p (some i) = cond (has (get s (Mask, i)) p) (some i) none

  -- Step 2: the first of the on-time queue, else best-effort where it waits (b), else the first of the early queue if its key is at most the horizon.
  unfoldable pub table_grant : List ℕ → ℕ → Bool → Option ℕ → Option ℕ → Grant ℕ
  table_grant s p b (some i) x = on_time i
  table_grant s p b none none = cond b best_effort nobody
  table_grant s p b none (some i) = cond b best_effort (cond (le_z (slot_key B s i).key (pos (get s (Horizon, p)))) (early i) nobody)

  unfoldable pub queue_grant : List ℕ → List ℕ → ℕ → ℕ → Grant ℕ
  queue_grant s q waiting p = table_grant s p (has waiting p) (heading s p (first (queue q p false))) (heading s p (first (queue q p true)))

-- ---- slots leave

-- The first of a queue leaves it.
unfoldable pub shortened : ℕ → Bool → List ℕ → List ℕ
shortened p e q = let x = queue q p e in put_queue p e (resized (size x - 1) x) q

-- Step 3: what port p sends leaves its queue alone.
unfoldable pub sent_from : Grant ℕ → ℕ → List ℕ → List ℕ
sent_from nobody p q = q
sent_from best_effort p q = q
sent_from (on_time i) p q = shortened p false q
sent_from (early i) p q = shortened p true q

module _ (B : Board) where
  open B use {get}

  -- Step 4: what is withdrawn leaves the on-time queue of port p, whose first ones are due.
  abbrev pub due_from : List ℕ → ℕ → List ℕ → List ℕ
  due_from s p q = let x = queue q p false in put_queue p false (resized (rest (is_due B s) x (size x)) x) q

  -- Once the clock has advanced: the first of the n slots in port p's early queue moves over if it is not early any more, and so on.
  unfoldable pub moved_over : List ℕ → ℕ → ℕ → List ℕ → List ℕ
  moved_over s p zero q = q
  moved_over s p (suc n) q =
      let i = entry (queue q p true) n in
      cond (is_early B s i) q (moved_over s p n (put_queue p false (inserted (before B s) i (queue q p false)) (shortened p true q)))

  abbrev pub move_over : List ℕ → ℕ → List ℕ → List ℕ
  move_over s p q = moved_over s p (size (queue q p true)) q

  -- ---- a tick

  -- What the ports choose from: the store and the queues after step 1.
  unfoldable pub arrived_bench : ℕ → List ℕ → Bench → Bench
  arrived_bench arriving area b =
      let n = get b.store.state free in
      let r = arrived B 5 arriving area b.store in
      record { store = r; queues = received B r.state n (n - get r.state free) b.queues }

  -- Steps 2 to 6 where port p has g p: what is answered of them and of the arrivals, and what is left.
  unfoldable pub ticked_by : (ℕ → Grant ℕ) → (ℕ → ℕ) → Bench → Outcome Bench
  ticked_by g met b =
      let s = b.store.state in
      let m = b.store.memory in
      let s₃ = sent_by B g 5 s in
      let s₆ = advanced B (returned B 256 s (withdrawn B 256 s₃)) in
      record {
        reply = record { number = 0; outgoing = per_port (λ p. grant_bytes m (g p)); answers = answers_area (λ p. grant_code (g p)) met (withdrawals B s₃) };
        after = record { store = record { state = s₆; memory = m }; queues = each_port (move_over s₆) 5 (each_port (due_from s) 5 (each_port (λ p. sent_from (g p) p) 5 b.queues)) };
      }

  unfoldable pub ticked : Bench → ℕ → ℕ → List ℕ → Outcome Bench
  ticked b arriving waiting area =
      let b₁ = arrived_bench arriving area b in
      ticked_by (queue_grant B b₁.store.state b₁.queues waiting) (λ p. arrival B (arrived B p arriving area b.store).state arriving p (packet area p)) b₁

  -- ---- the questions

  -- As many slots are in the queues of port p as wait for it.
  abbrev pub sizes_fit : List ℕ → List ℕ → ℕ → Bool
  sizes_fit s q p = eqb (size (queue q p false) + size (queue q p true)) (count 256 (λ i. has (get s (Mask, i)) p))

  -- The first of a queue, if any, waits for the port and is of the sort.
  unfoldable pub is_first_fitting : List ℕ → ℕ → Bool → Option ℕ → Bool
  is_first_fitting s p e none = true
  is_first_fitting s p e (some i) = waits B s p e i

  abbrev pub port_fits : List ℕ → List ℕ → ℕ → Bool
  port_fits s q p = sizes_fit s q p && (is_first_fitting s p false (first (queue q p false)) && is_first_fitting s p true (first (queue q p true)))

  -- 21: do the queues belong to the state, as far as their sizes and their first ones tell?
  unfoldable pub fitting : List ℕ → List ℕ → Bool
  fitting s q = all 5 (port_fits s q)

  -- Every question of the router's, of which n is the number, and then whether the queues belong to the state.
  abbrev pub questions : Bench → ℕ → List (Bool × ℕ)
  questions b n = (eqb (length b.queues) queues_length, 1) ∷ (eqb n 0, n) ∷ (fitting b.store.state b.queues, 21) ∷ []

  -- ---- the entries

  -- Fills the queues from a sound state.
  unfoldable pub fill : Bench → Outcome Bench
  fill b =
      let n = asked ((eqb (length b.queues) queues_length, 1) ∷ (full B b.store, 1) ∷ sound_questions B 15 b.store) in
      cond (eqb n 0) (record { reply = number_reply 0; after = record { store = b.store; queues = filled B b.store.state 256 } }) (record { reply = number_reply n; after = b })

  -- A control write changes no stored packet, and no queue.
  unfoldable pub control : Bench → ℕ → ℕ → Outcome Bench
  control b register v =
      let n = asked (questions b (control_refusal B b.store register v)) in
      cond (eqb n 0) (record { reply = number_reply 0; after = record { store = record { state = written B register v b.store.state; memory = b.store.memory }; queues = b.queues } }) (record { reply = number_reply n; after = b })

  unfoldable pub tick : Bench → ℕ → ℕ → List ℕ → List ℕ → List ℕ → Outcome Bench
  tick b arriving waiting area out ans =
      let n = asked (questions b (tick_refusal B b.store arriving waiting area out ans)) in
      cond (eqb n 0) (ticked b arriving waiting area) (record { reply = record { number = n; outgoing = out; answers = ans }; after = b })
