-- An engine keeps its queues (document 02, [1]: "kept over the calls after it"): what a tick sends and leaves goes by the area lent to it. From filled queues the comparator's order is the area's, and `QueuesAgree` can't tell the two apart;
-- so the claim is of a tick on an area that question 21 passes and that has its slots in another order. Assumes nothing.
use Rattle.std.specs.Prelude.{ℕ, ◌≡◌, List, [], ◌∷◌, ◌++◌, take, drop, replicate, pos}
use Rattle.rules.specs.Order.{top_first}
use Rattle.rules.specs.Areas.{Outcome}
use Rattle.rules.specs.Calls.{Call, tick}
use Rattle.queues.specs.Engine.{Bench}

-- The packet of identifier i that goes out under the deadline d, data i.
abbrev pub packet_of : ℕ → ℕ → List ℕ
packet_of i d = i ∷ d ∷ replicate 18 i

-- Time, deadline and mask of slots 0 to 5 at the clock 0, where slots 2 and 5 have the masks m and n. Slots 0, 1 and 2 are on time for port 0, slots 3, 4 and 5 early for port 1; by their keys slot 0 goes first, and slot 3.
abbrev pub six_slots : ℕ → ℕ → List ℕ
six_slots m n = 0 ∷ 5 ∷ 1 ∷ 0 ∷ 6 ∷ 1 ∷ 0 ∷ 7 ∷ m ∷ 3 ∷ 13 ∷ 2 ∷ 4 ∷ 14 ∷ 2 ∷ 5 ∷ 15 ∷ n ∷ []

-- A sound state and memory: port 1 has the horizon 10, 250 addresses are idle, and no connection is open.
unfoldable pub reordered : Bench
reordered = record {
  store = record {
    state = 0 ∷ 0 ∷ 10 ∷ replicate 8 0 ++ (250 ∷ []) ++ top_first (λ i. i) 256 ++ six_slots 1 2 ++ replicate 1518 0;
    memory = packet_of 40 5 ++ packet_of 41 6 ++ packet_of 42 7 ++ packet_of 43 13 ++ packet_of 44 14 ++ packet_of 45 15 ++ replicate 5000 0;
  };
  -- Port 0's on-time queue, at byte 0, has slots 2, 1 and 0, and port 1's early one, at byte 774, slots 5, 4 and 3: three of them, last ones first.
  queues = (0 ∷ 3 ∷ 0 ∷ 1 ∷ 2 ∷ []) ++ replicate 769 0 ++ (0 ∷ 3 ∷ 3 ∷ 4 ∷ 5 ∷ []) ++ replicate 1801 0;
}

-- A tick in which nothing arrives and no best-effort waits.
abbrev pub plain_tick : Call
plain_tick = tick (record { arriving = 0; best_effort = 0; arrivals = replicate 100 0; times = λ p. pos 0 }) (replicate 100 9) (replicate 20 9)

-- What it gives and leaves: it is accepted; port 0 sends slot 2 on time and port 1 slot 5 early; these leave their masks, and their queues, in which the other two are as they were.
pub record ByTheArea (o : Outcome Bench) : Type 0 where
  pub number : o.reply.number ≡ 0
  pub outgoing : o.reply.outgoing ≡ packet_of 42 7 ++ packet_of 45 15 ++ replicate 60 0
  pub answers : o.reply.answers ≡ 1 ∷ 3 ∷ replicate 18 0
  pub slots : take 18 (drop 268 o.after.store.state) ≡ six_slots 0 0
  pub on_time : take 4 o.after.queues ≡ 0 ∷ 2 ∷ 0 ∷ 1 ∷ []
  pub early : take 4 (drop 774 o.after.queues) ≡ 0 ∷ 2 ∷ 3 ∷ 4 ∷ []

-- Of an engine by what it does with a call.
unfoldable pub KeepsQueues : (Bench → Call → Outcome Bench) → Type 0
KeepsQueues step = ByTheArea (step reordered plain_tick)
