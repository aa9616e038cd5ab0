-- The engine and the comparator agree (document 02, [1]): from queues filled from any sound state, over any list of calls, refused ones included. Assumes nothing.
use Rattle.std.specs.Prelude.{ℕ, ◌<◌, ◌≡◌, Bool, true, false, length}
use mathlib.Core.List.{List, ◌∷◌, Memᴰ}
use Rattle.rules.specs.Areas.{Store, Outcome, Bytes, no_packet, byte, packet}
use Rattle.rules.specs.Board.{Board, board8}
use Rattle.rules.specs.Questions.{full, sound}
use Rattle.rules.specs.Whole.{TickCall}
use Rattle.rules.specs.Calls as Calls
use Rattle.rules.specs.Calls.{Call, after_all, replies}
use Rattle.rules.specs.Given.{ByteCall}
use Rattle.rules.specs.Demand3.{byte_step}
use Rattle.queues.specs.Table1.{Holds}
use Rattle.queues.specs.Area.{queues_length, queue, in_queue}
use Rattle.queues.specs.Engine.{Bench, fill, control, tick, arrived_bench}

module _ (B : Board) where
  open B use {clock_bytes as c}

  -- The run of the engine: `control` and `tick` are the constants that the promises of its exported entries cite, as `byte_step` has those of the router's.
  unfoldable pub bench_step : Bench → Call → Outcome Bench
  bench_step b (Calls.control register v) = control B b register v
  bench_step b (Calls.tick k out ans) = tick B b k.arriving k.best_effort k.arrivals out ans

  -- Every queue holds exactly what it should.
  pub record AllHold (b : Bench) : Type 0 where
    pub sized : length b.queues ≡ queues_length
    pub holds : (p : ℕ) → p < 5 → (e : Bool) → Holds B b.store.state p e (in_queue (queue b.queues p e))

  -- What port p sends, by its answer n and its outgoing packet k: the first of the queue of that sort, of b; any other port sends nothing.
  pub record SendsFirst (b : Bench) (p n : ℕ) (k : List ℕ) : Type 0 where
    pub on_time : n ≡ 1 → (i : ℕ) × (l : List ℕ) × (in_queue (queue b.queues p false) ≡ i ∷ l) × (k ≡ packet b.store.memory i)
    pub early : n ≡ 3 → (i : ℕ) × (l : List ℕ) × (in_queue (queue b.queues p true) ≡ i ∷ l) × (k ≡ packet b.store.memory i)
    pub nothing : (n ≡ 1 → ⊥) → (n ≡ 3 → ⊥) → k ≡ no_packet

  -- Of an accepted tick: what the ports choose from holds what it should, and each sends the first.
  pub record FirstsSent (b : Bench) (k : TickCall) (out ans : List ℕ) : Type 0 where
    pub chosen_from : AllHold (arrived_bench B k.arriving k.arrivals b)
    pub sends : (p : ℕ) → p < 5 → SendsFirst (arrived_bench B k.arriving k.arrivals b) p (byte ans p) (packet out p)

  -- After the calls ks on the engine b and the comparator at r.
  pub record AfterCalls (r : Store) (b : Bench) (ks : List Call) : Type 0 where
    pub replies : replies bench_step b ks ≡ replies (byte_step B) r ks
    pub store : (after_all bench_step b ks).store ≡ after_all (byte_step B) r ks
    pub queues : AllHold (after_all bench_step b ks)
    -- And in a tick after them, if it is accepted.
    pub firsts : (k : TickCall) (out ans : List ℕ) → ByteCall c (Calls.tick k out ans)
        → let o = bench_step (after_all bench_step b ks) (Calls.tick k out ans) in o.reply.number ≡ 0 → FirstsSent (after_all bench_step b ks) k o.reply.outgoing o.reply.answers

  -- For every sound state and memory, and any queues area: filling is accepted and fills every queue; and after every list of calls.
  unfoldable pub Agrees : Type 0
  Agrees = (r : Store) → Bytes r.state → Bytes r.memory → full B r ≡ true → sound B r ≡ true → (q : List ℕ) → length q ≡ queues_length
      → let f = fill B (record { store = r; queues = q }) in
      (f.reply.number ≡ 0) × (f.after.store ≡ r) × AllHold f.after × ((ks : List Call) → ((k : Call) → Memᴰ k ks → ByteCall c k) → AfterCalls r f.after ks)

-- For document 01's board.
unfoldable pub QueuesAgree : Type 0
QueuesAgree = Agrees board8
