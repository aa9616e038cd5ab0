-- Wrong engines that fill their queues anew or ask the comparator. From filled queues on each does what ours does, and would meet `QueuesAgree`; the claim of kept queues shuts them out. Each is ours with one part changed. Assumes nothing.
use Rattle.std.specs.Prelude.{ℕ, ◌≡◌, cond, List, eqb}
use Rattle.rules.specs.Areas.{Outcome, packet, Grant, asked}
use Rattle.rules.specs.Board.{board8}
use Rattle.rules.specs.Tick.{arrival, arrived, grant}
use Rattle.rules.specs.Questions.{tick_refusal}
use Rattle.rules.specs.Calls.{Call, control, tick}
use Rattle.queues.specs.Engine as Engine
use Rattle.queues.specs.Engine.{Bench, filled, queue_grant, arrived_bench, ticked_by, questions}
use Rattle.queues.specs.QueuesAgree.{bench_step}
use Rattle.queues.specs.KeepsQueues.{KeepsQueues}

-- ---- an engine by its parts: the queues that the ports choose from, who has a port, and the queues that a tick leaves

module _ (from : Bench → Bench) (choose : Bench → ℕ → ℕ → Grant ℕ) (leaves : Bench → Bench) where
  unfoldable pub work_by : Bench → ℕ → ℕ → List ℕ → Outcome Bench
  work_by b arriving waiting area =
      let b₁ = from (arrived_bench board8 arriving area b) in
      let o = ticked_by board8 (choose b₁ waiting) (λ p. arrival board8 (arrived board8 p arriving area b.store).state arriving p (packet area p)) b₁ in
      record { reply = o.reply; after = leaves o.after }

  unfoldable pub engine_by : Bench → Call → Outcome Bench
  engine_by b (control register v) = Engine.control board8 b register v
  engine_by b (tick k out ans) =
      let n = asked (questions board8 b (tick_refusal board8 b.store k.arriving k.best_effort k.arrivals out ans)) in
      cond (eqb n 0) (work_by b k.arriving k.best_effort k.arrivals) (record { reply = record { number = n; outgoing = out; answers = ans }; after = b })

-- The queues as they are, and the grants by them, are ours.
abbrev pub kept : Bench → Bench
kept b = b

abbrev pub by_queues : Bench → ℕ → ℕ → Grant ℕ
by_queues b waiting p = queue_grant board8 b.store.state b.queues waiting p

-- ---- the wrong ones

-- Queues filled anew.
abbrev pub anew : Bench → Bench
anew b = record { store = b.store; queues = filled board8 b.store.state 256 }

-- Filling them in each tick before the ports choose, or at its end.
abbrev pub refills_first : Bench → Call → Outcome Bench
refills_first = engine_by anew by_queues kept

abbrev pub refills_last : Bench → Call → Outcome Bench
refills_last = engine_by kept by_queues anew

-- Asking the comparator who has a port.
abbrev pub asks_comparator : Bench → Call → Outcome Bench
asks_comparator = engine_by kept (λ b waiting p. grant board8 b.store.state waiting p) kept

-- ---- what is claimed

pub record EnginesShutOut : Type 0 where
  -- Built of our own parts an engine is ours, and ours keeps its queues.
  pub own_parts : (b : Bench) (k : Call) → engine_by kept by_queues kept b k ≡ bench_step board8 b k
  pub keeps : KeepsQueues (bench_step board8)
  -- These don't.
  pub refills_first : KeepsQueues refills_first → ⊥
  pub refills_last : KeepsQueues refills_last → ⊥
  pub asks_comparator : KeepsQueues asks_comparator → ⊥
