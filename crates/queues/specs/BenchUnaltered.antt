-- A refused call of the engine alters nothing, for any bytes and lengths of the areas lent. Assumes nothing.
use Rattle.std.specs.Prelude.{ℕ, ◌≡◌, ◌≢◌, List}
use Rattle.rules.specs.Board.{Board}
use Rattle.queues.specs.Engine as Engine
use Rattle.queues.specs.Engine.{Bench}

module _ (B : Board) where
  -- Of every entry of the engine: if its number isn't 0, state, memory and queues are as they were, and so are the outgoing and answers areas lent to a tick.
  pub record BenchUnaltered : Type 0 where
    pub fill : (b : Bench) → let o = Engine.fill B b in o.reply.number ≢ 0 → o.after ≡ b
    pub control : (b : Bench) (register v : ℕ) → let o = Engine.control B b register v in o.reply.number ≢ 0 → o.after ≡ b
    pub tick : (b : Bench) (arriving waiting : ℕ) (area out ans : List ℕ) → let o = Engine.tick B b arriving waiting area out ans in o.reply.number ≢ 0 → (o.after ≡ b) × (o.reply.outgoing ≡ out) × (o.reply.answers ≡ ans)
