-- The six steps of the engine's tick: what their parts leave and answer is, put together, what `ticked` says. Assumes nothing.
use Prim.Native.Nat.{ℕ, ◌-◌}
use mathlib.Core.Path.{◌≡◌, refl, ap, ◌∙◌}
use mathlib.Core.List.{List, [], ◌∷◌}
use Rattle.rules.specs.Areas.{Store, byte, packet, answers_area, ports_below, per_port, grant_code, Outcome}
use Rattle.rules.specs.Board.{free, board8}
use Rattle.rules.specs.Tick.{arrival, arrived, grant_bytes, withdrawals, withdrawn, returned, advanced}
use Rattle.passes.specs.Sends.{sent_by}
use Rattle.choose.specs.declared.Grant.{Grant}
use Rattle.choose.specs.Grants.{grant_at, Granted}
use Rattle.queues.specs.Engine.{Bench, each_port, sent_from, received, queue_grant, due_from, move_over, arrived_bench, ticked_by, ticked}
use Rattle.queues.proofs.EngineLaws.{ticked-by-same}

-- The arrivals leave the store r₁ and the queues q₁, and the ports have the grants l.
module _ (b : Bench) (r₁ : Store) (q₁ : List ℕ) (l : List Grant) (arriving waiting : ℕ) (area : List ℕ) where
  -- What the arrival on port p meets.
  abbrev meets : ℕ → ℕ
  meets p = arrival board8 (arrived board8 p arriving area b.store).state arriving p (packet area p)

  -- What the ports choose from.
  abbrev b₁ : Bench
  b₁ = record { store = r₁; queues = q₁ }

  -- The state without the ports that sent.
  abbrev s₃ : List ℕ
  s₃ = sent_by board8 (grant_at l) 5 r₁.state

  -- The tick by the grants is the engine's, where they are those by the queues.
  by-queues : b₁ ≡ arrived_bench board8 arriving area b → Granted (queue_grant board8 r₁.state q₁ waiting) 5 l → ticked_by board8 (grant_at l) meets b₁ ≡ ticked board8 b arriving waiting area
  unfolding ticked
  by-queues e G = ticked-by-same board8 G.each (λ p h. refl) b₁ ∙ ap (λ (x : Bench). ticked_by board8 (queue_grant board8 x.store.state x.queues waiting) meets x) e

  -- Part by part: the arrivals, the queues that they enter, the grants, what leaves the queues, what is answered and sent, the state after the tick, and the slots that move over.
  pub steps-ticked : (n : ℕ) (q₃ q₄ q₆ out ans codes met counts s : List ℕ) → n ≡ board8.get b.store.state free → r₁ ≡ arrived board8 5 arriving area b.store
      → met ≡ per_port (λ p. meets p ∷ [])
      → q₁ ≡ received board8 r₁.state n (n - board8.get r₁.state free) b.queues
      → Granted (queue_grant board8 r₁.state q₁ waiting) 5 l
      → q₃ ≡ each_port (λ p. sent_from (grant_at l p) p) 5 q₁
      → q₄ ≡ each_port (due_from board8 r₁.state) 5 q₃
      → codes ≡ per_port (λ p. grant_code (grant_at l p) ∷ [])
      → out ≡ per_port (λ p. grant_bytes r₁.memory (grant_at l p))
      → counts ≡ per_port (λ p. withdrawals board8 s₃ p ∷ [])
      → s ≡ advanced board8 (returned board8 256 r₁.state (withdrawn board8 256 s₃))
      → q₆ ≡ each_port (move_over board8 s) 5 q₄
      → ans ≡ answers_area (byte codes) (byte met) (byte counts)
      → ◌≡◌ {A = Outcome Bench} (record { reply = record { number = 0; outgoing = out; answers = ans }; after = record { store = record { state = s; memory = r₁.memory }; queues = q₆ } }) (ticked board8 b arriving waiting area)
  unfolding arrived_bench ticked_by answers_area ports_below
  steps-ticked n q₃ q₄ q₆ out ans codes met counts s ef er em eq G e₃ e₄ ec eo en es e₆ ea = rw (ea, e₆, e₄, e₃, es, en, eo, ec, em) (by-queues (rw (← er, ← ef, ← eq)) G)
