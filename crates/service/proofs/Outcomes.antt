-- The number that the questions of the engine's entries give, question by question; and the outcome of filling, of a control write and of a tick by that number: refused, or accepted.
-- Assumes nothing.
use Prim.Native.Nat.{ℕ}
use mathlib.Core.Path.{◌≡◌}
use mathlib.Core.Bool.{Bool, cond, not}
use mathlib.Core.List.{List, [], ◌∷◌}
use mathlib.Core.Logic.{◌≢◌}
use lib.ListN.{length}
use lib.Dec.{eqb}
use borrow.Author.Tests.{eq-eqb, ne_eqb}
use Rattle.rules.specs.Areas.{number_reply, Outcome, asked}
use Rattle.rules.specs.Board.{board8}
use Rattle.rules.specs.Questions.{written, full, sound_questions, control_refusal, tick_refusal}
use Rattle.queues.specs.Area.{queues_length}
use Rattle.queues.specs.Engine.{Bench, filled, fitting, ticked, fill, control, tick}

-- ---- the questions

-- The number that they give: first 1 for queues of a wrong length, then the others'.
unfoldable pub number : List ℕ → List (Bool × ℕ) → ℕ
number q qs = asked ((eqb (length q) queues_length, 1) ∷ qs)

-- Queues of a wrong length.
pub wrong-length : (q : List ℕ) (qs : List (Bool × ℕ)) → length q ≢ queues_length → 1 ≡ number q qs
unfolding number asked
wrong-length q qs h = rw (ne_eqb (length q) queues_length h)

-- Those of the right length leave it to the other questions.
pub right-length : (q : List ℕ) (qs : List (Bool × ℕ)) → length q ≡ queues_length → asked qs ≡ number q qs
unfolding number asked
right-length q qs h = rw (eq-eqb (length q) queues_length h)

-- The router's own, with the number n, and whether the queues q belong to the state s.
abbrev routers : List ℕ → List ℕ → ℕ → List (Bool × ℕ)
routers s q n = (eqb n 0, n) ∷ (fitting board8 s q, 21) ∷ []

-- Of queues of the right length; n is the router's number.
module _ (s q : List ℕ) (sized : length q ≡ queues_length) (n m : ℕ) (e : n ≡ m) where
  -- A question of the router's has a no.
  pub router-refuses : n ≢ 0 → n ≡ number q (routers s q m)
  unfolding number asked
  router-refuses h = rw (eq-eqb (length q) queues_length sized, ← e, ne_eqb n 0 h)

  -- None of these has, and whether the queues belong to the state decides.
  pub queues-decide : n ≡ 0 → {f t : Bool} → f ≡ fitting board8 s q → not f ≡ t → cond t 21 0 ≡ number q (routers s q m)
  unfolding number asked
  queues-decide z f t = rw (eq-eqb (length q) queues_length sized, ← e, z, ← f, t)

-- ---- filling

module _ (b : Bench) (n : ℕ) (e : n ≡ number b.queues ((full board8 b.store, 1) ∷ sound_questions board8 15 b.store)) where
  -- A refusal alters nothing.
  pub fill-refused : n ≢ 0 → (q : List ℕ) → q ≡ b.queues → ◌≡◌ {A = Outcome Bench} (record { reply = number_reply n; after = record { store = b.store; queues = q } }) (fill board8 b)
  unfolding fill number
  fill-refused h q kept = rw (← e, ne_eqb n 0 h, kept)

  -- With 0 the queues are filled.
  pub fill-accepted : n ≡ 0 → (q : List ℕ) → q ≡ filled board8 b.store.state 256 → ◌≡◌ {A = Outcome Bench} (record { reply = number_reply n; after = record { store = b.store; queues = q } }) (fill board8 b)
  unfolding fill number
  fill-accepted z q f = rw (← e, f, z)

-- ---- a control write

module _ (b : Bench) (register v n : ℕ) (e : n ≡ number b.queues (routers b.store.state b.queues (control_refusal board8 b.store register v))) where
  -- A refusal alters nothing.
  pub control-refused : n ≢ 0 → ◌≡◌ {A = Outcome Bench} (record { reply = number_reply n; after = b }) (control board8 b register v)
  unfolding control number
  control-refused h = rw (← e, ne_eqb n 0 h)

  -- With 0 the register is written.
  pub control-accepted : n ≡ 0 → (s : List ℕ) → s ≡ written board8 register v b.store.state
      → ◌≡◌ {A = Outcome Bench} (record { reply = number_reply n; after = record { store = record { state = s; memory = b.store.memory }; queues = b.queues } }) (control board8 b register v)
  unfolding control number
  control-accepted z s w = rw (← e, w, z)

-- ---- a tick

module _ (b : Bench) (arriving waiting : ℕ) (area out ans : List ℕ) (n : ℕ) (e : n ≡ number b.queues (routers b.store.state b.queues (tick_refusal board8 b.store arriving waiting area out ans))) where
  -- A refusal alters nothing.
  pub tick-refused : n ≢ 0 → (s q : List ℕ) → s ≡ b.store.state → q ≡ b.queues
      → ◌≡◌ {A = Outcome Bench} (record { reply = record { number = n; outgoing = out; answers = ans }; after = record { store = record { state = s; memory = b.store.memory }; queues = q } }) (tick board8 b arriving waiting area out ans)
  unfolding tick number
  tick-refused h s q kept kept' = rw (← e, ne_eqb n 0 h, kept, kept')

  -- With 0 the work is a tick's.
  pub tick-accepted : n ≡ 0 → (out' ans' : List ℕ) (b' : Bench) → ◌≡◌ {A = Outcome Bench} (record { reply = record { number = 0; outgoing = out'; answers = ans' }; after = b' }) (ticked board8 b arriving waiting area)
      → ◌≡◌ {A = Outcome Bench} (record { reply = record { number = n; outgoing = out'; answers = ans' }; after = b' }) (tick board8 b arriving waiting area out ans)
  unfolding tick number
  tick-accepted z out' ans' b' w = rw (← e, z) w
