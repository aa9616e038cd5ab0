-- A refused call of the engine alters nothing: it gives its refusal, which gives back what was lent. Assumes nothing.
use Prim.Native.Nat.{ℕ}
use mathlib.Core.Path.{◌≡◌, refl, ap, ◌∙◌}
use mathlib.Core.Bool.{cond}
use mathlib.Core.Logic.{◌≢◌}
use mathlib.Core.List.{◌∷◌}
use lib.ListN.{length}
use lib.Dec.{eqb}
use Rattle.rules.specs.Areas.{Outcome, asked}
use Rattle.rules.specs.Board.{Board, board8}
use Rattle.rules.specs.Questions.{full, sound_questions, control_refusal, tick_refusal}
use Rattle.any_state.proofs.Entries.{refused}
use Rattle.queues.specs.Engine as Engine
use Rattle.queues.specs.Area.{queues_length}
use Rattle.queues.specs.Engine.{Bench, questions}
use Rattle.queues.specs.BenchUnaltered.{BenchUnaltered}

module _ (B : Board) where
  -- What the refusal o' gives of f, a call refused by the number n gives.
  given_back : {A : Type 0} (f : Outcome Bench → A) (x : A) (n : ℕ) (o o' : Outcome Bench) → let q = cond (eqb n 0) o o' in q.reply.number ≢ 0 → o.reply.number ≡ 0 → o'.reply.number ≡ n → f o' ≡ x → f q ≡ x
  given_back f x n o o' h e e' same = ap f ((refused B n o o' e e').1 h) ∙ same

  -- Of any board.
  unaltered : BenchUnaltered B
  unfolding Engine.fill Engine.control Engine.tick Engine.ticked Engine.ticked_by
  unaltered = record {
    fill = λ b h. given_back (λ o. o.after) b (asked ((eqb (length b.queues) queues_length, 1) ∷ (full B b.store, 1) ∷ sound_questions B 15 b.store)) _ _ h refl refl refl;
    control = λ b register v h. given_back (λ o. o.after) b (asked (questions B b (control_refusal B b.store register v))) _ _ h refl refl refl;
    tick = λ b arriving waiting area out ans h.
        let n = asked (questions B b (tick_refusal B b.store arriving waiting area out ans)) in
        (given_back (λ o. o.after) b n _ _ h refl refl refl, given_back (λ o. o.reply.outgoing) out n _ _ h refl refl refl, given_back (λ o. o.reply.answers) ans n _ _ h refl refl refl);
  }

-- And so of document 01's.
pub bench-unaltered : BenchUnaltered board8
bench-unaltered = unaltered board8
