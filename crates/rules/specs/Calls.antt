-- Calls and lists of them, and a call to the router that never turns over (document 01). Assumes nothing.
use Rattle.std.specs.Prelude.{ℕ, cond, List, [], ◌∷◌, eqb}
use Rattle.rules.specs.Areas.{Reply, Outcome, number_reply, areas_full, asked, control_questions, tick_questions}
use Rattle.rules.specs.Whole.{Router, TickCall, written, ticked, outgoing_bytes, answer_bytes}

-- A call as the firmware makes it: a control write, or a tick with the outgoing and answers areas that it is lent.
pub data Call : Type 0 where
  control : ℕ → ℕ → Call
  tick : TickCall → List ℕ → List ℕ → Call

-- A list of calls, where each does `step`: what they leave, and their replies.
module _ {R : Type 0} (step : R → Call → Outcome R) where
  unfoldable pub after_all : R → List Call → R
  after_all r [] = r
  after_all r (k ∷ ks) = after_all (step r k).after ks

  unfoldable pub replies : R → List Call → List Reply
  replies r [] = []
  replies r (k ∷ ks) = let o = step r k in o.reply ∷ replies o.after ks

module _ (c : ℕ) where
  -- The number of a call to the router r: every question but whether the state is sound. Of outgoing and answers it sees the lengths.
  unfoldable pub refusal : Router → Call → ℕ
  refusal r (control register v) = asked (control_questions c register v)
  refusal r (tick k out ans) = asked ((areas_full k.arrivals out ans, 1) ∷ tick_questions k.arriving k.best_effort)

  unfoldable pub accept : Router → Call → Outcome Router
  accept r (control register v) = record { reply = number_reply 0; after = written register v r }
  accept r (tick k out ans) =
      let t = ticked c r k in
      record { reply = record { number = 0; outgoing = outgoing_bytes c t.report; answers = answer_bytes t.report }; after = t.router }

  -- A refused call changes nothing, and leaves outgoing and answers as they were.
  unfoldable pub refuse : Router → Call → ℕ → Outcome Router
  refuse r (control register v) n = record { reply = number_reply n; after = r }
  refuse r (tick k out ans) n = record { reply = record { number = n; outgoing = out; answers = ans }; after = r }

  unfoldable pub whole_step : Router → Call → Outcome Router
  whole_step r k = let n = refusal r k in cond (eqb n 0) (accept r k) (refuse r k n)
