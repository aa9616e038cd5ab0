-- `service::router_queues_fill` meets its contract: a refusal alters nothing, and past the questions the queues are `filled`. Assumes nothing.
use mathlib.Core.Path.{◌≡◌, refl, ◌∙◌}
use native.Mathlib.Omega.{arith}
use borrow.Author.Rules.{rules}
use lib.ListN.{length}
use Rattle.layout.specs.Numbers.{number_of, answer_of}
use Rattle.queues.specs.Area.{queues_length}
use Rattle.sound.proofs.Accepted.{number-some}
use Rattle.service.proofs.Outcomes.{wrong-length, right-length, fill-refused, fill-accepted}
use Rattle.service.proofs.router_queues_fill.Goals as goal

pub returns-in_default : goal.returns-in_default
returns-in_default c = fill-refused _ _ (wrong-length _ _ (λ e. omega (arith, c.in_default.ensures.cases))) (λ z. omega arith) _ refl

pub returns-in_err-of_store : goal.returns-in_err-of_store
returns-in_err-of_store c =
    let e : answer_of c.from_residual.result ≡ number_of c.in_err-of_store.field-0.0 = grind arith in
    let same : c.in-Some.area.now ≡ c.args.queues.now = search rules in
    let sized : length c.args.queues.now ≡ queues_length = search rules in
    rw e (fill-refused _ _ (c.in_err-of_store.ensures.number ∙ right-length _ _ sized) (number-some c.in_err-of_store.field-0.0) _ same)

pub returns : goal.returns
returns c =
    let sized : length c.args.queues.now ≡ queues_length = search rules in
    let s : c.unwrap-state.result.now ≡ c.args.state.now = search rules in
    fill-accepted _ _ (c.in_ok-of_store.ensures.number ∙ right-length _ _ sized) refl _ (rw s at c.fill.ensures)
