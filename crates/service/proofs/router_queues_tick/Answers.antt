-- `service::router_queues_tick` meets its contract: a refusal alters nothing, and past the questions the areas have their lengths, the stack has room, and the work is `ticked`.
-- Assumes nothing.
use mathlib.Core.Bool.{not}
use mathlib.Core.Path.{◌≡◌, refl, ap}
use native.Mathlib.Omega.{arith}
use borrow.Author.Rules.{rules}
use lib.ListN.{length}
use Rattle.layout.specs.Numbers.{number_of, answer_of}
use Rattle.queues.specs.Area.{queues_length}
use Rattle.sound.proofs.Accepted.{number-some}
use Rattle.service.proofs.Outcomes.{wrong-length, router-refuses, queues-decide, tick-refused, tick-accepted}
use Rattle.service.proofs.router_queues_tick.Goals as goal

pub returns-in_default : goal.returns-in_default
returns-in_default c = tick-refused _ _ _ _ _ _ _ (wrong-length _ _ (λ e. omega (arith, c.in_default.ensures.cases))) (λ z. omega arith) _ _ refl refl

pub returns-in_err-of_tick : goal.returns-in_err-of_tick
returns-in_err-of_tick c =
    let e : answer_of c.from_residual.result ≡ number_of c.in_err-of_tick.field-0.0 = grind arith in
    let sized : length c.args.queues.now ≡ queues_length = search rules in
    let q : c.in-Some.queues.now ≡ c.args.queues.now = search rules in
    let some = number-some c.in_err-of_tick.field-0.0 in
    rw e (tick-refused _ _ _ _ _ _ _ (router-refuses _ _ sized _ _ c.in_err-of_tick.ensures.number some) some _ _ refl q)

pub returns-then-not-fitting : goal.returns-then-not-fitting
returns-then-not-fitting c =
    let sized : length c.args.queues.now ≡ queues_length = search rules in
    let s : c.unwrap-state.result.now ≡ c.args.state.now = search rules in
    let q : c.in-Some.queues.now ≡ c.args.queues.now = search rules in
    tick-refused _ _ _ _ _ _ _ (queues-decide _ _ sized _ _ c.in_ok-of_tick.ensures.number refl (rw (s, q) at c.fitting.ensures) (ap not c.if-not-fitting.true)) (λ z. omega arith) _ _ s q

pub returns : goal.returns
returns c =
    let sized : length c.args.queues.now ≡ queues_length = search rules in
    let s : c.unwrap-state.result.now ≡ c.args.state.now = search rules in
    let q : c.in-Some.queues.now ≡ c.args.queues.now = search rules in
    let m : c.unwrap.result.now ≡ c.args.memory.now = search rules in
    let a : c.unwrap-2.result.now ≡ c.args.arrivals.now = search rules in
    tick-accepted _ _ _ _ _ _ _ (queues-decide _ _ sized _ _ c.in_ok-of_tick.ensures.number refl (rw (s, q) at c.fitting.ensures) (ap not c.if-not-fitting.false)) refl _ _ _ (rw (s, m, q, a) at c.work.ensures)
