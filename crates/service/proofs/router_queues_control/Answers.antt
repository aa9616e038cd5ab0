-- `service::router_queues_control` meets its contract: a refusal alters nothing, and past the questions the register is known and the write is `written`. Assumes nothing.
use mathlib.Core.Bool.{not}
use mathlib.Core.Path.{◌≡◌, refl, sym, ap, ◌∙◌}
use native.Mathlib.Omega.{arith}
use borrow.Author.Rules.{rules}
use lib.ListN.{length}
use Rattle.layout.specs.Numbers.{number_of, answer_of}
use Rattle.queues.specs.Area.{queues_length}
use Rattle.sound.proofs.Accepted.{number-some}
use Rattle.control.proofs.Named.{named, number-named}
use Rattle.questions.proofs.Passed.{known, control-sized}
use Rattle.service.proofs.Outcomes.{wrong-length, router-refuses, queues-decide, control-refused, control-accepted}
use Rattle.service.proofs.router_queues_control.Goals as goal

pub returns-in_default : goal.returns-in_default
returns-in_default c = control-refused _ _ _ _ (wrong-length _ _ (λ e. omega (arith, c.in_default.ensures.cases))) (λ z. omega arith)

pub returns-in_err-of_control : goal.returns-in_err-of_control
returns-in_err-of_control c =
    let e : answer_of c.from_residual.result ≡ number_of c.in_err-of_control.field-0.0 = grind arith in
    let sized : length c.args.queues.now ≡ queues_length = search rules in
    let some = number-some c.in_err-of_control.field-0.0 in
    rw e (control-refused _ _ _ _ (router-refuses _ _ sized _ _ c.in_err-of_control.ensures some) some)

pub unwrap-requires : goal.unwrap-requires
unwrap-requires c = c.as_array-2.ensures.variant.1 (control-sized _ _ _ (sym c.in_ok-of_control.ensures))

pub returns-then-not-fitting : goal.returns-then-not-fitting
returns-then-not-fitting c =
    let sized : length c.args.queues.now ≡ queues_length = search rules in
    let s : c.unwrap.result.now ≡ c.args.state.now = search rules in
    let q : c.in-Some.queues.now ≡ c.args.queues.now = search rules in
    control-refused _ _ _ _ (queues-decide _ _ sized _ _ c.in_ok-of_control.ensures refl (rw (s, q) at c.fitting.ensures) (ap not c.if-not-fitting.true)) (λ z. omega arith)

pub unwrap-requires-2 : goal.unwrap-requires-2
unwrap-requires-2 c = named _ _ c.try_from.ensures (known _ _ c.args.value (sym c.in_ok-of_control.ensures))

pub returns : goal.returns
returns c =
    let sized : length c.args.queues.now ≡ queues_length = search rules in
    let s : c.unwrap.result.now ≡ c.args.state.now = search rules in
    let q : c.in-Some.queues.now ≡ c.args.queues.now = search rules in
    control-accepted _ _ _ _ (queues-decide _ _ sized _ _ c.in_ok-of_control.ensures refl (rw (s, q) at c.fitting.ensures) (ap not c.if-not-fitting.false)) refl _ (c.write_register.ensures ∙ rw (number-named _ _ _ c.try_from.ensures c.unwrap-2.ensures))
