-- `router::router_control` meets its contract: a refusal alters nothing, and past the questions the register is known and the write is `written`. Assumes nothing.
use mathlib.Core.Path.{◌≡◌, refl, sym, ◌∙◌}
use native.Mathlib.Omega.{arith}
use borrow.Author.Rules.{rules}
use Rattle.layout.specs.Numbers.{number_of, answer_of}
use Rattle.sound.proofs.Accepted.{number-some}
use Rattle.control.proofs.Named.{named, number-named}
use Rattle.questions.proofs.Passed.{known, control-sized}
use Rattle.router.proofs.Outcomes.{control-refused, control-accepted}
use Rattle.router.proofs.router_control.Goals as goal

pub returns-in_err-of_control : goal.returns-in_err-of_control
returns-in_err-of_control c =
    let e : answer_of c.from_residual.result ≡ number_of c.in_err-of_control.field-0.0 = grind arith in
    rw e (control-refused _ _ _ _ c.in_err-of_control.ensures (number-some c.in_err-of_control.field-0.0))

pub unwrap-state-requires : goal.unwrap-state-requires
unwrap-state-requires c = c.as_mut_array.ensures.variant.1 (control-sized _ _ _ (sym c.in_ok-of_control.ensures))

pub unwrap-register-requires : goal.unwrap-register-requires
unwrap-register-requires c = named _ _ c.try_from.ensures (known _ _ c.args.value (sym c.in_ok-of_control.ensures))

pub returns : goal.returns
returns c =
    let s : c.unwrap-state.result.now ≡ c.args.state.now = search rules in
    control-accepted _ _ _ _ c.in_ok-of_control.ensures refl _ (rw s at c.write_register.ensures ∙ rw (number-named _ _ _ c.try_from.ensures c.unwrap-register.ensures))
