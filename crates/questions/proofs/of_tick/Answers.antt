-- `questions::of_tick` meets its contract: a wrong length stops the call, then a fault does; else the masks decide. Assumes nothing.
use native.Mathlib.Omega.{arith}
use Rattle.std.proofs.lemmas.Bool.Decides.{nat_tests}
use mathlib.Core.Path.{◌≡◌, refl, sym, ◌∙◌}
use mathlib.Core.Bool.{and-true}
use Rattle.layout.specs.Numbers.{number_of, answer_of}
use Rattle.rules.specs.Areas.{asked}
use Rattle.rules.specs.Questions.{tick_refusal}
use Rattle.passes.proofs.Answers.{refused-before, passed-before}
use Rattle.sound.proofs.Accepted.{number-some, on_accepted}
use Rattle.questions.proofs.Passed.{areas-lengths}
use Rattle.questions.proofs.of_tick.Goals as goal

pub returns-then-not-areas_full-clause-number : goal.returns-then-not-areas_full-clause-number
unfolding tick_refusal asked
returns-then-not-areas_full-clause-number c = grind (arith, nat_tests)

pub returns-in_err-of_store-clause-number : goal.returns-in_err-of_store-clause-number
unfolding tick_refusal
returns-in_err-of_store-clause-number c =
    let e : answer_of c.from_residual.result ≡ number_of c.in_err-of_store.field-0.0 = grind arith in
    rw (e, ← c.areas_full.ensures, c.if-not-areas_full.false, and-true) (refused-before _ _ refl c.in_err-of_store.ensures.number (number-some c.in_err-of_store.field-0.0))

pub returns-clause-number : goal.returns-clause-number
unfolding tick_refusal
returns-clause-number c = rw (← c.areas_full.ensures, c.if-not-areas_full.false, and-true) (passed-before _ _ refl c.in_ok-of_store.ensures.number refl c.tick_questions.ensures)

pub returns-clause-lengths : goal.returns-clause-lengths
returns-clause-lengths c =
    let whole = c.in_ok-of_store.ensures.whole in
    let areas = areas-lengths _ _ _ (sym c.areas_full.ensures ∙ c.if-not-areas_full.false) in
    on_accepted c.tick_questions.result (λ _. (whole.0, whole.1, areas.0, areas.1, areas.2, whole.2))
