-- `questions::of_control` meets its contract: the number of the store's questions stands, or they are passed and the others decide. Assumes nothing.
use native.Mathlib.Omega.{arith}
use Rattle.layout.specs.Numbers.{number_of, answer_of}
use Rattle.rules.specs.Questions.{control_refusal}
use mathlib.Core.Path.{◌≡◌, refl}
use Rattle.passes.proofs.Answers.{refused-before, passed-before}
use Rattle.sound.proofs.Accepted.{number-some}
use Rattle.questions.proofs.of_control.Goals as goal

pub returns-in_err-of_store : goal.returns-in_err-of_store
unfolding control_refusal
returns-in_err-of_store c =
    let e : answer_of c.from_residual.result ≡ number_of c.in_err-of_store.field-0.0 = grind arith in
    rw e (refused-before _ _ refl c.in_err-of_store.ensures.number (number-some c.in_err-of_store.field-0.0))

pub returns : goal.returns
unfolding control_refusal
returns c = passed-before _ _ refl c.in_ok-of_store.ensures.number refl c.control_questions.ensures
