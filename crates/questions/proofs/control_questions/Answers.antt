-- `questions::control_questions` meets its contract: each return has a yes for every question before it. Assumes nothing.
use Prim.Native.Nat.{◌<◌}
use mathlib.Core.Path.{◌≡◌}
use native.Mathlib.Omega.{arith}
use Rattle.std.proofs.lemmas.Bool.Decides.{nat_tests}
use Rattle.rules.specs.Areas.{asked}
use Rattle.layout.specs.Numbers.{answer_of}
use Rattle.control.specs.Registers.{register_number}
use Rattle.control.proofs.Named.{number-known}
use Rattle.questions.proofs.control_questions.Goals as goal

pub returns-in_err-try_from : goal.returns-in_err-try_from
unfolding asked
returns-in_err-try_from c =
    let e : answer_of c.from_residual.result ≡ 4 = grind arith in
    let none : 5 < c.args.register = c.in_err-try_from.ensures.1 in
    rw e (grind (arith, nat_tests))

pub returns-then-not-fits : goal.returns-then-not-fits
unfolding asked
returns-then-not-fits c =
    let named : register_number c.in_ok-try_from.field-0 ≡ c.args.register = c.in_ok-try_from.ensures in
    rw (← named, number-known c.in_ok-try_from.field-0, ← c.fits.ensures, c.if-not-fits.true)

pub returns : goal.returns
unfolding asked
returns c =
    let named : register_number c.in_ok-try_from.field-0 ≡ c.args.register = c.in_ok-try_from.ensures in
    rw (← named, number-known c.in_ok-try_from.field-0, ← c.fits.ensures, c.if-not-fits.false)
