-- `router::router_tick` meets its contract: a refusal alters nothing, and past the questions the areas have their lengths, the stack has room, and the work is `ticked`. Assumes nothing.
use mathlib.Core.Path.{◌≡◌, refl}
use native.Mathlib.Omega.{arith}
use borrow.Author.Rules.{rules}
use Rattle.layout.specs.Numbers.{number_of, answer_of}
use Rattle.sound.proofs.Accepted.{number-some}
use Rattle.router.proofs.Outcomes.{tick-refused, tick-accepted}
use Rattle.router.proofs.router_tick.Goals as goal

pub returns-in_err-of_tick : goal.returns-in_err-of_tick
returns-in_err-of_tick c =
    let e : answer_of c.from_residual.result ≡ number_of c.in_err-of_tick.field-0.0 = grind arith in
    rw e (tick-refused _ _ _ _ _ _ _ c.in_err-of_tick.ensures.number (number-some c.in_err-of_tick.field-0.0))

pub returns : goal.returns
returns c =
    let s : c.unwrap.result.now ≡ c.args.state.now = search rules in
    let m : c.unwrap-2.result.now ≡ c.args.memory.now = search rules in
    let a : c.unwrap-3.result.now ≡ c.args.arrivals.now = search rules in
    tick-accepted _ _ _ _ _ _ _ c.in_ok-of_tick.ensures.number refl _ _ _ (rw (s, m, a) at c.work.ensures)
