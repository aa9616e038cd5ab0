-- `take_tick` meets its contract: the router's own outcome, whatever the lent areas held (`tick-same` of Taking). Assumes nothing.
use Rattle.std.proofs.Common.{◌∙◌, ap, rules}
use Rattle.std.proofs.lemmas.Result.{err_from_is_err_and}
use Rattle.rules.specs.Areas.{Store, Outcome}
use Rattle.events.specs.Tape.{after_tick}
use Rattle.events.specs.Values.{tape_in}
use Rattle.events.proofs.Numbers.{call-number}
use Rattle.events.proofs.Taking.{tick-same}
use Rattle.events.proofs.take_tick.Goals as goal

pub returns-in_err-router_tick : goal.returns-in_err-router_tick
returns-in_err-router_tick c = λ k.
    let σ = tape_in c.args.state.now c.args.memory.now c.args.arrivals.now c.args.pending.now in
    let outcome = rw c.byte-waiting.ensures at c.in_err-router_tick.ensures in
    let taken = rw (call-number c.in_err-router_tick.field-0.0) at (ap (λ (o : Outcome Store). after_tick σ k o) outcome) in
    let p = err_from_is_err_and c.from_residual.result c.from_residual.ensures.1 in
    rw (p.1, p.2) (taken ∙ tick-same σ k c.args.bytes.now c.args.outgoing.now c.args.answers.now (search rules) (search rules))

pub returns : goal.returns
returns c = λ k.
    let σ = tape_in c.args.state.now c.args.memory.now c.args.arrivals.now c.args.pending.now in
    let outcome = rw c.byte-waiting.ensures at c.in_ok-router_tick.ensures in
    rw (c.get-clock.ensures) (ap (λ (o : Outcome Store). after_tick σ k o) outcome ∙ tick-same σ k c.args.bytes.now c.args.outgoing.now c.args.answers.now (search rules) (search rules))
