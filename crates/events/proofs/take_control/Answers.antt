-- `take_control` meets its contract: the router's own outcome, by its answer. Assumes nothing.
use Rattle.std.proofs.lemmas.Result.{err_from_is_err_and}
use Rattle.events.specs.Tape.{take_control}
use Rattle.events.proofs.Numbers.{call-number}
use Rattle.events.proofs.take_control.Goals as goal

pub returns-in_err-router_control : goal.returns-in_err-router_control
unfolding take_control
returns-in_err-router_control c = λ arrivals out ans k w.
    let p = err_from_is_err_and c.from_residual.result c.from_residual.ensures.1 in
    rw (p.1, p.2, ← c.byte-register.ensures, ← c.byte-value.ensures, ← c.in_err-router_control.ensures, call-number c.in_err-router_control.field-0.0)
