-- What `take_record` asks of `take_arrival`: an accepted arrival is whole, and its port one of the five, without a packet (`accepted-length`, `accepted-port` of Refusals). Assumes nothing.
use Rattle.std.proofs.Common.{sym, arith}
use Rattle.records.proofs.Refusals.{accepted-length, accepted-port}
use Rattle.events.proofs.take_record.Goals as goal

pub take_arrival-requires : goal.take_arrival-requires
take_arrival-requires c =
    let accepted = sym c.in_ok-questions.ensures.answered in
    let kind = rw c.in-Arrival.is at c.in_ok-questions.ensures.kind in
    let free = accepted-port _ _ accepted (sym kind) in
    record { whole = accepted-length _ _ accepted; port = omega (arith, free.0); free = free.1 }
