-- `service::router_fault` meets its contract: no fault, a question's, or of stored packets the lowest bad slot (Faults). Assumes nothing.
use mathlib.Core.Path.{◌≡◌}
use borrow.Author.Rules.{rules}
use Rattle.service.proofs.Faults.{no-fault, question-fault, lengths, some-slot, slot-fault}
use Rattle.service.proofs.router_fault.Goals as goal

pub returns-in_err-refusal : goal.returns-in_err-refusal
returns-in_err-refusal c = rw c.from_residual.ensures (no-fault _ _ c.of_store.ensures.number c.in_err-refusal.ensures.value)

pub unwrap-requires : goal.unwrap-requires
unwrap-requires c = c.as_array.ensures.variant.1 (lengths _ _ c.of_store.ensures.number _ c.in_ok-refusal.ensures.value c.in-Packets.is).0

pub unwrap-requires-in-Packets : goal.unwrap-requires-in-Packets
unwrap-requires-in-Packets c = c.as_array-in-Packets.ensures.variant.1 (lengths _ _ c.of_store.ensures.number _ c.in_ok-refusal.ensures.value c.in-Packets.is).1

pub returns-in_err-slot-in-Packets : goal.returns-in_err-slot-in-Packets
returns-in_err-slot-in-Packets c =
    let s : c.unwrap.result.now ≡ c.args.state.now = search rules in
    let m : c.unwrap-in-Packets.result.now ≡ c.args.memory.now = search rules in
    absurd (some-slot _ _ c.of_store.ensures.number _ c.in_ok-refusal.ensures.value c.in-Packets.is (rw (s, m) at c.in_err-slot-in-Packets.ensures))

pub returns-in_ok-slot-in-Packets : goal.returns-in_ok-slot-in-Packets
returns-in_ok-slot-in-Packets c =
    let s : c.unwrap.result.now ≡ c.args.state.now = search rules in
    let m : c.unwrap-in-Packets.result.now ≡ c.args.memory.now = search rules in
    slot-fault _ _ c.of_store.ensures.number _ c.in_ok-refusal.ensures.value c.in-Packets.is _ (rw (s, m) at c.in_ok-slot-in-Packets.ensures)

pub returns-in_default : goal.returns-in_default
returns-in_default c = question-fault _ _ c.of_store.ensures.number _ c.in_ok-refusal.ensures.value c.in_default.not-Packets
