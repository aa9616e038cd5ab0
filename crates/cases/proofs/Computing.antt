-- What a run of the router that never turns over computes with, and the test that its calls are proper. Assumes nothing.
use Prim.Native.Nat.{ℕ}
use Rattle.rules.specs.Clock as K
use Rattle.rules.specs.Order as O
use Rattle.rules.specs.Areas as A
use Rattle.rules.specs.Whole as W
use Rattle.rules.specs.Calls as C
use Rattle.rules.specs.Account as N
use Rattle.rules.specs.Given as goal
use Rattle.cases.proofs.Proper as P

-- All of this unfolds where this one does.
unfoldable pub computing : ℕ
unfolding goal.number goal.limit goal.number_due goal.is_tick goal.clock_after O.by O.then O.on_time_first O.comparator K.cut K.minus K.signed K.offset O.better O.least O.all O.counted O.count O.top_first A.bits A.half A.value A.digits A.packet A.stamp A.payload A.packed A.has A.without A.fits A.ports_below A.grant_code A.areas_full A.answers_area W.put W.start W.written W.placed W.admitted W.to_serve W.granted W.grant W.lose W.sent W.served W.is_due W.due W.withdrawn W.remaining W.is_held W.emptied W.arrival_refusal W.arrival W.arrived W.ticked W.packet_bytes W.grant_bytes W.outgoing_bytes W.arrival_code W.answer_bytes A.asked A.arrival_answer C.refusal C.accept C.refuse C.whole_step C.after_all C.replies N.same_packet N.is_sent N.times N.stored P.are_bytes P.is_true_time P.is_proper_call P.is_proper
computing = 0
