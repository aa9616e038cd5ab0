-- Wrong routers that never turn over: the five wrong routers that look sound and the six to be shut out of document 01, and others that once met the claims. Each is ours with one part changed. Assumes nothing.
use Rattle.std.specs.Prelude.{ℕ, zero, suc, Bool, true, false, cond, not, ◌&&◌, List, [], ◌∷◌, ◌++◌, length, replicate, ltb, eqb, ℤ, pos, neg_ℤ, ◌+ℤ◌, ◌-ℤ◌}
use Rattle.std.proofs.Math.Option.{Option, none, some}
use Rattle.std.specs.Int.Signed.{le_z, lt_z}
use Rattle.rules.specs.Clock.{cut}
use Rattle.rules.specs.Order.{Order, by, then, Key, on_time_first, comparator, least}
use Rattle.rules.specs.Areas.{Outcome, number_reply, byte, packet, has, per_port, no_packet, answers_area, Grant, nobody, best_effort, on_time, early}
use Rattle.rules.specs.Whole.{Packet, Held, Router, TickCall, Arrival, absent, refused, accepted, Report, Ticked, put, with_places, start, written, admitted, to_serve, packet_key, packet_key_of, granted, grant, sent, withdrawn, remaining, is_held, emptied, advanced, arrival, meets, packet_bytes, outgoing_bytes, arrival_code, answer_bytes}
use Rattle.rules.specs.Calls.{Call, control, tick, refusal, refuse, whole_step}
use Rattle.rules.specs.Demand3.{NeverOver}

-- ---- a router by its parts: an accepted control write, what an arrival meets, who has a port, what sending does, the end of a tick and what it withdraws, and the bytes of its report

module _ (write : ℕ → ℕ → Router → Router) (meet : TickCall → Router → ℕ → Arrival) (choose : Router → ℕ → ℕ → Grant (ℕ × Packet)) (send : ℕ → Grant (ℕ × Packet) → Router → Router)
    (end : ℤ → Router → Router) (gone : ℤ → Router → ℕ → List Packet) (out : Router → Report → List ℕ) (ans : Report → List ℕ) where
  unfoldable pub arrived_by : ℕ → TickCall → Router → Router
  arrived_by zero call r = r
  arrived_by (suc p) call r = let r' = arrived_by p call r in admitted (meet call r' p) r'

  unfoldable pub served_by : ℕ → ℕ → Router → Router
  served_by zero b r = r
  served_by (suc p) b r = let r' = served_by p b r in send p (choose r' b p) r'

  unfoldable pub ticked_by : Router → TickCall → Ticked
  ticked_by r call =
      let r₁ = arrived_by 5 call r in
      let b = call.best_effort in
      let r₂ = served_by 5 b r₁ in
      record { router = advanced (end r₂.clock r₂); report = record { arrival = λ p. meet call (arrived_by p call r) p; grant = λ p. choose (served_by p b r₁) b p; withdrawn = λ p. gone r₂.clock r₂ p } }

  unfoldable pub accept_by : Router → Call → Outcome Router
  accept_by r (control register v) = record { reply = number_reply 0; after = write register v r }
  accept_by r (tick k o a) = let t = ticked_by r k in record { reply = record { number = 0; outgoing = out r t.report; answers = ans t.report }; after = t.router }

  unfoldable pub step_by : Router → Call → Outcome Router
  step_by r k = let n = refusal 1 r k in cond (eqb n 0) (accept_by r k) (refuse 1 r k n)

  abbrev pub built : NeverOver
  built = record { first = start; step = step_by; report = λ r k. (ticked_by r k).report }

-- Our end of a tick, what it withdraws, and its outgoing bytes; the others are constants of Whole.
abbrev pub ends : ℤ → Router → Router
ends T r = emptied T 256 r

abbrev pub leaves : ℤ → Router → ℕ → List Packet
leaves T r p = withdrawn T r.place p 256

abbrev pub sends : Router → Report → List ℕ
sends r t = outgoing_bytes 1 t

-- ---- document 01, "What these promises must hold fast"

-- What would be accepted is refused with q: by a router refusing every packet (6), by one answering 8 while n is above 0, and by one that answers 1 and stores nothing.
unfoldable pub refusing : ℕ → Arrival → Arrival
refusing q absent = absent
refusing q (refused n) = refused n
refusing q (accepted x) = refused q

abbrev pub refuses_all : ℕ → NeverOver
refuses_all q = built written (λ call r p. refusing q (meets 1 call r p)) grant sent ends leaves sends answer_bytes

-- Always idle.
abbrev pub idles : NeverOver
idles = built written (meets 1) (λ r b p. nobody) sent ends leaves sends answer_bytes

-- Moving only the clock.
abbrev pub moves_the_clock : NeverOver
moves_the_clock = built written (λ call r p. absent) (λ r b p. nobody) sent (λ T r. r) (λ T r p. []) sends answer_bytes

-- Storing, and pretending to send in later ticks: a packet that arrived before this tick goes out as zeros.
unfoldable pub pretended : ℤ → Grant (ℕ × Packet) → List ℕ
pretended T nobody = no_packet
pretended T best_effort = no_packet
pretended T (on_time (i, x)) = cond (lt_z x.arrived T) no_packet (packet_bytes 1 x)
pretended T (early (i, x)) = cond (lt_z x.arrived T) no_packet (packet_bytes 1 x)

abbrev pub pretends : NeverOver
pretends = built written (meets 1) grant sent ends leaves (λ r t. per_port (λ p. pretended r.clock (t.grant p))) answer_bytes

-- Inventing withdrawals: every port left is withdrawn in every tick.
unfoldable pub all_left : (ℕ → Option Held) → ℕ → ℕ → List Packet
all_left f p zero = []
all_left f p (suc i) = all_left f p i ++ listed (to_serve (f i) p)
  where
    listed : Option Packet → List Packet
    listed none = []
    listed (some x) = x ∷ []

abbrev pub withdraws_all : NeverOver
withdraws_all = built written (meets 1) grant sent (λ T r. with_places r (λ i. none) (start 0).free) (λ T r p. all_left r.place p 256) sends answer_bytes

-- ---- document 01, "Wrong routers that look sound"

-- From the least by a test of earliness: the port's grant as ours makes it, best-effort before an early packet or behind it.
unfoldable pub granted_by : (Packet → Bool) → Bool → Option (ℕ × Packet) → Bool → ℤ → ℕ → Grant (ℕ × Packet)
granted_by is_early passes none b T h = cond b best_effort nobody
granted_by is_early passes (some w) b T h = cond (is_early w.1) (cond (b && not passes) best_effort (cond (le_z (w.1.time -ℤ T) (pos h)) (early w) (cond b best_effort nobody))) (on_time w)

abbrev pub choosing : (ℤ → Packet → Key) → (ℤ → Packet → Bool) → Bool → Router → ℕ → ℕ → Grant (ℕ × Packet)
choosing key is_early passes r b p = granted_by (is_early r.clock) passes (least (by (key r.clock) comparator) (λ i. to_serve (r.place i) p) 256) (has b p) r.clock (r.horizon p)

-- Comparing time > t as plain bytes.
abbrev pub plainly_early : ℤ → Packet → Bool
plainly_early T x = ltb (cut 8 T) (cut 8 x.time)

abbrev pub compares_plainly : NeverOver
compares_plainly = built written (meets 1) (choosing (λ T x. packet_key_of (plainly_early T x) x) plainly_early false) sent ends leaves sends answer_bytes

-- Letting early packets pass waiting best-effort.
abbrev pub passes_best_effort : NeverOver
passes_best_effort = built written (meets 1) (choosing packet_key (λ T x. lt_z T x.time) true) sent ends leaves sends answer_bytes

-- Freeing a multicast slot after its first port.
unfoldable pub none_left : Option Held → Option Held
none_left none = none
none_left (some x) = some (record { packet = x.packet; left = 0 })

unfoldable pub freed : ℕ → Grant (ℕ × Packet) → Router → Router
freed p nobody r = r
freed p best_effort r = r
freed p (on_time (i, x)) r = with_places r (put r.place i (none_left (r.place i))) r.free
freed p (early (i, x)) r = with_places r (put r.place i (none_left (r.place i))) r.free

abbrev pub frees_after_first : NeverOver
frees_after_first = built written (meets 1) grant freed ends leaves sends answer_bytes

-- Taking d from the table at sending time: a packet keeps no connection, so this is the router that looks it up by the outgoing identifier, where both are one.
abbrev pub from_table : Router → Packet → Packet
from_table r x = record { arrived = x.arrived; input = x.input; time = x.time; deadline = x.time +ℤ pos (r.entry x.identifier).delay; identifier = x.identifier; payload = x.payload; mask = x.mask }

abbrev pub takes_table_delay : NeverOver
takes_table_delay = built written (meets 1) (λ r b p. granted (least (by (λ x. packet_key r.clock (from_table r x)) comparator) (λ i. to_serve (r.place i) p) 256) (has b p) r.clock (r.horizon p)) sent ends leaves sends answer_bytes

-- Treating offset -128 as early: 128 ticks before the clock is taken for 128 after it.
abbrev pub raised : ℤ → ℤ → ℤ
raised T u = cond (le_z (u -ℤ T) (neg_ℤ (pos 128))) (u +ℤ pos 256) u

abbrev pub reads_minus128_early : NeverOver
reads_minus128_early = built written (λ call r p. arrival 1 r call.arriving p (packet call.arrivals p) (raised r.clock (call.times p))) grant sent ends leaves sends answer_bytes

-- ---- others that agree with a router over bytes of the same fault

-- Accepting control writes and ignoring them.
abbrev pub ignores_writes : NeverOver
ignores_writes = built (λ register v r. r) (meets 1) grant sent ends leaves sends answer_bytes

-- Leaving a packet the identifier that it came with.
unfoldable pub kept : ℕ → Arrival → Arrival
kept i absent = absent
kept i (refused q) = refused q
kept i (accepted x) = accepted (record { arrived = x.arrived; input = x.input; time = x.time; deadline = x.deadline; identifier = i; payload = x.payload; mask = x.mask })

abbrev pub keeps_identifier : NeverOver
keeps_identifier = built written (λ call r p. kept (byte (packet call.arrivals p) 0) (meets 1 call r p)) grant sent ends leaves sends answer_bytes

-- Refusing every tick with 3.
unfoldable pub refusing_ticks : Router → Call → Outcome Router
refusing_ticks r (control register v) = whole_step 1 r (control register v)
refusing_ticks r (tick k out ans) = refuse 1 r (tick k out ans) 3

abbrev pub refuses_ticks : NeverOver
refuses_ticks = record { first = start; step = refusing_ticks; report = λ r k. (ticked_by written (meets 1) grant sent ends leaves sends answer_bytes r k).report }

-- Exchanging a port's codes 1 and 3.
unfoldable pub exchanged : Grant (ℕ × Packet) → ℕ
exchanged nobody = 0
exchanged (on_time x) = 3
exchanged best_effort = 2
exchanged (early x) = 1

abbrev pub exchanges_codes : NeverOver
exchanges_codes = built written (meets 1) grant sent ends leaves sends (λ t. answers_area (λ p. exchanged (t.grant p)) (λ p. arrival_code (t.arrival p)) (λ p. length (t.withdrawn p)))

-- Sending nines on an idle port.
unfoldable pub nines : Grant (ℕ × Packet) → List ℕ
nines nobody = replicate 20 9
nines best_effort = no_packet
nines (on_time (i, x)) = packet_bytes 1 x
nines (early (i, x)) = packet_bytes 1 x

abbrev pub sends_nines : NeverOver
sends_nines = built written (meets 1) grant sent ends leaves (λ r t. per_port (λ p. nines (t.grant p))) answer_bytes

-- Giving a place back under the first of the free list.
unfoldable pub under : ℕ → List ℕ → List ℕ
under i [] = i ∷ []
under i (j ∷ l) = j ∷ i ∷ l

unfoldable pub emptied_under : ℤ → ℕ → Router → Router
emptied_under T zero r = r
emptied_under T (suc i) r =
    let r' = emptied_under T i r in
    let h = remaining T (r'.place i) in
    with_places r' (put r'.place i h) (cond (is_held (r'.place i) && not (is_held h)) (under i r'.free) r'.free)

abbrev pub gives_back_under : NeverOver
gives_back_under = built written (meets 1) grant sent (λ T r. emptied_under T 256 r) leaves sends answer_bytes

-- Letting the place decide among equal keys, whoever has waited (document 02, [4]).
unfoldable pub one_key : Order Key
one_key = then (by (λ k. k.early) on_time_first) (by (λ k. k.key) lt_z)

abbrev pub ties_by_place : NeverOver
ties_by_place = built written (meets 1) (λ r b p. granted (least (by (packet_key r.clock) one_key) (λ i. to_serve (r.place i) p) 256) (has b p) r.clock (r.horizon p)) sent ends leaves sends answer_bytes

-- Letting the higher place go first among equal times.
abbrev pub sends_higher_place : NeverOver
sends_higher_place = built written (meets 1) (λ r b p. granted (least (λ x y. not (by (packet_key r.clock) comparator y x)) (λ i. to_serve (r.place i) p) 256) (has b p) r.clock (r.horizon p)) sent ends leaves sends answer_bytes
