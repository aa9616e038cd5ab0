-- The router that never turns over (document 01): its times are whole numbers, and it sees no byte of state or memory. Assumes nothing.
use Rattle.std.specs.Prelude.{ℕ, zero, suc, ◌-◌, Bool, true, false, cond, not, ◌&&◌, ◌||◌, List, [], ◌∷◌, ◌++◌, length, eqb, ℤ, pos, ◌+ℤ◌, ◌-ℤ◌}
use Rattle.std.proofs.Math.Option.{Option, none, some}
use Rattle.std.proofs.Math.IntN.{suc_ℤ}
use Rattle.std.specs.Int.Signed.{lt_z, le_z}
use Rattle.rules.specs.Clock.{cut}
use Rattle.rules.specs.Order.{by, Key, comparator, least, top_first}
use Rattle.rules.specs.Areas.{asked, arrival_questions, byte, bits, packet, payload, packed, has, without, latch_place, per_port, Grant, nobody, best_effort, on_time, early, grant_code, no_packet, answers_area}

-- An accepted packet. Tick and port of arrival tell it from every other.
pub record Packet : Type 0 where
  pub arrived : ℤ
  pub input : ℕ
  pub time : ℤ
  pub deadline : ℤ
  pub identifier : ℕ
  pub payload : List ℕ
  pub mask : ℕ

-- A packet in its place, with the ports left.
pub record Held : Type 0 where
  pub packet : Packet
  pub left : ℕ

pub record Entry : Type 0 where
  pub identifier : ℕ
  pub delay : ℕ
  pub mask : ℕ

pub record Router : Type 0 where
  pub clock : ℤ
  pub horizon : ℕ → ℕ
  pub latch : ℕ → ℕ
  pub entry : ℕ → Entry
  pub place : ℕ → Option Held
  pub free : List ℕ

-- What a tick feeds it: the two masks, the arrivals' bytes, and the true logical arrival time of the packet arriving on each port.
pub record TickCall : Type 0 where
  pub arriving : ℕ
  pub best_effort : ℕ
  pub arrivals : List ℕ
  pub times : ℕ → ℤ

unfoldable pub put : {A : Type 0} → (ℕ → A) → ℕ → A → ℕ → A
put f i v j = cond (eqb i j) v (f j)

-- At first the clock is the fresh clock byte, and the places are free, the lowest first.
unfoldable pub start : ℕ → Router
start t = record { clock = pos t; horizon = λ p. 0; latch = λ r. 0; entry = λ i. record { identifier = 0; delay = 0; mask = 0 }; place = λ i. none; free = top_first (λ i. 255 - i) 256 }

abbrev pub with_places : Router → (ℕ → Option Held) → List ℕ → Router
with_places r f l = record { clock = r.clock; horizon = r.horizon; latch = r.latch; entry = r.entry; place = f; free = l }

-- A control write does here what it does in the router over bytes.
unfoldable pub written : ℕ → ℕ → Router → Router
written register v r = record {
  clock = r.clock;
  horizon = λ p. cond (eqb register 5 && has (r.latch 3) p) v (r.horizon p);
  latch = cond (eqb register 3 || eqb register 5) r.latch (put r.latch (latch_place register) v);
  entry = cond (eqb register 3) (put r.entry v (record { identifier = r.latch 0; delay = r.latch 1; mask = r.latch 2 })) r.entry;
  place = r.place;
  free = r.free;
}

-- What an arriving packet meets.
pub data Arrival : Type 0 where
  absent : Arrival
  refused : ℕ → Arrival
  accepted : Packet → Arrival

-- A packet takes the first free place.
unfoldable pub placed : List ℕ → Packet → Router → Router
placed [] x r = r
placed (i ∷ l) x r = with_places r (put r.place i (some (record { packet = x; left = x.mask }))) l

unfoldable pub admitted : Arrival → Router → Router
admitted absent r = r
admitted (refused q) r = r
admitted (accepted x) r = placed r.free x r

-- The packet in a place that has port p left.
unfoldable pub to_serve : Option Held → ℕ → Option Packet
to_serve none p = none
to_serve (some x) p = cond (has x.left p) (some x.packet) none

-- What the comparator sees of a packet, early if e: on-time packets go by their deadlines, then their times; early ones by their times, then their deadlines.
abbrev pub packet_key_of : Bool → Packet → Key
packet_key_of e x = record { early = e; key = cond e x.time x.deadline; second = cond e x.deadline x.time }

-- At the clock T.
abbrev pub packet_key : ℤ → Packet → Key
packet_key T x = packet_key_of (lt_z T x.time) x

-- From the winner, best-effort's wait, the clock and the horizon.
unfoldable pub granted : Option (ℕ × Packet) → Bool → ℤ → ℕ → Grant (ℕ × Packet)
granted none b T h = cond b best_effort nobody
granted (some w) b T h = cond (lt_z T w.1.time) (cond b best_effort (cond (le_z (w.1.time -ℤ T) (pos h)) (early w) nobody)) (on_time w)

-- The least by the comparator wins; where both keys are equal, the lower place.
unfoldable pub grant : Router → ℕ → ℕ → Grant (ℕ × Packet)
grant r b p = granted (least (by (packet_key r.clock) comparator) (λ i. to_serve (r.place i) p) 256) (has b p) r.clock (r.horizon p)

unfoldable pub lose : ℕ → Option Held → Option Held
lose p none = none
lose p (some x) = some (record { packet = x.packet; left = without x.left p })

unfoldable pub sent : ℕ → Grant (ℕ × Packet) → Router → Router
sent p nobody r = r
sent p best_effort r = r
sent p (on_time (i, x)) r = with_places r (put r.place i (lose p (r.place i))) r.free
sent p (early (i, x)) r = with_places r (put r.place i (lose p (r.place i))) r.free

unfoldable pub served : ℕ → ℕ → Router → Router
served zero b r = r
served (suc p) b r = let r' = served p b r in sent p (grant r' b p) r'

-- In the tick D = T the ports left are withdrawn.
unfoldable pub is_due : ℤ → Packet → Bool
is_due T x = le_z x.deadline T && le_z T x.deadline

unfoldable pub due : ℤ → Option Packet → List Packet
due T none = []
due T (some x) = cond (is_due T x) (x ∷ []) []

-- The packets withdrawn on port p from the places below i.
unfoldable pub withdrawn : ℤ → (ℕ → Option Held) → ℕ → ℕ → List Packet
withdrawn T f p zero = []
withdrawn T f p (suc i) = withdrawn T f p i ++ due T (to_serve (f i) p)

-- What a place holds once its due ports are lost.
unfoldable pub remaining : ℤ → Option Held → Option Held
remaining T none = none
remaining T (some x) = cond (is_due T x.packet || eqb x.left 0) none (some x)

unfoldable pub is_held : Option Held → Bool
is_held none = false
is_held (some x) = true

-- A place emptied goes to the front of the free list.
unfoldable pub emptied : ℤ → ℕ → Router → Router
emptied T zero r = r
emptied T (suc i) r =
    let r' = emptied T i r in
    let h = remaining T (r'.place i) in
    with_places r' (put r'.place i h) (cond (is_held (r'.place i) && not (is_held h)) (i ∷ r'.free) r'.free)

abbrev pub advanced : Router → Router
advanced r = record { clock = suc_ℤ r.clock; horizon = r.horizon; latch = r.latch; entry = r.entry; place = r.place; free = r.free }

-- What a tick did, and the router after it.
pub record Report : Type 0 where
  pub arrival : ℕ → Arrival
  pub grant : ℕ → Grant (ℕ × Packet)
  pub withdrawn : ℕ → List Packet

pub record Ticked : Type 0 where
  pub router : Router
  pub report : Report

-- For a clock reading of c bytes in the headers.
module _ (c : ℕ) where
  -- The questions of the packet k of time u, the packet that it makes on port p, and what it meets there.
  unfoldable pub arrival_refusal : Router → List ℕ → ℤ → ℕ
  arrival_refusal r k u =
      let e = r.entry (byte k 0) in
      asked (arrival_questions (not (eqb e.mask 0)) (le_z r.clock (u +ℤ pos e.delay)) (not (eqb (length r.free) 0)))

  abbrev pub made : Router → ℕ → List ℕ → ℤ → Packet
  made r p k u =
      let e = r.entry (byte k 0) in
      record { arrived = r.clock; input = p; time = u; deadline = u +ℤ pos e.delay; identifier = e.identifier; payload = payload c k; mask = e.mask }

  unfoldable pub arrival : Router → ℕ → ℕ → List ℕ → ℤ → Arrival
  arrival r arriving p k u = let q = arrival_refusal r k u in cond (has arriving p) (cond (eqb q 0) (accepted (made r p k u)) (refused q)) absent

  -- What the arrival on port p of a call meets at the router r, and the router after those on the ports below p.
  abbrev pub meets : TickCall → Router → ℕ → Arrival
  meets call r p = arrival r call.arriving p (packet call.arrivals p) (call.times p)

  unfoldable pub arrived : ℕ → TickCall → Router → Router
  arrived zero call r = r
  arrived (suc p) call r = let r' = arrived p call r in admitted (meets call r' p) r'

  unfoldable pub ticked : Router → TickCall → Ticked
  ticked r call =
      let r₁ = arrived 5 call r in
      let b = call.best_effort in
      let r₂ = served 5 b r₁ in
      record {
        router = advanced (emptied r₂.clock 256 r₂);
        report = record {
          arrival = λ p. meets call (arrived p call r) p;
          grant = λ p. grant (served p b r₁) b p;
          withdrawn = λ p. withdrawn r₂.clock r₂.place p 256;
        };
      }

  -- Its bytes, from the report: a packet goes out as outgoing identifier, deadline cut to a clock reading, data.
  unfoldable pub packet_bytes : Packet → List ℕ
  packet_bytes x = packed c x.identifier (cut (bits c) x.deadline) x.payload

  unfoldable pub grant_bytes : Grant (ℕ × Packet) → List ℕ
  grant_bytes nobody = no_packet
  grant_bytes best_effort = no_packet
  grant_bytes (on_time (i, x)) = packet_bytes x
  grant_bytes (early (i, x)) = packet_bytes x

  unfoldable pub outgoing_bytes : Report → List ℕ
  outgoing_bytes t = per_port (λ p. grant_bytes (t.grant p))

unfoldable pub arrival_code : Arrival → ℕ
arrival_code absent = 0
arrival_code (refused q) = q
arrival_code (accepted x) = 1

unfoldable pub answer_bytes : Report → List ℕ
answer_bytes t = answers_area (λ p. grant_code (t.grant p)) (λ p. arrival_code (t.arrival p)) (λ p. length (t.withdrawn p))
