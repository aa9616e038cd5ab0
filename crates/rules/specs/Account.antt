-- The account of each accepted packet on each port, over what the ticks of a run did (demand 3). Assumes nothing.
use Rattle.std.specs.Prelude.{ℕ, ◌+◌, ◌-◌, ◌*◌, ◌/◌, ◌%◌, ◌<◌, ◌≤◌, ◌≡◌, Bool, true, false, cond, not, ◌&&◌, ◌⊎◌, length, get_or, drop, eqb, ℤ, pos, ◌+ℤ◌, ◌-ℤ◌, ◌≤ℤ◌, ◌<ℤ◌}
use mathlib.Core.List.{List, [], ◌∷◌, ◌++◌, Memᴰ}
use Rattle.std.proofs.Math.Option.{Option, none, some}
use Rattle.std.specs.Int.Signed.{le_z}
use Rattle.rules.specs.Clock.{cut}
use Rattle.rules.specs.Order.{counted, count}
use Rattle.rules.specs.Areas.{byte, bits, has, Grant, nobody, best_effort, on_time, early, elem, distinct}
use Rattle.rules.specs.Whole.{Router, Entry, TickCall, Packet, Held, accepted, to_serve, is_held, Report}
use Rattle.rules.specs.Calls.{Call}
use Rattle.rules.specs.Given.{number, last_entry, last_horizon}

-- An accepted tick: the calls before it, the latest first; the router that it met, the call, what it did; and the outgoing and answers areas that the router over bytes left.
pub record NotedTick : Type 0 where
  pub past : List Call
  pub met : Router
  pub call : TickCall
  pub report : Report
  pub outgoing : List ℕ
  pub answers : List ℕ

-- ---- fates

-- Packets are told apart by tick and port of arrival.
unfoldable pub same_packet : Packet → Packet → Bool
same_packet x y = le_z x.arrived y.arrived && le_z y.arrived x.arrived && eqb x.input y.input

-- How often x was sent, was withdrawn, and is still to be served on port p.
unfoldable pub is_sent : Packet → Grant (ℕ × Packet) → Bool
is_sent x nobody = false
is_sent x best_effort = false
is_sent x (on_time (i, y)) = same_packet x y
is_sent x (early (i, y)) = same_packet x y

unfoldable pub sent_on : ℕ → Packet → List NotedTick → ℕ
sent_on p x [] = 0
sent_on p x (d ∷ ds) = counted (is_sent x (d.report.grant p)) + sent_on p x ds

unfoldable pub times : Packet → List Packet → ℕ
times x [] = 0
times x (y ∷ ys) = counted (same_packet x y) + times x ys

unfoldable pub withdrawn_on : ℕ → Packet → List NotedTick → ℕ
withdrawn_on p x [] = 0
withdrawn_on p x (d ∷ ds) = times x (d.report.withdrawn p) + withdrawn_on p x ds

unfoldable pub is_left : Packet → Option Packet → Bool
is_left x none = false
is_left x (some y) = same_packet x y

unfoldable pub left_on : ℕ → Packet → (ℕ → Option Held) → ℕ
left_on p x place = count 256 (λ i. is_left x (to_serve (place i) p))

-- How many packets are still stored, and how many arrivals on ports below p the tick d stored, by its answers.
unfoldable pub stored : (ℕ → Option Held) → ℕ
stored place = count 256 (λ i. is_held (place i))

unfoldable pub stored_below : NotedTick → ℕ → ℕ
stored_below d p = count p (λ q. eqb (byte d.answers (5 + q)) 1)

-- x was accepted by a tick of h and took the place i: the first packet accepted in a tick the first of the free list, and so on.
unfoldable pub Accepted : List NotedTick → Packet → ℕ → Type 0
Accepted h x i = (d : NotedTick) × (p : ℕ) × Memᴰ d h × (p < 5) × (d.report.arrival p ≡ accepted x) × (i ≡ get_or d.met.free (stored_below d p) 0)

-- Packet i of an area, 20 bytes from 20 i on, is x as it goes out: outgoing identifier, deadline cut to a clock reading of c bytes, data.
pub record PacketAt (c : ℕ) (area : List ℕ) (i : ℕ) (x : Packet) : Type 0 where
  pub identifier : byte area (20 * i) ≡ x.identifier
  pub deadline : number c area (20 * i + 1) ≡ cut (bits c) x.deadline
  pub payload : (j : ℕ) → j < 19 - c → byte area (20 * i + (1 + c + j)) ≡ byte x.payload j

-- Or zeros.
abbrev pub ZerosAt : List ℕ → ℕ → Type 0
ZerosAt area i = (j : ℕ) → j < 20 → byte area (20 * i + j) ≡ 0

-- The times (a, b) of place i are no later than (d, e) of place j: a is earlier, or the same and b, or the same too and i no higher.
abbrev pub NoLater : ℤ × ℤ × ℕ → ℤ × ℤ × ℕ → Type 0
NoLater (a, b, i) (d, e, j) = (a <ℤ d) ⊎ ((a ≡ d) × ((b <ℤ e) ⊎ ((b ≡ e) × (i ≤ j))))

module _ (c : ℕ) where
  -- What the tick d may do with the accepted packet x on port p: send it once it has arrived and in its window, or withdraw it once it has arrived, in its deadline tick.
  pub record Permitted (d : NotedTick) (p : ℕ) (x : Packet) : Type 0 where
    pub sent : is_sent x (d.report.grant p) ≡ true → (x.arrived ≤ℤ d.met.clock) × ((x.time -ℤ pos (last_horizon c p d.past)) ≤ℤ d.met.clock) × (d.met.clock ≤ℤ x.deadline)
    pub on_time : (i : ℕ) (y : Packet) → d.report.grant p ≡ on_time (i, y) → same_packet x y ≡ true → x.time ≤ℤ d.met.clock
    pub early : (i : ℕ) (y : Packet) → d.report.grant p ≡ early (i, y) → same_packet x y ≡ true → d.met.clock <ℤ x.time
    pub withdrawn : 0 < times x (d.report.withdrawn p) → (x.arrived ≤ℤ d.met.clock) × (d.met.clock ≡ x.deadline)

  -- x is sent once, withdrawn once or still to be served once on each port of its mask, and never on another.
  pub record Account (h : List NotedTick) (w : Router) (x : Packet) (p : ℕ) : Type 0 where
    pub once : sent_on p x h + withdrawn_on p x h + left_on p x w.place ≡ counted (has x.mask p)
    pub permitted : (d : NotedTick) → Memᴰ d h → Permitted d p x
    pub in_time : 0 < left_on p x w.place → w.clock ≤ℤ x.deadline

  -- ---- ports

  -- What tick d sends or withdraws on port p was accepted, and is sent from its place.
  pub record Genuine (h : List NotedTick) (d : NotedTick) (p : ℕ) (x : Packet) : Type 0 where
    pub on_time : (i : ℕ) → d.report.grant p ≡ on_time (i, x) → Accepted h x i
    pub early : (i : ℕ) → d.report.grant p ≡ early (i, x) → Accepted h x i
    pub withdrawn : Memᴰ x (d.report.withdrawn p) → (i : ℕ) × Accepted h x i

  -- When the tick d after the ticks `before` serves port p, x waits there in place i: accepted by then, not sent there, its deadline not past.
  pub record Unserved (before : List NotedTick) (d : NotedTick) (p : ℕ) (x : Packet) (i : ℕ) : Type 0 where
    pub accepted : Accepted (before ++ (d ∷ [])) x i
    pub port : has x.mask p ≡ true
    pub unsent : sent_on p x before ≡ 0
    pub in_time : d.met.clock ≤ℤ x.deadline

  -- No packet that waits there is on time.
  abbrev pub NoneOnTime : List NotedTick → NotedTick → ℕ → Type 0
  NoneOnTime before d p = (x : Packet) (i : ℕ) → Unserved before d p x i → d.met.clock <ℤ x.time

  -- A waiting packet whose time has come makes the port send on time, and none of a later deadline, or of the same and a later time, or of both the same and a higher place; best-effort has the port
  -- exactly where it waits and nothing is on time; else a packet within the horizon makes it send early, and none of a later time, or of the same and a later deadline, or of both the same and a higher place.
  pub record Prompt (before : List NotedTick) (d : NotedTick) (p : ℕ) : Type 0 where
    pub on_time : (x : Packet) (i : ℕ) → Unserved before d p x i → x.time ≤ℤ d.met.clock → (j : ℕ) × (y : Packet) × (d.report.grant p ≡ on_time (j, y)) × NoLater (y.deadline, y.time, j) (x.deadline, x.time, i)
    pub when_best_effort : d.report.grant p ≡ best_effort → (has d.call.best_effort p ≡ true) × NoneOnTime before d p
    pub best_effort_if : has d.call.best_effort p ≡ true → NoneOnTime before d p → d.report.grant p ≡ best_effort
    pub early : has d.call.best_effort p ≡ false → NoneOnTime before d p → (x : Packet) (i : ℕ) → Unserved before d p x i → (x.time -ℤ d.met.clock) ≤ℤ pos (last_horizon c p d.past)
        → (j : ℕ) × (y : Packet) × (d.report.grant p ≡ early (j, y)) × NoLater (y.time, y.deadline, j) (x.time, x.deadline, i)

  -- ---- arrivals and bytes

  -- The entry of the identifier that arrives on port p.
  abbrev pub entry_met : NotedTick → ℕ → Entry
  entry_met d p = last_entry c (byte d.call.arrivals (20 * p)) d.past

  -- What the arrival on port p of the tick d is to meet: 0 none, 6 no port, 7 past its deadline, 8 exactly if 256 packets are stored, those of lower ports among them, else 1.
  unfoldable pub answer_due : NotedTick → ℕ → ℕ
  answer_due d p =
      let e = entry_met d p in
      let n = stored d.met.place + stored_below d p in
      cond (has d.call.arriving p) (cond (eqb e.mask 0) 6 (cond (le_z d.met.clock (d.call.times p +ℤ pos e.delay)) (cond (eqb n 256) 8 1) 7)) 0

  -- The packet x is what the call of d brings on port p, by the entry that it meets: the true time, that plus the entry's d, the entry's identifier and mask, and the bytes after the header.
  pub record Made (d : NotedTick) (p : ℕ) (x : Packet) : Type 0 where
    pub arrived : x.arrived ≡ d.met.clock
    pub input : x.input ≡ p
    pub time : x.time ≡ d.call.times p
    pub deadline : x.deadline ≡ d.call.times p +ℤ pos (entry_met d p).delay
    pub identifier : x.identifier ≡ (entry_met d p).identifier
    pub mask : x.mask ≡ (entry_met d p).mask
    pub payload : (j : ℕ) → j < 19 - c → byte x.payload j ≡ byte d.call.arrivals (20 * p + (1 + c + j))

  -- A packet is accepted exactly where 1 is due, and is what the call brings.
  pub record Taken (d : NotedTick) (p : ℕ) : Type 0 where
    pub due : answer_due d p ≡ 1 → (x : Packet) × (d.report.arrival p ≡ accepted x)
    pub only : (x : Packet) → d.report.arrival p ≡ accepted x → (answer_due d p ≡ 1) × Made d p x

  -- What the bytes of the tick d say of port p: the answer due; what the port did, with the packet that it sent or 20 zeros; and how many packets were withdrawn there, high byte first.
  pub record Told (d : NotedTick) (p : ℕ) : Type 0 where
    pub arrival : byte d.answers (5 + p) ≡ answer_due d p
    pub nobody : d.report.grant p ≡ nobody → (byte d.answers p ≡ 0) × ZerosAt d.outgoing p
    pub on_time : (i : ℕ) (x : Packet) → d.report.grant p ≡ on_time (i, x) → (byte d.answers p ≡ 1) × PacketAt c d.outgoing p x
    pub when_best_effort : d.report.grant p ≡ best_effort → (byte d.answers p ≡ 2) × ZerosAt d.outgoing p
    pub early : (i : ℕ) (x : Packet) → d.report.grant p ≡ early (i, x) → (byte d.answers p ≡ 3) × PacketAt c d.outgoing p x
    pub withdrawn : let n = length (d.report.withdrawn p) in (byte d.answers (10 + 2 * p) ≡ n / 256) × (byte d.answers (11 + 2 * p) ≡ n % 256)

-- ---- places

-- No place is lost: each is free, once, or holds a packet.
pub record Kept (place : ℕ → Option Held) (free : List ℕ) : Type 0 where
  pub once : distinct free ≡ true
  pub places : (i : ℕ) → elem i free ≡ true → i < 256
  pub idle : (i : ℕ) → i < 256 → elem i free ≡ not (is_held (place i))
  pub all : length free + stored place ≡ 256

-- A packet still stored was accepted, is in the place that it took, and has a port left.
pub record Stored (h : List NotedTick) (place : ℕ → Option Held) : Type 0 where
  pub accepted : (i : ℕ) → i < 256 → (x : Held) → place i ≡ some x → Accepted h x.packet i
  pub some_port : (i : ℕ) → i < 256 → (x : Held) → place i ≡ some x → (p : ℕ) × (p < 5) × (has x.left p ≡ true)

-- Each is above all that follow it.
unfoldable pub Falling : List ℕ → Type 0
Falling [] = Unit {0}
Falling (i ∷ l) = ((j : ℕ) → elem j l ≡ true → j < i) × Falling l

-- `after` is the free list after the tick d: the places emptied in it stand in front, the last one first, and then what the packets that it accepted left.
pub record GivenBack (d : NotedTick) (after : List ℕ) : Type 0 where
  pub emptied : List ℕ
  pub falling : Falling emptied
  pub list : after ≡ emptied ++ drop (stored_below d 5) d.met.free

-- The free list before the ticks h, which ended in the router w.
unfoldable pub free_before : List NotedTick → Router → List ℕ
free_before [] w = w.free
free_before (d ∷ h) w = d.met.free

-- ---- all accounts, of the ticks h from the clock T on, which ended in the router w
pub record Accounts (c : ℕ) (T : ℤ) (h : List NotedTick) (w : Router) : Type 0 where
  pub account : (x : Packet) (i : ℕ) → Accepted h x i → (p : ℕ) → p < 5 → Account c h w x p
  pub unique : (x y : Packet) (i j : ℕ) → Accepted h x i → Accepted h y j → same_packet x y ≡ true → (x ≡ y) × (i ≡ j)
  pub genuine : (d : NotedTick) → Memᴰ d h → (p : ℕ) → p < 5 → (x : Packet) → Genuine c h d p x
  pub prompt : (before later : List NotedTick) (d : NotedTick) → h ≡ before ++ (d ∷ later) → (p : ℕ) → p < 5 → Prompt c before d p
  pub taken : (d : NotedTick) → Memᴰ d h → (p : ℕ) → p < 5 → Taken c d p
  pub told : (d : NotedTick) → Memᴰ d h → (p : ℕ) → p < 5 → Told c d p
  pub clocks : (before later : List NotedTick) (d : NotedTick) → h ≡ before ++ (d ∷ later) → d.met.clock ≡ T +ℤ pos (length before)
  pub clock : w.clock ≡ T +ℤ pos (length h)
  pub stored : Stored h w.place
  pub kept : Kept w.place w.free
  pub first_free : (length (free_before h w) ≡ 256) × ((i : ℕ) → i < 256 → get_or (free_before h w) i 0 ≡ i)
  pub given_back : (before later : List NotedTick) (d : NotedTick) → h ≡ before ++ (d ∷ later) → GivenBack d (free_before later w)
