-- Demand 3: any list of calls from a fresh router, run by both routers. Assumes nothing.
use Rattle.std.specs.Prelude.{ℕ, ◌+◌, ◌-◌, ◌^◌, ◌≤◌, ◌<◌, ◌≡◌, true, cond, List, [], ◌∷◌, map, reverse, length, take, get_or, eqb, pos}
use Rattle.std.proofs.Math.Option.{Option, none, some}
use Rattle.rules.specs.Clock.{cut}
use Rattle.rules.specs.Areas.{Store, Reply, Outcome, bits}
use Rattle.rules.specs.Board.{Board, Horizon, Latch, Idle, Time, Deadline, Mask, Outgoing, Delay, Routes, clock, free, board8}
use Rattle.rules.specs.Questions.{sound, make_fresh, control_write, tick as tick_entry}
use Rattle.rules.specs.Whole.{Router, Held, TickCall, Report, ticked, start}
use Rattle.rules.specs.Calls.{Call, control, tick, after_all, replies, whole_step}
use Rattle.rules.specs.Given.{Words, number_due, AsWritten, accepted_ticks, Proper, Feedable}
use Rattle.rules.specs.Account.{NotedTick, PacketAt, stored, Accounts}

-- The two routers of which the claim speaks: one over bytes, by what making it fresh and a call do; and one that never turns over, by what it is at first, what a call does, and what a tick did.
pub record OverBytes : Type 0 where
  pub first : Store → ℕ → Outcome Store
  pub step : Store → Call → Outcome Store

pub record NeverOver : Type 0 where
  pub first : ℕ → Router
  pub step : Router → Call → Outcome Router
  pub report : Router → TickCall → Report

-- An accepted tick is noted, a refused one and a control write are not.
unfoldable pub noted : (Router → TickCall → Report) → List Call → Router → Call → ℕ → Reply → List NotedTick → List NotedTick
noted report past w (control register v) n b l = l
noted report past w (tick k out ans) n b l = cond (eqb n 0) (record { past = past; met = w; call = k; report = report w k; outgoing = b.outgoing; answers = b.answers } ∷ l) l

-- The accepted ticks, each with what the router that never turns over did and the areas that the router over bytes left. The calls before are `past`.
unfoldable pub history : OverBytes → NeverOver → List Call → Store → Router → List Call → List NotedTick
history O N past r w [] = []
history O N past r w (k ∷ ks) =
    let b = O.step r k in
    let o = N.step w k in
    noted N.report past w k o.reply.number b.reply (history O N (k ∷ past) b.after o.after ks)

module _ (B : Board) where
  open B use {clock_bytes as c, get}

  -- Ours. `make_fresh`, `control_write` and `tick` (Questions) are the very constants that the promises of the exported entries cite.
  unfoldable pub byte_step : Store → Call → Outcome Store
  byte_step r (control register v) = control_write B r register v
  byte_step r (tick k out ans) = tick_entry B r k.arriving k.best_effort k.arrivals out ans

  abbrev pub our_bytes : OverBytes
  our_bytes = record { first = make_fresh B; step = byte_step }

  abbrev pub our_whole : NeverOver
  our_whole = record { first = start; step = whole_step c; report = λ w k. (ticked c w k).report }

  -- State and memory show the places: a packet in its slot, and an empty place as a slot with mask 0.
  pub record PacketShown (r : Store) (i : ℕ) (x : Held) : Type 0 where
    pub time : get r.state (Time, i) ≡ cut (bits c) x.packet.time
    pub deadline : get r.state (Deadline, i) ≡ cut (bits c) x.packet.deadline
    pub left : (get r.state (Mask, i) ≡ x.left) × (0 < x.left)
    pub bytes : PacketAt c r.memory i x.packet

  abbrev pub PlaceShown : Store → ℕ → Option Held → Type 0
  PlaceShown r i none = get r.state (Mask, i) ≡ 0
  PlaceShown r i (some x) = PacketShown r i x

  -- And all else: the top of the stack is the first free place.
  pub record Shown (r : Store) (w : Router) : Type 0 where
    pub clock : get r.state clock ≡ cut (bits c) w.clock
    pub horizon : (p : ℕ) → p < 5 → get r.state (Horizon, p) ≡ w.horizon p
    pub latch : (q : ℕ) → q < 4 → get r.state (Latch, q) ≡ w.latch q
    pub identifier : (i : ℕ) → i < 256 → get r.state (Outgoing, i) ≡ (w.entry i).identifier
    pub delay : (i : ℕ) → i < 256 → get r.state (Delay, i) ≡ (w.entry i).delay
    pub routes : (i : ℕ) → i < 256 → get r.state (Routes, i) ≡ (w.entry i).mask
    pub place : (i : ℕ) → i < 256 → PlaceShown r i (w.place i)
    pub free : (get r.state free + stored w.place ≡ 256) × (get r.state free ≡ length w.free)
    pub stack : (i : ℕ) → i < length w.free → get r.state (Idle, length w.free - 1 - i) ≡ get_or w.free i 0

module _ (B : Board) (O : OverBytes) (N : NeverOver) where
  open B use {clock_bytes as c, state_length}

  -- After the calls ks on routers fresh at the clock reading t, the one over bytes as o made it.
  pub record AfterCalls (o : Outcome Store) (t : ℕ) (ks : List Call) : Type 0 where
    pub made : o.reply.number ≡ 0
    pub numbers : map (λ (a : Reply). a.number) (replies N.step (N.first t) ks) ≡ map (number_due c) ks
    pub agree : replies O.step o.after ks ≡ replies N.step (N.first t) ks
    pub sound : let r = after_all O.step o.after ks in (length r.state ≡ state_length) × (length r.memory ≡ 5120) × (sound B r ≡ true)
    pub shown : Shown B (after_all O.step o.after ks) (after_all N.step (N.first t) ks)
    pub settings : AsWritten c (reverse ks) (after_all N.step (N.first t) ks)
    pub ticks : map (λ (d : NotedTick). (d.past, d.call)) (history O N [] o.after (N.first t) ks) ≡ accepted_ticks c [] ks
    pub accounts : Accounts c (pos t) (history O N [] o.after (N.first t) ks) (after_all N.step (N.first t) ks)

  -- Made fresh in any areas of their lengths, at every clock reading, for every proper list, after each of its calls.
  unfoldable pub Holds : Type 0
  Holds = (r : Store) → length r.state ≡ state_length → length r.memory ≡ 5120 → (t : ℕ) → t < 2 ^ bits c → (ks : List Call) → Proper c (pos t) ks → (n : ℕ) → n ≤ length ks → AfterCalls (O.first r t) t (take n ks)

-- The whole of demand 3, for document 01's board; that it is not empty, and in which words it is said.
pub record Demand3 : Type 0 where
  pub holds : Holds board8 (our_bytes board8) (our_whole board8)
  pub feedable : Feedable board8.clock_bytes
  pub words : Words
