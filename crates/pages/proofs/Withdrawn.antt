-- Each accepted tick of a tape withdraws at most 256 packets on each of five ports, since a router has 256 slots; so a page's total has six digits. Assumes nothing.
use Prim.Native.Nat.{ℕ, zero, suc, ◌+◌, ◌*◌, ◌≤◌, ◌<◌}
use mathlib.Core.Path.{◌≡◌, refl}
use mathlib.Core.Bool.{Bool, true, false, cond}
use mathlib.Core.List.{List, [], ◌∷◌, ◌++◌, map}
use native.Mathlib.Omega.{arith}
use lib.ListN.{length, take, drop, replicate}
use lib.Dec.{eqb}
use Rattle.rules.specs.Areas.{Store, byte, outgoing_length, answers_length, ports_below, answers_area, Outcome}
use Rattle.rules.specs.Board.{Board, board8}
use Rattle.rules.specs.Tick as Tick
use Rattle.rules.specs.Questions.{control_write, tick, tick_refusal}
use Rattle.records.specs.Records.{control_kind, arrival_kind, record_at, records_in, record_refusal}
use Rattle.passes.proofs.Counting.{count-at-most}
use Rattle.events.specs.Tape.{Tape, start, Event, nothing, refused, ticked, after_control, take_control, take_arrival, after_tick, take_tick, take_record, after, events_of}
use Rattle.text.specs.Lines.{withdrawn_below, withdrawn_sum}
use Rattle.text.specs.Characters.{read_from}
use Rattle.text.proofs.Numbers.{decimal-reads}
use Rattle.text.proofs.TickText.{count-part}
use Rattle.pages.specs.Pages.{Tick, ticks_of, text_of, withdrawn_by, total_of}
use Rattle.pages.specs.Claims.{said_withdrawn}

-- ---- one tick

-- The sum that is read from its answers is what its five ports withdrew: the two bytes of a count make it again.
withdrawn-of-tick : (B : Board) (r : Store) (arriving waiting : ℕ) (area : List ℕ)
    → (let on = Tick.withdrawals B (Tick.served B 5 waiting (Tick.arrived B 5 arriving area r).state) in
    withdrawn_sum (Tick.ticked B r arriving waiting area).reply.answers ≡ on 0 + on 1 + on 2 + on 3 + on 4)
unfolding Tick.ticked withdrawn_below answers_area ports_below
withdrawn-of-tick B r arriving waiting area = omega arith

withdrawals-at-most-256 : (B : Board) (s : List ℕ) (p : ℕ) → Tick.withdrawals B s p ≤ 256
unfolding Tick.withdrawals
withdrawals-at-most-256 B s p = count-at-most _ 256

pub tick-at-most-1280 : (B : Board) (r : Store) (arriving waiting : ℕ) (area : List ℕ) → withdrawn_sum (Tick.ticked B r arriving waiting area).reply.answers ≤ 1280
tick-at-most-1280 B r arriving waiting area =
    let on = withdrawals-at-most-256 B (Tick.served B 5 waiting (Tick.arrived B 5 arriving area r).state) in
    rw (withdrawn-of-tick B r arriving waiting area) (omega (arith, on 0, on 1, on 2, on 3, on 4))

-- ---- ticks

-- Each of them withdraws at most 1,280.
unfoldable pub Bounded : List Tick → Type 0
Bounded [] = Unit {0}
Bounded (t ∷ ts) = (withdrawn_by t ≤ 1280) × Bounded ts

bounded-append : (a b : List Tick) → Bounded a → Bounded b → Bounded (a ++ b)
unfolding Bounded
bounded-append [] b f g = g
bounded-append (t ∷ a) b f g = (f.0, bounded-append a b f.1 g)

pub bounded-take : (n : ℕ) (ts : List Tick) → Bounded ts → Bounded (take n ts)
unfolding Bounded
bounded-take zero ts f = tt
bounded-take (suc n) [] f = tt
bounded-take (suc n) (t ∷ ts) f = (f.0, bounded-take n ts f.1)

pub bounded-drop : (n : ℕ) (ts : List Tick) → Bounded ts → Bounded (drop n ts)
unfolding Bounded
bounded-drop zero ts f = f
bounded-drop (suc n) [] f = tt
bounded-drop (suc n) (t ∷ ts) f = bounded-drop n ts f.1

total_at_most : (ts : List Tick) → Bounded ts → total_of ts ≤ 1280 * length ts
unfolding Bounded total_of
total_at_most [] f = omega arith
total_at_most (t ∷ ts) f = omega (arith, f.0, total_at_most ts f.1)

-- ---- the records of a tape

bounded-control : (σ : Tape) (k : ℕ) (o : Outcome Store) → Bounded (ticks_of ((after_control σ k o).event ∷ []))
unfolding ticks_of Bounded
bounded-control σ k o = go (eqb o.reply.number 0)
  where
    go : (b : Bool) → Bounded (ticks_of (cond b nothing (refused k o.reply.number) ∷ []))
    go true = tt
    go false = tt

bounded-tick : (σ : Tape) (k arriving waiting : ℕ) (area out ans : List ℕ) → Bounded (ticks_of ((after_tick σ k (tick board8 σ.store arriving waiting area out ans)).event ∷ []))
unfolding tick Tick.ticked ticks_of Bounded
bounded-tick σ k arriving waiting area out ans = go (eqb number 0) refl
  where
    number : ℕ
    number = tick_refusal board8 σ.store arriving waiting area out ans

    go : (b : Bool) → eqb number 0 ≡ b → Bounded (ticks_of ((after_tick σ k (cond b (Tick.ticked board8 σ.store arriving waiting area) (record { reply = record { number = number; outgoing = out; answers = ans }; after = σ.store }))).event ∷ []))
    go true e = (tick-at-most-1280 board8 σ.store arriving waiting area, tt)
    go false e = rw e tt

bounded-record : (σ : Tape) (k : ℕ) (r : List ℕ) → Bounded (ticks_of ((take_record σ k r).event ∷ []))
unfolding take_record take_control take_arrival take_tick ticks_of Bounded
bounded-record σ k r = go (eqb (record_refusal σ.pending r) 0) (eqb (byte r 0) control_kind) (eqb (byte r 0) arrival_kind)
  where
    go : (a b c : Bool) → Bounded (ticks_of ((cond a (cond b (take_control σ k r) (cond c (take_arrival σ k r) (take_tick σ k r))) (record { tape = σ; event = refused k (record_refusal σ.pending r) })).event ∷ []))
    go true true c = bounded-control σ k (control_write board8 σ.store (byte r 1) (byte r 2))
    go true false true = tt
    go true false false = bounded-tick σ k σ.pending (byte r 1) σ.arrivals (replicate outgoing_length 0) (replicate answers_length 0)
    go false b c = tt

ticks-append : (a b : List Event) → ticks_of (a ++ b) ≡ ticks_of a ++ ticks_of b
unfolding ticks_of
ticks-append [] b = refl
ticks-append (nothing ∷ a) b = ticks-append a b
ticks-append (refused k q ∷ a) b = ticks-append a b
ticks-append (ticked records clock out ans ∷ a) b = rw (ticks-append a b)

bounded-after : (σ : Tape) (k : ℕ) (input : List ℕ) (i : ℕ) → Bounded (ticks_of (after σ k input i).events)
unfolding after ticks_of Bounded
bounded-after σ k input zero = tt
bounded-after σ k input (suc i) =
    let o = after σ k input i in
    let last : List Event = (take_record o.tape (k + suc i) (record_at input i)).event ∷ [] in
    rw (ticks-append o.events last) (bounded-append (ticks_of o.events) (ticks_of last) (bounded-after σ k input i) (bounded-record o.tape (k + suc i) (record_at input i)))

pub tape-bounded : (input : List ℕ) → Bounded (ticks_of (events_of input))
unfolding events_of
tape-bounded input = bounded-after start 0 input (records_in input)

-- The total of at most 62 such ticks.
pub total-on-a-page : (ts : List Tick) → Bounded ts → length ts ≤ 62 → total_of ts < 1000000
total-on-a-page ts bounded few = omega (arith, total_at_most ts bounded)

-- ---- what the T lines of such ticks say

pub said-in-all : (ts : List Tick) → Bounded ts → said_withdrawn (map text_of ts) ≡ total_of ts
unfolding Bounded total_of said_withdrawn
said-in-all [] f = refl
said-in-all (t ∷ ts) f =
    let n = withdrawn_by t in
    let said : read_from 0 (drop 26 (text_of t)) ≡ n = rw (count-part t.clock t.outgoing t.answers) (decimal-reads 4 n (let h = f.0 in omega arith)).value in
    omega (arith, said, said-in-all ts f.1)
