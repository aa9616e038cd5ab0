-- A case of document 01 ("Cases") as a row: calls up to a tick, and what has to be seen of that tick; and what is seen of it at either router. Assumes nothing.
use Rattle.std.specs.Prelude.{ℕ, zero, suc, Bool, true, false, cond, ◌&&◌, List, [], ◌∷◌, ◌++◌, ltb, eqb, ℤ, pos, ◌-ℤ◌}
use Rattle.std.proofs.Math.Option.{Option, none, some}
use Rattle.rules.specs.Clock.{cut}
use Rattle.rules.specs.Areas.{Store, Reply, bits, packet, has, Outcome}
use Rattle.rules.specs.Order.{Key}
use Rattle.rules.specs.Board.{Mask, clock, board8}
use Rattle.rules.specs.Tick as Bytes
use Rattle.rules.specs.Questions as Entry
use Rattle.rules.specs.Questions.{fresh}
use Rattle.rules.specs.Whole as Whole
use Rattle.rules.specs.Whole.{Router, Packet, TickCall, Report, start, to_serve, packet_key, packet_bytes}
use Rattle.rules.specs.Calls.{Call, whole_step, after_all}
use Rattle.rules.specs.Account.{is_sent, times}
use Rattle.rules.specs.Demand3.{byte_step}
use Rattle.cases.specs.Shorthand.{nines, lent}

-- ---- rows

-- What a tick does with a packet on port 0.
pub data Fate : Type 0 where
  sent : Fate
  withdrawn : Fate
  left : Fate

-- A packet that waits for port 0 once the arrivals are stored: its slot, the bytes that it goes out with (its deadline is the second), what the comparator sees of it, its keys counted from the clock,
-- and its fate in this tick.
pub record Candidate : Type 0 where
  pub slot : ℕ
  pub bytes : List ℕ
  pub key : Key
  pub fate : Fate

-- What is seen of a tick: the clock that it meets, its reply in full, and every packet that waits for port 0, by slot.
pub record Seen : Type 0 where
  pub clock : ℤ
  pub reply : Reply
  pub candidates : List Candidate

-- A router fresh at the clock reading `from`, the calls up to the tick, the clock T that it meets, the tick, and what has to be seen of it.
pub record Row : Type 0 where
  pub from : ℕ
  pub earlier : List Call
  pub clock : ℤ
  pub tick : TickCall
  pub reply : Reply
  pub candidates : List Candidate

-- What has to be seen at the router over bytes, whose clock is T cut to a byte, and at the router that never turns over.
unfoldable pub expected_on_bytes : Row → Seen
expected_on_bytes r = record { clock = pos (cut (bits 1) r.clock); reply = r.reply; candidates = r.candidates }

unfoldable pub expected_on_whole : Row → Seen
expected_on_whole r = record { clock = r.clock; reply = r.reply; candidates = r.candidates }

-- What f gives for the slots below n, in order.
unfoldable pub listed : (ℕ → Option Candidate) → ℕ → List Candidate
listed f zero = []
listed f (suc n) = listed f n ++ go (f n)
  where
    go : Option Candidate → List Candidate
    go none = []
    go (some x) = x ∷ []

-- ---- a row at the router over bytes

-- State and memory that the tick meets.
unfoldable pub before : Row → Store
before r = after_all (byte_step board8) (fresh board8 r.from) r.earlier

-- The entry, with all its questions.
unfoldable pub outcome : Row → Outcome Store
outcome r = let k = r.tick in Entry.tick board8 (before r) k.arriving k.best_effort k.arrivals (nines 100) (nines 20)

-- After step 1, where the keys are taken.
unfoldable pub arrived : Row → Store
arrived r = let k = r.tick in Bytes.arrived board8 5 k.arriving k.arrivals (before r)

unfoldable pub same_bytes : List ℕ → List ℕ → Bool
same_bytes [] [] = true
same_bytes [] (y ∷ ys) = false
same_bytes (x ∷ xs) [] = false
same_bytes (x ∷ xs) (y ∷ ys) = eqb x y && same_bytes xs ys

-- A packet is left if its slot still has port 0 after the tick; else it went out on port 0, or was withdrawn.
unfoldable pub fate_of : Bool → Bool → Fate
fate_of stays goes_out = cond stays left (cond goes_out sent withdrawn)

unfoldable pub candidate_on_bytes : Row → ℕ → Option Candidate
candidate_on_bytes r i =
    let s = (arrived r).state in
    let k = packet (arrived r).memory i in
    let o = outcome r in
    cond (has (board8.get s (Mask, i)) 0)
    (some (record {
      slot = i;
      bytes = k;
      key = Bytes.slot_key board8 s i;
      fate = fate_of (has (board8.get o.after.state (Mask, i)) 0) (same_bytes k (packet o.reply.outgoing 0));
    })) none

unfoldable pub on_bytes : Row → Seen
on_bytes r = record { clock = pos (board8.get (before r).state clock); reply = (outcome r).reply; candidates = listed (candidate_on_bytes r) 256 }

-- ---- a row at the router that never turns over

unfoldable pub before_whole : Row → Router
before_whole r = after_all (whole_step 1) (start r.from) r.earlier

unfoldable pub arrived_whole : Row → Router
arrived_whole r = Whole.arrived 1 5 r.tick (before_whole r)

-- By what the tick reports.
unfoldable pub reported : Report → Packet → Fate
reported o x = cond (is_sent x (o.grant 0)) sent (cond (ltb 0 (times x (o.withdrawn 0))) withdrawn left)

unfoldable pub candidate_on_whole : Row → ℕ → Option Candidate
candidate_on_whole r i = go (to_serve ((arrived_whole r).place i) 0)
  where
    T : ℤ
    T = (before_whole r).clock

    less_clock : Key → Key
    less_clock k = record { early = k.early; key = k.key -ℤ T; second = k.second -ℤ T }

    go : Option Packet → Option Candidate
    go none = none
    go (some x) = some (record {
      slot = i;
      bytes = packet_bytes 1 x;
      key = less_clock (packet_key T x);
      fate = reported (Whole.ticked 1 (before_whole r) r.tick).report x;
    })

unfoldable pub on_whole : Row → Seen
on_whole r = record { clock = (before_whole r).clock; reply = (whole_step 1 (before_whole r) (lent r.tick)).reply; candidates = listed (candidate_on_whole r) 256 }
