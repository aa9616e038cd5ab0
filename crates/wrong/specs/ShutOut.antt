-- The claim of demand 3 shuts these routers out: it holds of none of them, whatever router over bytes stands beside it. Assumes nothing.
use Rattle.std.specs.Prelude.{ℕ, ◌+◌, ◌*◌, ◌<◌, ◌≡◌, List, length, pos}
use Rattle.rules.specs.Areas.{Store}
use Rattle.rules.specs.Board.{board8}
use Rattle.rules.specs.Questions.{make_fresh, control_write, tick as tick_entry, service_fault}
use Rattle.rules.specs.Whole.{Router, TickCall, written, meets, grant, sent, answer_bytes}
use Rattle.rules.specs.Calls.{Call, control, tick, replies, whole_step}
use Rattle.rules.specs.Given.{number_due, Proper}
use Rattle.rules.specs.Demand3.{OverBytes, NeverOver, byte_step, our_whole, Holds}
use Rattle.any_state.specs.Entries.{Sized, AllStoredSound, LowestBad, FaultNamed}
use Rattle.wrong.specs.Routers.{step_by, ends, leaves, sends, refuses_all, idles, moves_the_clock, pretends, withdraws_all, compares_plainly, passes_best_effort, frees_after_first, takes_table_delay, reads_minus128_early, ignores_writes, keeps_identifier, refuses_ticks, exchanges_codes, sends_nines, gives_back_under, ties_by_place, sends_higher_place}

-- Built of our own parts a router is ours, so that each wrong one is ours but for the part changed.
unfoldable pub OwnParts : Type 0
OwnParts = (r : Router) (k : Call) → step_by written (meets 1) grant sent ends leaves sends answer_bytes r k ≡ whole_step 1 r k

-- Beside our router that never turns over, whoever meets the claim replies as our router over bytes does: a fault of that one alone is shut out too.
unfoldable pub RepliesAsOurs : Type 0
RepliesAsOurs = (O : OverBytes) → Holds board8 O (our_whole board8) → (r : Store) → length r.state ≡ 1804 → length r.memory ≡ 5120 → (t : ℕ) → t < 256 → (ks : List Call) → Proper 1 (pos t) ks
    → replies O.step (O.first r t).after ks ≡ replies (byte_step board8) (make_fresh board8 r t).after ks

-- Of the numbers of a control write, a tick and the service entry, none but ours meets the entries' laws.
pub record NumbersFixed : Type 0 where
  pub control : (r : Store) (q v n : ℕ) → FaultNamed board8 r (Sized board8 r) (AllStoredSound board8 r → ⊥) 15 (number_due 1 (control q v)) n → n ≡ (control_write board8 r q v).reply.number
  pub tick : (r : Store) (k : TickCall) (out ans : List ℕ) (n : ℕ) → FaultNamed board8 r (Sized board8 r × (length k.arrivals ≡ 100) × (length out ≡ 100) × (length ans ≡ 20)) (AllStoredSound board8 r → ⊥) 15 (number_due 1 (tick k out ans)) n
      → n ≡ (tick_entry board8 r k.arriving k.best_effort k.arrivals out ans).reply.number
  pub service : (r : Store) (n : ℕ) → ((i : ℕ) → FaultNamed board8 r (Sized board8 r) (LowestBad board8 r i) (15 + 256 * i) 0 n) → n ≡ service_fault board8 r

-- The claim fails of N.
abbrev pub Refuted : NeverOver → Type 0
Refuted N = (O : OverBytes) → Holds board8 O N → ⊥

pub record ShutOut : Type 0 where
  -- "one refusing every packet", "one answering 8 while n is above 0", and one that answers 1 and stores nothing.
  pub refuses_all : (q : ℕ) → Refuted (refuses_all q)
  -- "one always idle, and one moving only the clock"
  pub idles : Refuted idles
  pub moves_the_clock : Refuted moves_the_clock
  -- "one storing and pretending to send in later ticks"
  pub pretends : Refuted pretends
  -- "one inventing withdrawals"
  pub withdraws_all : Refuted withdraws_all
  -- "Comparing time > t as plain bytes"
  pub compares_plainly : Refuted compares_plainly
  -- "Letting early packets pass waiting best-effort."
  pub passes_best_effort : Refuted passes_best_effort
  -- "Freeing a multicast slot after its first port."
  pub frees_after_first : Refuted frees_after_first
  -- "Taking d from the table at sending time."
  pub takes_table_delay : Refuted takes_table_delay
  -- "Treating offset −128 as early."
  pub reads_minus_128_early : Refuted reads_minus128_early
  -- Others that agree with a router over bytes of the same fault.
  pub ignores_writes : Refuted ignores_writes
  pub keeps_identifier : Refuted keeps_identifier
  pub refuses_ticks : Refuted refuses_ticks
  pub exchanges_codes : Refuted exchanges_codes
  pub sends_nines : Refuted sends_nines
  pub gives_back_under : Refuted gives_back_under
  pub ties_by_place : Refuted ties_by_place
  pub sends_higher_place : Refuted sends_higher_place
