-- What calls do to any sound state and memory, whatever made them so: they agree with the router that never turns over which state and memory show; and what an accepted call leaves as it was. Assumes nothing.
use Rattle.std.specs.Prelude.{ℕ, ◌+◌, ◌-◌, ◌*◌, ◌^◌, ◌<◌, ◌≤◌, ◌≡◌, false, List, ◌≢◌, ◌⊎◌, length, eqb, ℤ, pos, neg_ℤ, ◌+ℤ◌, ◌-ℤ◌, ◌≤ℤ◌, ◌<ℤ◌}
use Rattle.std.proofs.Math.Option.{some}
use Rattle.rules.specs.Order.{count}
use Rattle.rules.specs.Areas.{Store, Bytes, byte, bits, half, has}
use Rattle.rules.specs.Board.{Board, Horizon, Latch, Idle, Time, Deadline, Mask, Outgoing, Delay, Routes, clock, free}
use Rattle.rules.specs.Whole.{Router, Packet, Held, TickCall, start}
use Rattle.rules.specs.Calls.{Call, control, tick, after_all, replies, whole_step}
use Rattle.rules.specs.Given.{Proper}
use Rattle.rules.specs.Questions.{fresh}
use Rattle.any_state.specs.Entries.{Sized, Sound}
use Rattle.rules.specs.Demand3.{byte_step, Shown}

-- How many packets a tick stored, by its answers.
unfoldable pub stored_by : List ℕ → ℕ
stored_by ans = count 5 (λ q. eqb (byte ans (5 + q)) 1)

module _ (B : Board) where
  open B use {clock_bytes as c, get}

  -- ---- agreement

  -- State and memory are bytes, have their lengths and are sound.
  pub record SoundStore (r : Store) : Type 0 where
    pub state : Bytes r.state
    pub memory : Bytes r.memory
    pub sized : Sized B r
    pub sound : Sound B r

  -- The times of a stored packet are those that its readings tell at the clock T: the time within half a turn of it, and the deadline by a delay in range. It has arrived, and its data are whole.
  pub record Near (T : ℤ) (x : Packet) : Type 0 where
    pub from : neg_ℤ (pos (half c)) ≤ℤ (x.time -ℤ T)
    pub to : (x.time -ℤ T) <ℤ pos (half c)
    pub delay : (d : ℕ) × (d < half c) × (x.deadline ≡ x.time +ℤ pos d)
    pub arrived : x.arrived ≤ℤ T
    pub size : length x.payload ≡ 19 - c

  -- State and memory show the router w.
  pub record Shows (r : Store) (w : Router) : Type 0 where
    pub shown : Shown B r w
    pub near : (i : ℕ) → i < 256 → (x : Held) → w.place i ≡ some x → Near w.clock x.packet

  -- Each sound store shows a router, a fresh one the router at its start; and whichever router it shows, over every proper list of calls both give the same replies, and the store stays sound and shows the router.
  pub record AgreesFromSound : Type 0 where
    pub shows_one : (r : Store) → SoundStore r → (w : Router) × Shows r w
    pub fresh : (t : ℕ) → t < 2 ^ bits c → Shows (fresh B t) (start t)
    pub agree : (r : Store) → SoundStore r → (w : Router) → Shows r w → (ks : List Call) → Proper c w.clock ks → let r' = after_all (byte_step B) r ks in
        (replies (byte_step B) r ks ≡ replies (whole_step c) w ks) × Sized B r' × Sound B r' × Shows r' (after_all (whole_step c) w ks)

  -- ---- what stays

  -- An accepted control write of the register q leaves the memory, the clock, the stack and the slots; of the registers any but its own, which is at place 3 for register 4; of the connection table any entry but the one that register 3 names; of the horizons any but those that register 5 sets.
  pub record ControlLeaves (q v : ℕ) (r r' : Store) : Type 0 where
    pub memory : r'.memory ≡ r.memory
    pub clock : get r'.state clock ≡ get r.state clock
    pub free : get r'.state free ≡ get r.state free
    pub slots : (i : ℕ) → i < 256 → (get r'.state (Idle, i) ≡ get r.state (Idle, i)) × (get r'.state (Time, i) ≡ get r.state (Time, i)) × (get r'.state (Deadline, i) ≡ get r.state (Deadline, i)) × (get r'.state (Mask, i) ≡ get r.state (Mask, i))
    pub latch : (i : ℕ) → i < 4 → q ≢ i → (q ≡ 4 → i ≢ 3) → get r'.state (Latch, i) ≡ get r.state (Latch, i)
    pub entry : (i : ℕ) → i < 256 → (q ≡ 3 → v ≢ i) → (get r'.state (Outgoing, i) ≡ get r.state (Outgoing, i)) × (get r'.state (Delay, i) ≡ get r.state (Delay, i)) × (get r'.state (Routes, i) ≡ get r.state (Routes, i))
    pub horizon : (p : ℕ) → p < 5 → (q ≡ 5 → has (get r.state (Latch, 3)) p ≡ false) → get r'.state (Horizon, p) ≡ get r.state (Horizon, p)

  -- An accepted tick, which stored packets in the slots that the entries of the stack named from the top down, leaves the settings; of the stack any entry below those, and any from the free count after it on;
  -- of a slot that none of those named, time, deadline and memory, also where it is emptied.
  pub record TickLeaves (r r' : Store) (ans : List ℕ) : Type 0 where
    pub horizon : (p : ℕ) → p < 5 → get r'.state (Horizon, p) ≡ get r.state (Horizon, p)
    pub latch : (q : ℕ) → q < 4 → get r'.state (Latch, q) ≡ get r.state (Latch, q)
    pub entry : (i : ℕ) → i < 256 → (get r'.state (Outgoing, i) ≡ get r.state (Outgoing, i)) × (get r'.state (Delay, i) ≡ get r.state (Delay, i)) × (get r'.state (Routes, i) ≡ get r.state (Routes, i))
    pub idle : (j : ℕ) → j < 256 → (j + stored_by ans < get r.state free) ⊎ (get r'.state free ≤ j) → get r'.state (Idle, j) ≡ get r.state (Idle, j)
    pub slot : (i : ℕ) → i < 256 → ((j : ℕ) → get r.state free ≤ j + stored_by ans → j < get r.state free → get r.state (Idle, j) ≢ i)
        → (get r'.state (Time, i) ≡ get r.state (Time, i)) × (get r'.state (Deadline, i) ≡ get r.state (Deadline, i)) × ((m : ℕ) → m < 20 → byte r'.memory (20 * i + m) ≡ byte r.memory (20 * i + m))

  -- For any bytes and any call that is accepted.
  pub record Leaves : Type 0 where
    pub control : (r : Store) → Bytes r.state → Bytes r.memory → (q v : ℕ) → let o = byte_step B r (control q v) in o.reply.number ≡ 0 → ControlLeaves q v r o.after
    pub tick : (r : Store) → Bytes r.state → Bytes r.memory → (k : TickCall) (out ans : List ℕ) → Bytes k.arrivals → let o = byte_step B r (tick k out ans) in o.reply.number ≡ 0 → TickLeaves r o.after o.reply.answers
