-- What holds of each entry, for any bytes and lengths: what its number says of the state, in propositions (document 01, "The questions"; document 02, [2]), and that a refused call alters nothing. Assumes nothing.
use Rattle.std.specs.Prelude.{ℕ, ◌+◌, ◌-◌, ◌*◌, ◌<◌, ◌≤◌, ◌≡◌, ◌≢◌, ◌↔◌, List, length, replicate, ℤ, pos, neg_ℤ, ◌≤ℤ◌}
use Rattle.rules.specs.Clock.{minus, offset}
use Rattle.rules.specs.Areas.{Store, bits, half, packet, stamp}
use Rattle.rules.specs.Board.{Board, Horizon, Latch, Idle, Time, Deadline, Mask, Delay, Routes, clock, free}
use Rattle.rules.specs.Questions.{make_fresh, control_write, tick as tick_entry, service_fault}
use Rattle.rules.specs.Whole.{TickCall}
use Rattle.rules.specs.Calls.{control, tick}
use Rattle.rules.specs.Given.{number_due}

module _ (B : Board) where
  open B use {clock_bytes as c, state_length, get, fresh_state}

  -- ---- what is asked of a state

  -- State and memory have their lengths.
  abbrev pub Sized : Store → Type 0
  Sized r = (length r.state ≡ state_length) × (length r.memory ≡ 5120)

  -- d, horizons and registers 1, 2 and 4 (at place 3 of the latch) in range, and the connection table's masks.
  pub record SettingsSound (s : List ℕ) : Type 0 where
    pub delays : (i : ℕ) → i < 256 → get s (Delay, i) < half c
    pub masks : (i : ℕ) → i < 256 → get s (Routes, i) ≤ 31
    pub horizons : (p : ℕ) → p < 5 → get s (Horizon, p) < half c
    pub register_1 : get s (Latch, 1) < half c
    pub register_2 : get s (Latch, 2) ≤ 31
    pub register_4 : get s (Latch, 3) ≤ 31

  -- n is at most 256; the first n entries of the stack are different, and are exactly the slots with mask 0: a slot among them has it, and a slot that has it is among them.
  pub record StackSound (s : List ℕ) : Type 0 where
    pub count : get s free ≤ 256
    pub different : (i j : ℕ) → i < j → j < get s free → get s (Idle, i) ≢ get s (Idle, j)
    pub idle_empty : (i k : ℕ) → i < 256 → k < get s free → get s (Idle, k) ≡ i → get s (Mask, i) ≡ 0
    pub empty_idle : (i : ℕ) → i < 256 → get s (Mask, i) ≡ 0 → (k : ℕ) × (k < get s free) × (get s (Idle, k) ≡ i)

  -- The delay of the packet in slot i, deadline - time, and the offset of its time.
  abbrev pub delay_of : List ℕ → ℕ → ℕ
  delay_of s i = minus (bits c) (get s (Deadline, i)) (get s (Time, i))

  abbrev pub offset_of : List ℕ → ℕ → ℤ
  offset_of s i = offset (bits c) (get s (Time, i)) (get s clock)

  -- A packet stored in slot i: its mask has five bits, its delay d is in range, the offset is - d to 126 on a clock of one byte, and the header in memory has the deadline.
  pub record StoredSound (r : Store) (i : ℕ) : Type 0 where
    pub ports : get r.state (Mask, i) ≤ 31
    pub in_range : delay_of r.state i < half c
    pub not_late : neg_ℤ (pos (delay_of r.state i)) ≤ℤ offset_of r.state i
    pub not_far : offset_of r.state i ≤ℤ pos (half c - 2)
    pub header : stamp c (packet r.memory i) ≡ get r.state (Deadline, i)

  -- Every slot with a mask other than 0 holds a sound packet.
  abbrev pub AllStoredSound : Store → Type 0
  AllStoredSound r = (i : ℕ) → i < 256 → get r.state (Mask, i) ≢ 0 → StoredSound r i

  pub record Sound (r : Store) : Type 0 where
    pub settings : SettingsSound r.state
    pub stack : StackSound r.state
    pub stored : AllStoredSound r

  -- Slot i holds a packet that breaks a rule, and no lower slot does.
  pub record LowestBad (r : Store) (i : ℕ) : Type 0 where
    pub slot : i < 256
    pub stored : get r.state (Mask, i) ≢ 0
    pub bad : StoredSound r i → ⊥
    pub lower : (j : ℕ) → j < i → get r.state (Mask, j) ≢ 0 → StoredSound r j

  -- ---- numbers and refusals

  -- The number n of a call that asks of its areas whether they are W: 1, then 13 and 14, for packets that are P the number m, and of a sound state the number due.
  pub record FaultNamed (r : Store) (W P : Type 0) (m due n : ℕ) : Type 0 where
    pub lengths : (n ≡ 1) ↔ (W → ⊥)
    pub settings : (n ≡ 13) ↔ (W × (SettingsSound r.state → ⊥))
    pub stack : (n ≡ 14) ↔ (W × SettingsSound r.state × (StackSound r.state → ⊥))
    pub packets : (n ≡ m) ↔ (W × SettingsSound r.state × StackSound r.state × P)
    pub sound : W → Sound r → n ≡ due
    pub accepted : n ≡ 0 → W × Sound r

  -- Of every entry, for any bytes and lengths: its number, and that a refused call alters nothing. The service entry adds 256 times the lowest bad slot to 15.
  pub record EntryLaws : Type 0 where
    pub fresh : (r : Store) (t : ℕ) → let o = make_fresh B r t in
        (Sized r → (o.reply.number ≡ 0) × (o.after.state ≡ fresh_state t) × (o.after.memory ≡ replicate 5120 0)) × ((Sized r → ⊥) → (o.reply.number ≡ 1) × (o.after ≡ r))
    pub control : (r : Store) (register v : ℕ) → let o = control_write B r register v in
        FaultNamed r (Sized r) (AllStoredSound r → ⊥) 15 (number_due c (control register v)) o.reply.number × (o.reply.number ≢ 0 → o.after ≡ r)
    pub tick : (r : Store) (k : TickCall) (out ans : List ℕ) → let o = tick_entry B r k.arriving k.best_effort k.arrivals out ans in
        FaultNamed r (Sized r × (length k.arrivals ≡ 100) × (length out ≡ 100) × (length ans ≡ 20)) (AllStoredSound r → ⊥) 15 (number_due c (tick k out ans)) o.reply.number
        × (o.reply.number ≢ 0 → (o.after ≡ r) × (o.reply.outgoing ≡ out) × (o.reply.answers ≡ ans))
    pub service : (r : Store) (i : ℕ) → FaultNamed r (Sized r) (LowestBad r i) (15 + 256 * i) 0 (service_fault B r)
