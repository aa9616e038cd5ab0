-- A tick's six steps on a sound state (document 01, "A tick"). Assumes nothing.
use Rattle.std.specs.Prelude.{ℕ, zero, suc, ◌+◌, ◌-◌, ◌*◌, Bool, cond, not, ◌&&◌, List, eqb, ℤ, pos, neg_ℤ}
use Rattle.std.proofs.Math.Option.{Option, none, some}
use Rattle.std.proofs.lemmas.List.Edits.{sets}
use Rattle.std.specs.Int.Signed.{lt_z, le_z}
use Rattle.rules.specs.Clock.{plus, minus, offset}
use Rattle.rules.specs.Order.{Key, comparator, least, count}
use Rattle.rules.specs.Areas.{Store, Outcome, packet_length, byte, bits, packet, stamp, payload, packed, has, without, per_port, Grant, nobody, best_effort, on_time, early, grant_code, no_packet, answers_area, asked, arrival_questions, arrival_answer}
use Rattle.rules.specs.Board.{Board, Horizon, Idle, Time, Deadline, Mask, Outgoing, Delay, Routes, clock, free}

-- From the winner and its key, best-effort's wait and the horizon.
unfoldable pub granted : Option (ℕ × Key) → Bool → ℕ → Grant ℕ
granted none b h = cond b best_effort nobody
granted (some (i, k)) b h = cond k.early (cond b best_effort (cond (le_z k.key (pos h)) (early i) nobody)) (on_time i)

-- What a port sends: a copy from memory.
unfoldable pub grant_bytes : List ℕ → Grant ℕ → List ℕ
grant_bytes m nobody = no_packet
grant_bytes m best_effort = no_packet
grant_bytes m (on_time i) = packet m i
grant_bytes m (early i) = packet m i

module _ (B : Board) where
  open B use {clock_bytes as c, get, put}

  -- Step 1, arrivals. Questions 6 to 8 of the packet k, and what an arrival on port p meets: 0 none, 1 stored, else the number of its refusal.
  unfoldable pub arrival_refusal : List ℕ → List ℕ → ℕ
  arrival_refusal s k =
      let i = byte k 0 in
      asked (arrival_questions (not (eqb (get s (Routes, i)) 0)) (le_z (neg_ℤ (pos (get s (Delay, i)))) (offset (bits c) (stamp c k) (get s clock))) (not (eqb (get s free) 0)))

  unfoldable pub arrival : List ℕ → ℕ → ℕ → List ℕ → ℕ
  arrival s arriving p k = cond (has arriving p) (arrival_answer (arrival_refusal s k)) 0

  -- The accepted packet k takes the top idle address.
  unfoldable pub placed : Store → List ℕ → Store
  placed r k =
      let s = r.state in
      let n = get s free - 1 in
      let i = get s (Idle, n) in
      let d = plus (bits c) (stamp c k) (get s (Delay, byte k 0)) in
      record {
        state = put (put (put (put s free n) (Time, i) (stamp c k)) (Deadline, i) d) (Mask, i) (get s (Routes, byte k 0));
        memory = sets r.memory (packet_length * i) (packed c (get s (Outgoing, byte k 0)) d (payload c k));
      }

  abbrev pub admitted : Store → ℕ → ℕ → List ℕ → Store
  admitted r arriving p k = cond (eqb (arrival r.state arriving p k) 1) (placed r k) r

  -- Step 1 for the ports below p.
  unfoldable pub arrived : ℕ → ℕ → List ℕ → Store → Store
  arrived zero arriving area r = r
  arrived (suc p) arriving area r = let r' = arrived p arriving area r in admitted r' arriving p (packet area p)

  -- Step 2, each port's choice. Slot i is early if its time's offset is above 0.
  abbrev pub is_early : List ℕ → ℕ → Bool
  is_early s i = lt_z (pos 0) (offset (bits c) (get s (Time, i)) (get s clock))

  -- How far the time x is ahead of the clock, without sign.
  abbrev pub ahead : List ℕ → ℕ → ℤ
  ahead s x = pos (minus (bits c) x (get s clock))

  -- What the comparator sees of slot i, early if e: on time, the key is deadline - t, and the second key the time's offset; early, the key is time - t, and the second key deadline - t.
  abbrev pub slot_key_of : Bool → List ℕ → ℕ → Key
  slot_key_of e s i =
      let u = get s (Time, i) in
      let d = get s (Deadline, i) in
      record { early = e; key = ahead s (cond e u d); second = cond e (ahead s d) (offset (bits c) u (get s clock)) }

  unfoldable pub slot_key : List ℕ → ℕ → Key
  slot_key s i = slot_key_of (is_early s i) s i

  -- Each port looks at the slots whose mask has it. Of Fig. 7 of document 001 these have the first two lines, on time or early; a slot whose mask has not the port has the third, ineligible: no key.
  unfoldable pub candidate : List ℕ → ℕ → ℕ → Option Key
  candidate s p i = cond (has (get s (Mask, i)) p) (some (slot_key s i)) none

  -- The least by the comparator wins; where both keys are equal, the lower slot.
  unfoldable pub grant : List ℕ → ℕ → ℕ → Grant ℕ
  grant s waiting p = granted (least comparator (candidate s p) 256) (has waiting p) (get s (Horizon, p))

  -- Step 3, the port leaves the mask of the slot that it sent.
  abbrev pub leave : ℕ → ℕ → List ℕ → List ℕ
  leave p i s = put s (Mask, i) (without (get s (Mask, i)) p)

  unfoldable pub sent : ℕ → Grant ℕ → List ℕ → List ℕ
  sent p nobody s = s
  sent p best_effort s = s
  sent p (on_time i) s = leave p i s
  sent p (early i) s = leave p i s

  -- Steps 2 and 3 for the ports below p.
  unfoldable pub served : ℕ → ℕ → List ℕ → List ℕ
  served zero waiting s = s
  served (suc p) waiting s = let s' = served p waiting s in sent p (grant s' waiting p) s'

  -- Step 4, withdrawal: slots whose deadline is t.
  abbrev pub is_due : List ℕ → ℕ → Bool
  is_due s i = eqb (get s (Deadline, i)) (get s clock)

  -- What it counts on port p.
  unfoldable pub withdrawals : List ℕ → ℕ → ℕ
  withdrawals s p = count 256 (λ i. has (get s (Mask, i)) p && is_due s i)

  -- Step 4 for the slots below i.
  unfoldable pub withdrawn : ℕ → List ℕ → List ℕ
  withdrawn zero s = s
  withdrawn (suc i) s = let s' = withdrawn i s in cond (is_due s' i) (put s' (Mask, i) 0) s'

  -- Step 5, a slot emptied goes back on the stack.
  abbrev pub give_back : ℕ → List ℕ → List ℕ
  give_back i s = put (put s (Idle, get s free) i) free (get s free + 1)

  -- Step 5 for the slots below i: those that had a port to serve in `before` and have none now.
  unfoldable pub returned : ℕ → List ℕ → List ℕ → List ℕ
  returned zero before s = s
  returned (suc i) before s =
      let s' = returned i before s in
      cond (not (eqb (get before (Mask, i)) 0) && eqb (get s' (Mask, i)) 0) (give_back i s') s'

  -- Step 6.
  abbrev pub advanced : List ℕ → List ℕ
  advanced s = put s clock (plus (bits c) (get s clock) 1)

  unfoldable pub ticked : Store → ℕ → ℕ → List ℕ → Outcome Store
  ticked r arriving waiting area =
      let r₁ = arrived 5 arriving area r in
      let s₃ = served 5 waiting r₁.state in
      let g : ℕ → Grant ℕ = λ p. grant (served p waiting r₁.state) waiting p in
      record {
        reply = record {
          number = 0;
          outgoing = per_port (λ p. grant_bytes r₁.memory (g p));
          answers = answers_area (λ p. grant_code (g p)) (λ p. arrival (arrived p arriving area r).state arriving p (packet area p)) (withdrawals s₃);
        };
        after = record { state = advanced (returned 256 r₁.state (withdrawn 256 s₃)); memory = r₁.memory };
      }
