-- The questions, in order (document 01), control writes, and the entries: a refused call gives its number and alters nothing. Assumes nothing.
use Rattle.std.specs.Prelude.{ℕ, zero, suc, ◌+◌, ◌-◌, ◌*◌, Bool, cond, ◌&&◌, ◌||◌, List, [], ◌∷◌, ◌++◌, length, replicate, leb, ltb, eqb, pos, neg_ℤ}
use Rattle.std.specs.Bool.{beq}
use Rattle.std.specs.Int.Signed.{le_z}
use Rattle.rules.specs.Clock.{minus, offset}
use Rattle.rules.specs.Order.{all, first_failing, top_first}
use Rattle.rules.specs.Areas.{Store, Outcome, number_reply, memory_length, areas_full, bits, half, packet, stamp, elem, distinct, asked, control_questions, tick_questions, has, latch_place}
use Rattle.rules.specs.Board.{Board, Horizon, Latch, Idle, Time, Deadline, Mask, Outgoing, Delay, Routes, clock, free}
use Rattle.rules.specs.Tick.{ticked}

module _ (B : Board) where
  open B use {clock_bytes as c, state_length, get, put, fresh_state}

  -- 1: does every lent area have its length?
  unfoldable pub full : Store → Bool
  full r = eqb (length r.state) state_length && eqb (length r.memory) memory_length

  -- 13: are the settings sound? d, horizons and registers are in range, and the table's masks at most 31.
  abbrev pub connection_sound : List ℕ → ℕ → Bool
  connection_sound s i = ltb (get s (Delay, i)) (half c) && leb (get s (Routes, i)) 31

  abbrev pub horizon_sound : List ℕ → ℕ → Bool
  horizon_sound s p = ltb (get s (Horizon, p)) (half c)

  unfoldable pub settings_sound : List ℕ → Bool
  settings_sound s = all 256 (connection_sound s) && (all 5 (horizon_sound s) && (ltb (get s (Latch, 1)) (half c) && (leb (get s (Latch, 2)) 31 && leb (get s (Latch, 3)) 31)))

  -- 14: are stack and free count? The first n entries, top first.
  unfoldable pub stack : List ℕ → List ℕ
  stack s = top_first (λ i. get s (Idle, i)) (get s free)

  -- They are exactly the slots with mask 0: slot i is among them just if it is one. Of a mask no more than this counts here.
  abbrev pub listed : List ℕ → ℕ → Bool
  listed s i = beq (elem i (stack s)) (eqb (get s (Mask, i)) 0)

  unfoldable pub stack_sound : List ℕ → Bool
  stack_sound s = leb (get s free) 256 && (distinct (stack s) && all 256 (listed s))

  -- 15: are the stored packets? Slot i is empty, or its mask has five bits, deadline - time is a d in range, its time's offset is - d to 126 and the header in memory has its deadline.
  unfoldable pub slot_sound : Store → ℕ → Bool
  slot_sound r i =
      let s = r.state in
      let d = minus (bits c) (get s (Deadline, i)) (get s (Time, i)) in
      let o = offset (bits c) (get s (Time, i)) (get s clock) in
      eqb (get s (Mask, i)) 0
      || (leb (get s (Mask, i)) 31 && ltb d (half c) && le_z (neg_ℤ (pos d)) o && le_z o (pos (half c - 2)) && eqb (stamp c (packet r.memory i)) (get s (Deadline, i)))

  unfoldable pub slots_sound : Store → Bool
  slots_sound r = all 256 (slot_sound r)

  -- The state is sound if all three are.
  unfoldable pub sound : Store → Bool
  sound r = settings_sound r.state && (stack_sound r.state && slots_sound r)

  -- The three questions in order (document 02, [2]), where a bad packet has the number k.
  abbrev pub sound_questions : ℕ → Store → List (Bool × ℕ)
  sound_questions k r = (settings_sound r.state, 13) ∷ (stack_sound r.state, 14) ∷ (slots_sound r, k) ∷ []

  -- The first fault, as a call gives it; 0 for a sound state.
  unfoldable pub fault : Store → ℕ
  fault r = asked (sound_questions 15 r)

  -- The number of a control write, and of a tick.
  unfoldable pub control_refusal : Store → ℕ → ℕ → ℕ
  control_refusal r register v = asked ((full r, 1) ∷ sound_questions 15 r ++ control_questions c register v)

  unfoldable pub tick_refusal : Store → ℕ → ℕ → List ℕ → List ℕ → List ℕ → ℕ
  tick_refusal r arriving waiting area out ans = asked ((full r && areas_full area out ans, 1) ∷ sound_questions 15 r ++ tick_questions arriving waiting)

  -- ---- control writes (document 01, "Control writes")

  -- Register 3 commits registers 0, 1 and 2 to the entry of connection i.
  abbrev pub commit_entry : ℕ → List ℕ → List ℕ
  commit_entry i s = put (put (put s (Outgoing, i) (get s (Latch, 0))) (Delay, i) (get s (Latch, 1))) (Routes, i) (get s (Latch, 2))

  -- Register 5 commits the horizon h, for each port below p that is in the mask m.
  unfoldable pub commit_horizon : ℕ → ℕ → ℕ → List ℕ → List ℕ
  commit_horizon zero m h s = s
  commit_horizon (suc p) m h s = let s' = commit_horizon p m h s in cond (has m p) (put s' (Horizon, p) h) s'

  -- The state after an accepted control write.
  unfoldable pub written : ℕ → ℕ → List ℕ → List ℕ
  written register v s =
      cond (eqb register 3) (commit_entry v s)
      (cond (eqb register 5) (commit_horizon 5 (get s (Latch, 3)) v s)
      (put s (Latch, latch_place register) v))

  -- ---- the entries

  -- A fresh router: the given clock, and zero memory.
  unfoldable pub fresh : ℕ → Store
  fresh t = record { state = fresh_state t; memory = replicate memory_length 0 }

  unfoldable pub make_fresh : Store → ℕ → Outcome Store
  make_fresh r t = cond (full r) (record { reply = number_reply 0; after = fresh t }) (record { reply = number_reply 1; after = r })

  unfoldable pub control_write : Store → ℕ → ℕ → Outcome Store
  control_write r register v =
      let n = control_refusal r register v in
      cond (eqb n 0) (record { reply = number_reply 0; after = record { state = written register v r.state; memory = r.memory } }) (record { reply = number_reply n; after = r })

  unfoldable pub tick : Store → ℕ → ℕ → List ℕ → List ℕ → List ℕ → Outcome Store
  tick r arriving waiting area out ans =
      let n = tick_refusal r arriving waiting area out ans in
      cond (eqb n 0) (ticked B r arriving waiting area) (record { reply = record { number = n; outgoing = out; answers = ans }; after = r })

  -- The service entry (document 02, [2]), which only reads: the first fault, with 256 times the lowest bad slot added to 15.
  unfoldable pub lowest_bad : Store → ℕ
  lowest_bad r = first_failing 256 (slot_sound r)

  unfoldable pub service_fault : Store → ℕ
  service_fault r = asked ((full r, 1) ∷ sound_questions (15 + 256 * lowest_bad r) r)
