-- The entries' laws: a state's tests hold just if its rules do, so the first that fails gives its number; and a refused call alters nothing. Assumes nothing.
use Prim.Native.Nat.{ℕ, zero, suc, ◌+◌, ◌-◌, ◌*◌, ◌<◌, ◌≤◌}
use mathlib.Core.Path.{◌≡◌, refl, sym, ap, subst, ◌∙◌}
use mathlib.Core.Bool.{Bool, true, false, cond, not, ◌&&◌, ◌||◌, true≢false}
use mathlib.Core.List.{List, [], ◌∷◌, ◌++◌}
use mathlib.Core.Logic.{◌≢◌, ◌↔◌, ◌⊎◌, inl, inr}
use native.Mathlib.Decide.{ℕ_discrete, dec_lt}
use native.Mathlib.Omega.{arith}
use lib.ListN.{length}
use lib.Dec.{leb, ltb, eqb}
use lib.IntN.{ℤ, pos, neg_ℤ}
use lib.Signed.{◌≤ℤ◌, le_z, le_z_yes}
use borrow.Author.Tests.{eq-eqb, ne_eqb, eqb-true, lt-ltb, ltb-true, le-leb, leb-true}
use Rattle.rules.specs.Order.{all, first_failing, top_first}
use Rattle.rules.specs.Areas.{Store, Outcome, number_reply, areas_full, half, packet, stamp, elem, distinct, asked, fits, control_questions, tick_questions}
use Rattle.rules.specs.Board.{Board, Latch, Idle, Deadline, Mask, Delay, Routes, free, board8}
use Rattle.rules.specs.Calls.{control, tick, refusal}
use Rattle.rules.specs.Given.{number_due}
use Rattle.rules.specs.Questions.{full, connection_sound, horizon_sound, settings_sound, stack, listed, stack_sound, slot_sound, slots_sound, sound, sound_questions, control_refusal, tick_refusal, written, fresh, make_fresh, control_write, tick as tick_entry, lowest_bad, service_fault}
use Rattle.rules.specs.Tick.{ticked}
use Rattle.rules.specs.Whole.{TickCall, start}
use Rattle.rules.proofs.Booleans.{true→T, T→true, and_left, and_right, and_both, or_right, not-false, eq-beq}
use Rattle.rules.proofs.GivenLaws.{number-due}
use Rattle.rules.proofs.IndexLaws.{all-at, all_true, FirstFailing, first-failing, all-first-failing}
use Rattle.rules.proofs.OrderLaws.{fails}
use Rattle.rules.proofs.Soundness.{elem_at, at-elem, stack-lists}
use Rattle.any_state.specs.Entries.{Sized, SettingsSound, StackSound, delay_of, offset_of, StoredSound, AllStoredSound, Sound, LowestBad, FaultNamed, EntryLaws}

-- ---- the list f (n - 1), .., f 0

module _ (f : ℕ → ℕ) where
  -- Without repeats the values are different: one equal to an earlier would stand on the list before it.
  different-at : (n : ℕ) → distinct (top_first f n) ≡ true → (i j : ℕ) → i < j → j < n → f i ≢ f j
  unfolding distinct top_first
  different-at zero e i j l h q = absurd (omega arith)
  different-at (suc n) e i j l h q = go (λ m. different-at n (and_right (not (elem (f n) (top_first f n))) (distinct (top_first f n)) e) i j l m q) (dec_lt j n)
    where
      go : (j < n → ⊥) → Dec (j < n) → ⊥
      go older (yes m) = older m
      go older (no m) =
          let k : j ≡ n = omega arith in
          let new = not-false (elem (f n) (top_first f n)) (and_left (not (elem (f n) (top_first f n))) (distinct (top_first f n)) e) in
          true≢false (sym (elem_at f (f n) n i (omega arith) (q ∙ ap f k)) ∙ new)

  -- And different values make no repeat.
  at-different : (n : ℕ) → ((i j : ℕ) → i < j → j < n → f i ≢ f j) → distinct (top_first f n) ≡ true
  unfolding distinct top_first
  at-different zero h = refl
  at-different (suc n) h = and_both (not (elem (f n) (top_first f n))) (distinct (top_first f n)) (go (elem (f n) (top_first f n)) refl) (at-different n (λ i j l m. h i j l (omega arith)))
    where
      go : (t : Bool) → elem (f n) (top_first f n) ≡ t → not t ≡ true
      go true e = let (k, l, p) = at-elem f (f n) n e in absurd (h k n l (omega arith) p)
      go false e = refl

-- ---- both ways, part by part

-- A test of two parts, as a pair.
pub and-iff : (a b : Bool) → ((a && b) ≡ true) ↔ ((a ≡ true) × (b ≡ true))
and-iff a b = (λ e. (and_left a b e, and_right a b e), λ p. and_both a b p.0 p.1)

-- An order of whole numbers, by its test.
order-iff : (a b : ℤ) → (le_z a b ≡ true) ↔ (a ≤ℤ b)
order-iff a b = (λ e. le_z_yes (true→T (le_z a b) e), λ l. T→true (le_z a b) l.le)

-- A slot is empty or passes the test b.
held-iff : (m : ℕ) (b : Bool) → ((eqb m 0 || b) ≡ true) ↔ (m ≢ 0 → b ≡ true)
held-iff m b = (λ e n. rw (ne_eqb m 0 n) at e, λ f. go f (ℕ_discrete m 0))
  where
    go : (m ≢ 0 → b ≡ true) → Dec (m ≡ 0) → (eqb m 0 || b) ≡ true
    go f (yes q) = rw (eq-eqb m 0 q)
    go f (no q) = or_right (eqb m 0) b (f q)

module _ (B : Board) where
  open B use {clock_bytes as c, get}

  -- Each test of the settings is a rule.
  pub settings-iff : (s : List ℕ) → (settings_sound B s ≡ true) ↔ SettingsSound B s
  unfolding settings_sound
  settings-iff s =
      let latch = ltb (get s (Latch, 1)) (half c) && (leb (get s (Latch, 2)) 31 && leb (get s (Latch, 3)) 31) in
      let parts = and-iff (all 256 (connection_sound B s)) (all 5 (horizon_sound B s) && latch) in
      let others = and-iff (all 5 (horizon_sound B s)) latch in
      let registers = and-iff (ltb (get s (Latch, 1)) (half c)) (leb (get s (Latch, 2)) 31 && leb (get s (Latch, 3)) 31) in
      let two = and-iff (leb (get s (Latch, 2)) 31) (leb (get s (Latch, 3)) 31) in (
        λ e.
            let (connections, e₁) = parts.0 e in
            let (horizons, e₂) = others.0 e₁ in
            let (first, e₃) = registers.0 e₂ in
            record {
              delays = λ i h. ((connection i).0 (all-at (connection_sound B s) 256 i connections h)).0;
              masks = λ i h. ((connection i).0 (all-at (connection_sound B s) 256 i connections h)).1;
              horizons = λ p h. ltb-true _ _ (all-at (horizon_sound B s) 5 p horizons h);
              register_1 = ltb-true _ _ first;
              register_2 = leb-true _ _ (two.0 e₃).0;
              register_4 = leb-true _ _ (two.0 e₃).1;
            },
        λ p.
            parts.1 (
              all_true (connection_sound B s) 256 (λ i h. (connection i).1 (p.delays i h, p.masks i h)),
              others.1 (
                all_true (horizon_sound B s) 5 (λ q h. lt-ltb _ _ (p.horizons q h)),
                registers.1 (lt-ltb _ _ p.register_1, two.1 (le-leb _ _ p.register_2, le-leb _ _ p.register_4)),
              ),
            ),
      )
    where
      connection : (i : ℕ) → (connection_sound B s i ≡ true) ↔ ((get s (Delay, i) < half c) × (get s (Routes, i) ≤ 31))
      connection i =
          let parts = and-iff (ltb (get s (Delay, i)) (half c)) (leb (get s (Routes, i)) 31) in
          (λ e. let (a, b) = parts.0 e in (ltb-true _ _ a, leb-true _ _ b), λ p. parts.1 (lt-ltb _ _ p.0, le-leb _ _ p.1))

  -- The stack is the list of its first n entries.
  pub lists-sound : (s : List ℕ) → get s free ≤ 256 → distinct (stack B s) ≡ true → ((i : ℕ) → i < 256 → elem i (stack B s) ≡ eqb (get s (Mask, i)) 0) → StackSound B s
  unfolding stack
  lists-sound s count once same =
      let n = get s free in
      let entry : ℕ → ℕ = λ k. get s (Idle, k) in
      record {
        count = count;
        different = different-at entry n once;
        idle_empty = λ i k h l q. eqb-true _ _ (sym (same i h) ∙ elem_at entry i n k l q);
        empty_idle = λ i h q. at-elem entry i n (same i h ∙ eq-eqb _ _ q);
      }

  -- A slot's test compares being on it with being empty.
  pub stack-iff : (s : List ℕ) → (stack_sound B s ≡ true) ↔ StackSound B s
  unfolding stack_sound stack
  stack-iff s =
      let parts = and-iff (leb (get s free) 256) (distinct (stack B s) && all 256 (listed B s)) in
      let others = and-iff (distinct (stack B s)) (all 256 (listed B s)) in (
        λ e. let (once, same) = stack-lists B s e in lists-sound s (leb-true _ _ (parts.0 e).0) once same,
        λ p. parts.1 (le-leb _ _ p.count, others.1 (at-different entry n p.different, all_true (listed B s) 256 (λ i h. eq-beq (elem i (stack B s)) (eqb (get s (Mask, i)) 0) (same p i h)))),
      )
    where
      n : ℕ
      n = get s free

      entry : ℕ → ℕ
      entry k = get s (Idle, k)

      -- By whether the slot is empty.
      same : StackSound B s → (i : ℕ) → i < 256 → elem i (top_first entry n) ≡ eqb (get s (Mask, i)) 0
      same p i h = go (ℕ_discrete (get s (Mask, i)) 0) (elem i (top_first entry n)) refl
        where
          go : Dec (get s (Mask, i) ≡ 0) → (t : Bool) → elem i (top_first entry n) ≡ t → elem i (top_first entry n) ≡ eqb (get s (Mask, i)) 0
          go (yes q) t e = let (k, l, m) = p.empty_idle i h q in elem_at entry i n k l m ∙ sym (eq-eqb (get s (Mask, i)) 0 q)
          go (no q) true e = let (k, l, m) = at-elem entry i n e in absurd (q (p.idle_empty i k h l m))
          go (no q) false e = e ∙ sym (ne_eqb (get s (Mask, i)) 0 q)

  -- An empty slot is never bad.
  pub empty-sound : (r : Store) (i : ℕ) → get r.state (Mask, i) ≡ 0 → slot_sound B r i ≡ true
  unfolding slot_sound
  empty-sound r i e = rw (eq-eqb (get r.state (Mask, i)) 0 e)

  -- Each test of a slot is a rule for the packet in it.
  pub slot-iff : (r : Store) (i : ℕ) → (slot_sound B r i ≡ true) ↔ (get r.state (Mask, i) ≢ 0 → StoredSound B r i)
  unfolding slot_sound
  slot-iff r i =
      let s = r.state in
      let fits = leb (get s (Mask, i)) 31 && ltb (delay_of B s i) (half c) in
      let late = le_z (neg_ℤ (pos (delay_of B s i))) (offset_of B s i) in
      let far = le_z (offset_of B s i) (pos (half c - 2)) in
      let same = eqb (stamp c (packet r.memory i)) (get s (Deadline, i)) in
      let held = held-iff (get s (Mask, i)) (fits && late && far && same) in
      let t₁ = and-iff (fits && late && far) same in
      let t₂ = and-iff (fits && late) far in
      let t₃ = and-iff fits late in
      let t₄ = and-iff (leb (get s (Mask, i)) 31) (ltb (delay_of B s i) (half c)) in (
        λ e n.
            let (e₁, header) = t₁.0 (held.0 e n) in
            let (e₂, not_far) = t₂.0 e₁ in
            let (e₃, not_late) = t₃.0 e₂ in
            let (ports, in_range) = t₄.0 e₃ in
            record { ports = leb-true _ _ ports; in_range = ltb-true _ _ in_range; not_late = (order-iff _ _).0 not_late; not_far = (order-iff _ _).0 not_far; header = eqb-true _ _ header },
        λ p. held.1 (λ n. let x = p n in
            t₁.1 (t₂.1 (t₃.1 (t₄.1 (le-leb _ _ x.ports, lt-ltb _ _ x.in_range), (order-iff _ _).1 x.not_late), (order-iff _ _).1 x.not_far), eq-eqb _ _ x.header)),
      )

  -- All slots together.
  pub slots-iff : (r : Store) → (slots_sound B r ≡ true) ↔ AllStoredSound B r
  unfolding slots_sound
  slots-iff r = (λ e i h. (slot-iff r i).0 (all-at (slot_sound B r) 256 i e h), λ p. all_true (slot_sound B r) 256 (λ i h. (slot-iff r i).1 (p i h)))

  -- ---- the law

  -- The test is passed just where every rule holds.
  pub sound-iff : (r : Store) → (sound B r ≡ true) ↔ Sound B r
  unfolding sound
  sound-iff r =
      let parts = and-iff (settings_sound B r.state) (stack_sound B r.state && slots_sound B r) in
      let others = and-iff (stack_sound B r.state) (slots_sound B r) in (
        λ e.
            let (settings, e₁) = parts.0 e in
            let (stack, slots) = others.0 e₁ in
            record { settings = (settings-iff r.state).0 settings; stack = (stack-iff r.state).0 stack; stored = (slots-iff r).0 slots },
        λ p. parts.1 ((settings-iff r.state).1 p.settings, others.1 ((stack-iff r.state).1 p.stack, (slots-iff r).1 p.stored)),
      )

-- ---- numbers and refusals

-- What a test that fails decides doesn't hold.
broken : {P : Type 0} → (false ≡ true) ↔ P → P → ⊥
broken i x = true≢false (sym (i.1 x))

-- Another number, where the reason for this one fails.
never : {n m : ℕ} {P : Type 0} → n ≢ m → (P → ⊥) → (n ≡ m) ↔ P
never h g = (λ e. absurd (h e), λ x. absurd (g x))

module _ (B : Board) where
  open B use {clock_bytes as c, state_length, get}

  -- The first test that fails gives its number; what W, P and the numbers k and q stand for is the entry's.
  fault-named : (r : Store) (W P : Type 0) (m due k : ℕ) (f : Bool) (qs : List (Bool × ℕ)) → (f ≡ true) ↔ W → 15 ≤ k → 15 ≤ m → (slots_sound B r ≡ false → (k ≡ m) ↔ P) → (AllStoredSound B r → P → ⊥)
      → asked qs < 13 → asked qs ≢ 1 → (W → asked qs ≡ due) → FaultNamed B r W P m due (asked ((f, 1) ∷ sound_questions B k r ++ qs))
  unfolding asked
  fault-named r W P m due k f qs lengths hk hm bad good small other rest = go f (settings_sound B r.state) (stack_sound B r.state) (slots_sound B r) lengths (settings-iff B r.state) (stack-iff B r.state) (slots-iff B r) bad
    where
      go : (f a b d : Bool) → (f ≡ true) ↔ W → (a ≡ true) ↔ SettingsSound B r.state → (b ≡ true) ↔ StackSound B r.state → (d ≡ true) ↔ AllStoredSound B r → (d ≡ false → (k ≡ m) ↔ P)
          → FaultNamed B r W P m due (asked ((f, 1) ∷ (a, 13) ∷ (b, 14) ∷ (d, k) ∷ qs))
      go false a b d i j l s h = record {
        lengths = (λ e. broken i, λ x. refl);
        settings = never (λ e. omega arith) (λ x. broken i x.0);
        stack = never (λ e. omega arith) (λ x. broken i x.0);
        packets = never (λ e. omega arith) (λ x. broken i x.0);
        sound = λ w x. absurd (broken i w);
        accepted = λ e. absurd (omega arith);
      }
      go true false b d i j l s h = record {
        lengths = never (λ e. omega arith) (λ x. x (i.0 refl));
        settings = (λ e. (i.0 refl, broken j), λ x. refl);
        stack = never (λ e. omega arith) (λ x. broken j x.1);
        packets = never (λ e. omega arith) (λ x. broken j x.1);
        sound = λ w x. absurd (broken j x.settings);
        accepted = λ e. absurd (omega arith);
      }
      go true true false d i j l s h = record {
        lengths = never (λ e. omega arith) (λ x. x (i.0 refl));
        settings = never (λ e. omega arith) (λ x. x.1 (j.0 refl));
        stack = (λ e. (i.0 refl, j.0 refl, broken l), λ x. refl);
        packets = never (λ e. omega arith) (λ x. broken l x.2);
        sound = λ w x. absurd (broken l x.stack);
        accepted = λ e. absurd (omega arith);
      }
      go true true true false i j l s h = record {
        lengths = never (λ e. omega arith) (λ x. x (i.0 refl));
        settings = never (λ e. omega arith) (λ x. x.1 (j.0 refl));
        stack = never (λ e. omega arith) (λ x. x.2 (l.0 refl));
        packets = (λ e. (i.0 refl, j.0 refl, l.0 refl, (h refl).0 e), λ x. (h refl).1 x.3);
        sound = λ w x. absurd (broken s x.stored);
        accepted = λ e. absurd (omega arith);
      }
      go true true true true i j l s h = record {
        lengths = never other (λ x. x (i.0 refl));
        settings = never (λ e. omega arith) (λ x. x.1 (j.0 refl));
        stack = never (λ e. omega arith) (λ x. x.2 (l.0 refl));
        packets = never (λ e. omega arith) (λ x. good (s.0 refl) x.3);
        sound = λ w x. rest w;
        accepted = λ e. (i.0 refl, record { settings = j.0 refl; stack = l.0 refl; stored = s.0 refl });
      }

  -- The lengths of state and memory, and of a tick's other areas.
  pub full-iff : (r : Store) → (full B r ≡ true) ↔ Sized B r
  unfolding full
  full-iff r =
      let parts = and-iff (eqb (length r.state) state_length) (eqb (length r.memory) 5120) in
      (λ e. (eqb-true _ _ (parts.0 e).0, eqb-true _ _ (parts.0 e).1), λ x. parts.1 (eq-eqb _ _ x.0, eq-eqb _ _ x.1))

  pub areas-iff : (r : Store) (area out ans : List ℕ) → ((full B r && areas_full area out ans) ≡ true) ↔ (Sized B r × (length area ≡ 100) × (length out ≡ 100) × (length ans ≡ 20))
  unfolding areas_full
  areas-iff r area out ans =
      let a = eqb (length area) 100 in
      let b = eqb (length out) 100 in
      let d = eqb (length ans) 20 in
      let all = and-iff (full B r) (a && b && d) in
      let three = and-iff (a && b) d in
      let two = and-iff a b in (
        λ e. let (f, g) = all.0 e in let (h, k) = three.0 g in let (i, j) = two.0 h in ((full-iff r).0 f, eqb-true _ _ i, eqb-true _ _ j, eqb-true _ _ k),
        λ x. all.1 ((full-iff r).1 x.0, three.1 (two.1 (eq-eqb _ _ x.1, eq-eqb _ _ x.2), eq-eqb _ _ x.3)),
      )

  -- The questions after soundness give 0, 4 or 5, or 0 or 3.
  register-number : (a b : Bool) → let n = asked ((a, 4) ∷ (b, 5) ∷ []) in (n < 13) × (n ≢ 1)
  unfolding asked
  register-number true true = (omega arith, λ e. omega arith)
  register-number true false = (omega arith, λ e. omega arith)
  register-number false b = (omega arith, λ e. omega arith)

  mask-number : (a : Bool) → let n = asked ((a, 3) ∷ []) in (n < 13) × (n ≢ 1)
  unfolding asked
  mask-number true = (omega arith, λ e. omega arith)
  mask-number false = (omega arith, λ e. omega arith)

  -- A bad packet of a call is 15.
  call-packets : (r : Store) → slots_sound B r ≡ false → (◌≡◌ {A = ℕ} 15 15) ↔ (AllStoredSound B r → ⊥)
  call-packets r e = (λ q x. true≢false (sym ((slots-iff B r).1 x) ∙ e), λ x. refl)

  control-named : (r : Store) (register v : ℕ) → FaultNamed B r (Sized B r) (AllStoredSound B r → ⊥) 15 (number_due c (control register v)) (control_refusal B r register v)
  unfolding control_refusal refusal
  control-named r register v =
      let (small, other) = register-number (leb register 5) (fits c register v) in
      fault-named r (Sized B r) (AllStoredSound B r → ⊥) 15 (number_due c (control register v)) 15 (full B r) (control_questions c register v) (full-iff r) (omega arith) (omega arith) (call-packets r) (λ x y. y x) small other (λ w. number-due c (start 0) (control register v))

  tick-named : (r : Store) (k : TickCall) (out ans : List ℕ) → let W = Sized B r × (length k.arrivals ≡ 100) × (length out ≡ 100) × (length ans ≡ 20) in FaultNamed B r W (AllStoredSound B r → ⊥) 15 (number_due c (tick k out ans)) (tick_refusal B r k.arriving k.best_effort k.arrivals out ans)
  unfolding tick_refusal refusal asked
  tick-named r k out ans =
      let (small, other) = mask-number (leb k.arriving 31 && leb k.best_effort 31) in
      let areas = areas-iff r k.arrivals out ans in
      let full-areas = and-iff (full B r) (areas_full k.arrivals out ans) in
      fault-named r _ (AllStoredSound B r → ⊥) 15 (number_due c (tick k out ans)) 15 (full B r && areas_full k.arrivals out ans) (tick_questions k.arriving k.best_effort) areas (omega arith) (omega arith) (call-packets r) (λ x y. y x) small other
      (λ w. sym (passed (areas_full k.arrivals out ans) (full-areas.0 (areas.1 w)).1 (tick_questions k.arriving k.best_effort)) ∙ number-due c (start 0) (tick k out ans))
    where
      passed : (a : Bool) → a ≡ true → (qs : List (Bool × ℕ)) → asked ((a, 1) ∷ qs) ≡ asked qs
      passed a e qs = rw e

  -- ---- the service entry

  -- Where a test of a slot fails there is a first one, whose slot is not empty.
  pub lowest-bad : (r : Store) → slots_sound B r ≡ false → LowestBad B r (lowest_bad B r)
  unfolding slots_sound lowest_bad
  lowest-bad r e = go (first-failing (slot_sound B r) 256) (dec_lt (first_failing 256 (slot_sound B r)) 256)
    where
      failing : {b : Bool} → b ≡ false → b ≡ true → ⊥
      failing q t = true≢false (sym t ∙ q)

      go : let i = first_failing 256 (slot_sound B r) in FirstFailing (slot_sound B r) 256 i → Dec (i < 256) → LowestBad B r i
      go F (yes l) =
          let q = F.fails l in
          record { slot = l; stored = λ z. failing q (empty-sound B r _ z); bad = λ x. failing q ((slot-iff B r _).1 (λ n. x)); lower = λ j m. (slot-iff B r j).0 (F.below j m) }
      go F (no l) = absurd (true≢false (sym (all-first-failing (slot_sound B r) 256 ∙ le-leb 256 (first_failing 256 (slot_sound B r)) (omega arith)) ∙ e))

  -- There is one lowest bad slot: of two, the lower would be bad and sound.
  one-lowest : (r : Store) (i j : ℕ) → LowestBad B r i → LowestBad B r j → i ≡ j
  one-lowest r i j x y = go (dec_lt i j) (dec_lt j i)
    where
      go : Dec (i < j) → Dec (j < i) → i ≡ j
      go (yes l) m = absurd (x.bad (y.lower i l x.stored))
      go (no l) (yes m) = absurd (y.bad (x.lower j m y.stored))
      go (no l) (no m) = omega arith

  service-named : (r : Store) (i : ℕ) → FaultNamed B r (Sized B r) (LowestBad B r i) (15 + 256 * i) 0 (service_fault B r)
  unfolding service_fault asked
  service-named r i =
      fault-named r (Sized B r) (LowestBad B r i) (15 + 256 * i) 0 (15 + 256 * lowest_bad B r) (full B r) [] (full-iff r) (omega arith) (omega arith)
      (λ e. (λ q. let z : lowest_bad B r ≡ i = omega arith in rw (← z) (lowest-bad r e), λ x. let z = one-lowest r (lowest_bad B r) i (lowest-bad r e) x in omega arith))
      (λ all x. x.bad (all i x.slot x.stored)) (omega arith) (λ e. omega arith) (λ w. refl)

  -- What lengths and soundness give a call.
  abbrev pub store_number : Store → ℕ
  store_number r = asked ((full B r, 1) ∷ sound_questions B 15 r)

  -- The entry gives the same, below 15; or it is 15, the areas have their lengths, a packet is bad, and its slot is added.
  abbrev Same : Store → Type 0
  Same r = (store_number r < 15) × (store_number r ≡ service_fault B r)

  abbrev Adds : Store → Type 0
  Adds r = (store_number r ≡ 15) × (full B r ≡ true) × (slots_sound B r ≡ false) × (service_fault B r ≡ 15 + 256 * lowest_bad B r)

  -- By the answers in order.
  service-cases : (r : Store) → Same r ⊎ Adds r
  unfolding service_fault asked
  service-cases r = go (full B r) (settings_sound B r.state) (stack_sound B r.state) (slots_sound B r)
    where
      k : ℕ
      k = 15 + 256 * lowest_bad B r

      go : (f a b d : Bool) → let q : ℕ → ℕ = λ n. asked ((f, 1) ∷ (a, 13) ∷ (b, 14) ∷ (d, n) ∷ []) in ((q 15 < 15) × (q 15 ≡ q k)) ⊎ ((q 15 ≡ 15) × (f ≡ true) × (d ≡ false) × (q k ≡ k))
      go false a b d = inl (omega arith, refl)
      go true false b d = inl (omega arith, refl)
      go true true false d = inl (omega arith, refl)
      go true true true true = inl (omega arith, refl)
      go true true true false = inr (refl, refl, refl, refl)

  pub service-same : (r : Store) → store_number r ≢ 15 → store_number r ≡ service_fault B r
  service-same r h = go (service-cases r)
    where
      go : Same r ⊎ Adds r → store_number r ≡ service_fault B r
      go (inl s) = s.1
      go (inr a) = absurd (h a.0)

  pub service-adds : (r : Store) → store_number r ≡ 15 → Adds r
  service-adds r h = go (service-cases r)
    where
      go : Same r ⊎ Adds r → Adds r
      go (inl s) = absurd (let l = s.0 in omega arith)
      go (inr a) = a

  -- ---- refusals

  -- A call gives the number of its questions, and does its work only where this is 0.
  pub refused : {R : Type 0} (n : ℕ) (o o' : Outcome R) → o.reply.number ≡ 0 → o'.reply.number ≡ n → let q = cond (eqb n 0) o o' in (q.reply.number ≡ n) × (q.reply.number ≢ 0 → q ≡ o')
  refused n o o' e e' = go (ℕ_discrete n 0)
    where
      go : Dec (n ≡ 0) → let q = cond (eqb n 0) o o' in (q.reply.number ≡ n) × (q.reply.number ≢ 0 → q ≡ o')
      go (yes z) = rw (eq-eqb n 0 z) (e ∙ sym z, λ h. absurd (h e))
      go (no z) = rw (ne_eqb n 0 z) (e', λ h. refl)

  -- All of it.
  pub entry-laws : EntryLaws B
  unfolding fresh make_fresh control_write tick_entry ticked
  entry-laws = record {
    fresh = λ r t. (λ x. rw ((full-iff r).1 x) (refl, refl, refl), λ x. rw (fails (full B r) (λ e. x ((full-iff r).0 e))) (refl, refl));
    control = λ r register v.
        let (m, k) = refused (control_refusal B r register v) (record { reply = number_reply 0; after = record { state = written B register v r.state; memory = r.memory } }) (record { reply = number_reply (control_refusal B r register v); after = r }) refl refl in
        (subst (FaultNamed B r _ _ 15 _) (sym m) (control-named r register v), λ h. ap (λ (o : Outcome Store). o.after) (k h));
    tick = λ r k out ans.
        let n = tick_refusal B r k.arriving k.best_effort k.arrivals out ans in
        let (m, q) = refused n (ticked B r k.arriving k.best_effort k.arrivals) (record { reply = record { number = n; outgoing = out; answers = ans }; after = r }) refl refl in
        (subst (FaultNamed B r _ _ 15 _) (sym m) (tick-named r k out ans), λ h. let e = q h in (ap (λ (o : Outcome Store). o.after) e, ap (λ (o : Outcome Store). o.reply.outgoing) e, ap (λ (o : Outcome Store). o.reply.answers) e));
    service = service-named;
  }

-- Of the board of document 01.
pub entries : EntryLaws board8
entries = entry-laws board8
