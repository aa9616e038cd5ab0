-- Step 1 of a tick, arrivals, for any lawful board: the code's reads are those of questions 6 to 8, its stores those of a packet placed, and the ports follow each other. Assumes nothing.
use Prim.Native.Nat.{ℕ, ◌+◌, ◌-◌, ◌*◌, ◌<◌, ◌≤◌}
use mathlib.Core.Path.{◌≡◌, refl, sym, ap, subst, ◌∙◌}
use mathlib.Core.Bool.{Bool, true, false, cond, not}
use mathlib.Core.List.{List, [], ◌∷◌}
use native.Mathlib.Numerals.{add-one}
use native.Mathlib.Omega.{arith}
use lib.ListN.{length, set, replicate}
use lib.Seq.{sets}
use lib.Dec.{eqb}
use lib.IntN.{pos, neg_ℤ}
use lib.Signed.{le_z}
use borrow.Author.Tests.{eqb-false, eq-eqb}
use Rattle.rules.specs.Clock.{plus, offset}
use Rattle.rules.specs.Areas.{Store, packet_length, byte, bits, packet, stamp, payload, packed, has, ports_below, asked, arrival_questions, arrival_answer}
use Rattle.rules.specs.Board.{Board, Idle, Time, Deadline, Mask, Outgoing, Delay, Routes, clock, free}
use Rattle.rules.specs.Tick.{arrival_refusal, arrival, placed, admitted, arrived}
use Rattle.passes.specs.Room.{used}
use Rattle.rules.proofs.AreaLaws.{filled}
use Rattle.rules.proofs.BoardLaws.{Laws}
use Rattle.rules.proofs.Booleans.{not-false}
use Rattle.passes.proofs.Packets.{filled-number}
use Rattle.passes.proofs.Room.{placed-used}
use Rattle.passes.specs.Stores.{store}
use Rattle.passes.specs.Arrivals.{in_time, met}

-- Only an arrival that has passed all questions is answered by 1.
only-stored : (here routed in_time room : Bool) → cond here (arrival_answer (asked (arrival_questions routed in_time room))) 0 ≡ 1 → room ≡ true
unfolding arrival_answer asked
only-stored false routed in_time room e = absurd (omega arith)
only-stored true false in_time room e = absurd (omega arith)
only-stored true true false room e = absurd (omega arith)
only-stored true true true false e = absurd (omega arith)
only-stored true true true true e = refl

-- One that no question refuses has passed the last.
only-passed : (routed in_time room : Bool) → asked (arrival_questions routed in_time room) ≡ 0 → room ≡ true
unfolding asked
only-passed false in_time room e = absurd (omega arith)
only-passed true false room e = absurd (omega arith)
only-passed true true false e = absurd (omega arith)
only-passed true true true e = refl

-- Where question 6 is passed, 7 and 8 decide.
routed-refusal : (in_time full : Bool) → asked (arrival_questions true in_time (not full)) ≡ cond in_time (cond full 8 0) 7
unfolding asked
routed-refusal false full = refl
routed-refusal true true = refl
routed-refusal true false = refl

module _ (B : Board) where
  open B use {clock_bytes as c, state_length, get, put}

  -- ---- what an arrival meets

  -- Question 7, read by read.
  pub in_time-read : (s k : List ℕ) {x t d : ℕ} {a : Bool} → x ≡ stamp c k → t ≡ get s clock → d ≡ get s (Delay, byte k 0) → a ≡ le_z (neg_ℤ (pos d)) (offset (bits c) x t) → a ≡ in_time B s k
  in_time-read s k ex et ed ea = rw (ea, ex, et, ed)

  -- A stored packet has an idle address to take.
  pub stored-has-free : (s k : List ℕ) (arriving p : ℕ) → arrival B s arriving p k ≡ 1 → 0 < get s free
  unfolding arrival arrival_refusal
  stored-has-free s k arriving p e =
      let m = get s (Routes, byte k 0) in
      let n = get s free in
      let h : (n ≡ 0 → ⊥) = eqb-false n 0 (not-false (eqb n 0) (only-stored (has arriving p) (not (eqb m 0)) (in_time B s k) (not (eqb n 0)) e)) in
      omega arith

  -- So has one that no question refuses.
  pub passed-has-free : (s k : List ℕ) → arrival_refusal B s k ≡ 0 → 0 < get s free
  unfolding arrival_refusal
  passed-has-free s k e =
      let m = get s (Routes, byte k 0) in
      let n = get s free in
      let h : (n ≡ 0 → ⊥) = eqb-false n 0 (not-false (eqb n 0) (only-passed (not (eqb m 0)) (in_time B s k) (not (eqb n 0)) e)) in
      omega arith

  -- The questions, read by read.
  pub refusal-read : (s k : List ℕ) {m n : ℕ} {t : Bool} → m ≡ get s (Routes, byte k 0) → t ≡ in_time B s k → n ≡ get s free → eqb m 0 ≡ false → cond t (cond (eqb n 0) 8 0) 7 ≡ arrival_refusal B s k
  unfolding arrival_refusal
  refusal-read s k {m} {n} em et en z = sym (rw (← em, z) (routed-refusal (in_time B s k) (eqb (get s free) 0) ∙ rw (et, en)))

  pub closed-read : (s k : List ℕ) {m : ℕ} → m ≡ get s (Routes, byte k 0) → m ≡ 0 → 6 ≡ arrival_refusal B s k
  unfolding arrival_refusal asked
  closed-read s k {m} em z = rw (← em, eq-eqb m 0 z)

  -- ---- a packet placed

  -- Read by read and store by store.
  pub stores-placed : (r : Store) (k : List ℕ) {x d y m o n i : ℕ} {l s₁ s₂ s₃ s₄ : List ℕ}
      → x ≡ stamp c k
      → d ≡ get r.state (Delay, byte k 0)
      → y ≡ plus (bits c) x d
      → m ≡ get r.state (Routes, byte k 0)
      → o ≡ get r.state (Outgoing, byte k 0)
      → n ≡ get r.state free
      → i ≡ get r.state (Idle, n - 1)
      → l ≡ sets r.memory (packet_length * i) (packed c o y (payload c k))
      → s₁ ≡ put r.state free (n - 1)
      → s₂ ≡ put s₁ (Time, i) x
      → s₃ ≡ put s₂ (Deadline, i) y
      → s₄ ≡ put s₃ (Mask, i) m
      → store s₄ l ≡ placed B r k
  unfolding placed
  stores-placed r k ex ed ey em eo en ei el e₁ e₂ e₃ e₄ = rw (e₄, e₃, e₂, e₁, el, ei, en, eo, em, ey, ed, ex)

  -- It leaves room: the stack has one address less, and the slots one packet more at the most.
  pub placed-leaves-room : (L : Laws B) (r : Store) (k : List ℕ) {n i : ℕ} {r' : Store} → length r.state ≡ state_length → 0 < get r.state free → n ≡ get r.state free → i ≡ get r.state (Idle, n - 1) → i < 256
      → r' ≡ placed B r k → used B r.state ≤ 256 → used B r'.state ≤ 256
  placed-leaves-room L r k sized some en ei hi e room =
      let small = subst (λ (m : ℕ). get r.state (Idle, m - 1) < 256) en (subst (λ (m : ℕ). m < 256) ei hi) in
      let u = placed-used B L r k sized some small in
      subst (λ (s : List ℕ). used B s ≤ 256) (sym (ap (λ (x : Store). x.state) e)) (omega arith)

  -- ---- port after port

  module _ (r : Store) (arriving : ℕ) (area : List ℕ) where
    -- The store and the answers after the arrivals on the ports below p: room is kept.
    pub record ArrivedBelow (p : ℕ) (r' : Store) (answers : List ℕ) : Type 0 where
      pub after : r' ≡ arrived B p arriving area r
      pub answered : answers ≡ filled 1 (λ q. met B r arriving area q ∷ []) (replicate 5 0) p
      pub room : used B r.state ≤ 256 → used B r'.state ≤ 256

    -- At first it is the store met.
    pub arrived-none : ArrivedBelow 0 r (replicate 5 0)
    unfolding arrived ports_below
    arrived-none = record { after = refl; answered = refl; room = λ h. h }

    -- One port more: its packet k meets a, which is answered.
    pub arrived-next : {p a : ℕ} {r' r'' : Store} {k l : List ℕ} → ArrivedBelow p r' l → p < 5 → k ≡ packet area p → a ≡ arrival B r'.state arriving p k → r'' ≡ admitted B r' arriving p k
        → (used B r'.state ≤ 256 → used B r''.state ≤ 256) → ArrivedBelow (p + 1) r'' (set l p a)
    unfolding arrived
    arrived-next {p} {a} {r'} {r''} {k} {l} A h ek ea e room = rw (add-one p) (record {
      after = e ∙ rw (ek, A.after);
      answered = rw (A.answered, ea, ek, A.after) (filled-number (met B r arriving area) (replicate 5 0) p (omega arith));
      room = λ u. room (A.room u);
    })
