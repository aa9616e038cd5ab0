-- Each record of a tape does what `Step` says: by its kind and questions, and for a tick by what the router's own reply has in each place. Assumes nothing.
use Prim.Native.Nat.{ℕ, zero, suc, ◌+◌, ◌*◌, ◌^◌, ◌≤◌, ◌<◌}
use mathlib.Core.Path.{◌≡◌, refl, sym, ap, subst, ◌∙◌}
use mathlib.Core.Bool.{Bool, true, false, cond, not, ◌&&◌, ◌||◌, beq, true≢false}
use mathlib.Core.Logic.{◌≢◌, ◌⊎◌, inl, inr}
use mathlib.Core.List.{List, [], ◌∷◌, ◌++◌, append-nil, append_assoc}
use mathlib.Core.Option.{none, some}
use native.Mathlib.Decide.{dec_lt}
use native.Mathlib.Omega.{arith}
use lib.ListN.{length, length-set, length-drop, get_or, drop, set, replicate}
use lib.Seq.{sets, length-sets, get_or-set_same, get_or-set_other, get_or-drop}
use lib.Dec.{leb, ltb, eqb}
use lib.IntN.{pos}
use borrow.Author.Tests.{eqb-true, eqb-false, ne_eqb, le-leb, lt-leb, leb-true, ltb-true}
use Rattle.rules.specs.Areas.{Store, Outcome, byte, packet, has, grant_code, Grant, nobody, best_effort, on_time, early, ports_below, per_port, asked, arrival_questions, arrival_answer}
use Rattle.rules.specs.Order.{all}
use Rattle.rules.specs.Board.{clock, board8}
use Rattle.rules.specs.Questions.{control_write, control_refusal, tick as tick_entry, tick_refusal, written}
use Rattle.rules.specs.Tick as Tick
use Rattle.rules.specs.Whole.{TickCall}
use Rattle.rules.specs.Demand3.{byte_step}
use Rattle.rules.proofs.Booleans.{and_left, and_right, beq-eq, some_inj, none-some}
use Rattle.rules.proofs.IndexLaws.{all-at}
use Rattle.rules.proofs.AreaLaws.{packet-other, part_same}
use Rattle.rules.proofs.ByteLaws.{answer_at}
use Rattle.rules.proofs.FieldBytes.{packet-byte}
use Rattle.rules.proofs.Theorem.{layout}
use Rattle.records.specs.Records.{blank_part, record_refusal, kind_refusal, unused_refusal, arrival_refusal}
use Rattle.records.proofs.Refusals.{blank-empty, blank-first}
use Rattle.events.specs.Tape.{Tape, refused, Taken, after_control, after_tick, take_control, take_arrival, take_tick, take_record}
use Rattle.text.specs.Characters.{NoFeed, cut_from}
use Rattle.text.specs.Lines.{tick_text, tick_line, refused_line}
use Rattle.text.proofs.Characters.{cut_line, no-feed-tick-text}
use Rattle.pages.proofs.Withdrawn.{tick-at-most-1280}
use Rattle.tapes.specs.Printed.{refused_arrival, ticked_lines, event_lines}
use Rattle.readback.specs.TapePrinted.{TickLine, Waiting, Between, waits_on, IsControl, IsArrival, IsTick, ZeroFrom, Unfit, no_kind, no_control, no_arrival, no_tick, occupied, Brings, Refusals, no_port, taken, Step, unfit, kept, turned_away}
use Rattle.readback.specs.TapePrinted as Said
use Rattle.readback.proofs.LinesRead.{refused_text, refused-line, no-feed-refused, refused-reads, tick-reads}
use Rattle.readback.proofs.Small.{Small, SmallStore, zeros-small, sets-small, part_small, written_small, arrived-small, ticked-small}

-- ---- a text cut at its line feeds

-- Whatever follows it, the text is cut into these lines.
abbrev pub CutsTo : List ℕ → List (List ℕ) → Type 0
CutsTo text ls = (rest : List ℕ) → cut_from [] (text ++ rest) ≡ ls ++ cut_from [] rest

pub cuts-none : CutsTo [] []
cuts-none rest = refl

pub cuts-then : (a b : List ℕ) (ls ms : List (List ℕ)) → CutsTo a ls → CutsTo b ms → CutsTo (a ++ b) (ls ++ ms)
cuts-then a b ls ms f g rest = ap (cut_from []) (append_assoc a b rest) ∙ f (b ++ rest) ∙ ap (λ (x : List (List ℕ)). ls ++ x) (g rest) ∙ sym (append_assoc ls ms (cut_from [] rest))

cuts-line : (l : List ℕ) → NoFeed l → CutsTo (l ++ (10 ∷ [])) (l ∷ [])
cuts-line l h rest = cut_line [] l rest h

pub cuts-refused : (k q : ℕ) → CutsTo (refused_line k q) (refused_text k q ∷ [])
cuts-refused k q = subst (λ (l : List ℕ). CutsTo l (refused_text k q ∷ [])) (sym (refused-line k q)) (cuts-line (refused_text k q) (no-feed-refused k q))

pub cuts-tick : (t : ℕ) (out ans : List ℕ) → CutsTo (tick_line t out ans) (tick_text t out ans ∷ [])
unfolding tick_line
cuts-tick t out ans = cuts-line (tick_text t out ans) (no-feed-tick-text t out ans)

-- ---- masks of five ports

-- Port p comes into the mask m, which has it not: the mask stays below 32, and of the ports j it has this one more.
rule : ℕ → ℕ → ℕ → Bool
rule m p j = has m p || (ltb (m + 2 ^ p) 32 && beq (has (m + 2 ^ p) j) (eqb p j || has m j))

rules : all 32 (λ m. all 5 (λ p. all 5 (λ j. rule m p j))) ≡ true
unfolding all rule has
rules = refl

module _ (m p j : ℕ) (hm : m < 32) (hp : p < 5) (hj : j < 5) (free : has m p ≡ false) where
  with-port : (m + 2 ^ p < 32) × (has (m + 2 ^ p) j ≡ (eqb p j || has m j))
  unfolding rule
  with-port =
      let at = all-at (λ j. rule m p j) 5 j (all-at (λ p. all 5 (λ j. rule m p j)) 5 p (all-at (λ m. all 5 (λ p. all 5 (λ j. rule m p j))) 32 m rules hm) hp) hj in
      let both = rw free at at in
      (ltb-true (m + 2 ^ p) 32 (and_left (ltb (m + 2 ^ p) 32) _ both), beq-eq (has (m + 2 ^ p) j) (eqb p j || has m j) (and_right (ltb (m + 2 ^ p) 32) _ both))

-- ---- a tape between its records

-- What waits on port p.
abbrev pub waiting : Tape → ℕ → Waiting
waiting σ p = cond (has σ.pending p) (some (get_or σ.records p 0, packet σ.arrivals p)) none

abbrev pub between : Tape → Between
between σ = record { store = σ.store; waits = waiting σ 0 ∷ waiting σ 1 ∷ waiting σ 2 ∷ waiting σ 3 ∷ waiting σ 4 ∷ [] }

pub waits-on : (σ : Tape) (p : ℕ) → p < 5 → waits_on (between σ) p ≡ waiting σ p
waits-on σ zero h = refl
waits-on σ (suc zero) h = refl
waits-on σ (suc (suc zero)) h = refl
waits-on σ (suc (suc (suc zero))) h = refl
waits-on σ (suc (suc (suc (suc zero)))) h = refl
waits-on σ (suc (suc (suc (suc (suc p))))) h = absurd (omega arith)

-- Nothing waits on a port that the mask has not; and on any other its packet, under its record.
pub waits-none : (σ : Tape) (p : ℕ) → p < 5 → waits_on (between σ) p ≡ none → has σ.pending p ≡ false
waits-none σ p h e = go (get_or σ.records p 0, packet σ.arrivals p) (has σ.pending p) (sym (waits-on σ p h) ∙ e)
  where
    go : (x : ℕ × List ℕ) (t : Bool) → cond t (some x) none ≡ none → t ≡ false
    go x true f = none-some (sym f)
    go x false f = refl

pub waits-some : (σ : Tape) (p : ℕ) → p < 5 → (y : ℕ × List ℕ) → waits_on (between σ) p ≡ some y → (has σ.pending p ≡ true) × ((get_or σ.records p 0, packet σ.arrivals p) ≡ y)
waits-some σ p h y e = go (get_or σ.records p 0, packet σ.arrivals p) (has σ.pending p) (sym (waits-on σ p h) ∙ e)
  where
    go : (x : ℕ × List ℕ) (t : Bool) → cond t (some x) none ≡ some y → (t ≡ true) × (x ≡ y)
    go x true f = (refl, some_inj f)
    go x false f = none-some f

-- After k records: arrivals of at most five ports, each under one of these records, in an area of bytes; and a router of bytes.
pub record Lawful (k : ℕ) (σ : Tape) : Type 0 where
  pub store : SmallStore σ.store
  pub pending : σ.pending < 32
  pub whole : length σ.arrivals ≡ 100
  pub arrivals : Small σ.arrivals
  pub five : length σ.records ≡ 5
  pub records : (p : ℕ) → get_or σ.records p 0 ≤ k

-- ---- the bytes of a record

pub blank-zeros : (r : List ℕ) → length r ≡ 24 → (n i : ℕ) → i + n ≡ 24 → blank_part r i 24 ≡ true → ZeroFrom i r
blank-zeros r l zero i e b j a c = absurd (omega arith)
blank-zeros r l (suc n) i e b j a c =
    let both = sym (blank-first r i 24 (omega arith) (omega arith)) ∙ b in
    go (dec_lt i j) (eqb-true (byte r i) 0 (and_left (eqb (byte r i) 0) (blank_part r (suc i) 24) both)) (blank-zeros r l n (suc i) (omega arith) (and_right (eqb (byte r i) 0) (blank_part r (suc i) 24) both))
  where
    go : Dec (i < j) → byte r i ≡ 0 → ZeroFrom (suc i) r → byte r j ≡ 0
    go (yes m) here later = later j (omega arith) c
    go (no m) here later = let same : j ≡ i = omega arith in rw same here

pub zeros-blank : (r : List ℕ) → length r ≡ 24 → (n i : ℕ) → i + n ≡ 24 → ZeroFrom i r → blank_part r i 24 ≡ true
zeros-blank r l zero i e z = blank-empty r i 24 (omega arith)
zeros-blank r l (suc n) i e z = rw (blank-first r i 24 (omega arith) (omega arith), z i (omega arith) (omega arith)) (zeros-blank r l n (suc i) (omega arith) (λ j a b. z j (omega arith) b))

-- The two unused bytes of an arrival.
blank-two : (r : List ℕ) → length r ≡ 24 → blank_part r 2 4 ≡ (eqb (byte r 2) 0 && (eqb (byte r 3) 0 && true))
blank-two r l = blank-first r 2 4 (omega arith) (omega arith) ∙ ap (λ (b : Bool). eqb (byte r 2) 0 && b) (blank-first r 3 4 (omega arith) (omega arith) ∙ ap (λ (b : Bool). eqb (byte r 3) 0 && b) (blank-empty r 4 4 (omega arith)))

-- An arrival passes question 11 just if its port is one of the five and those bytes are zero.
pub arrival-fit : (r : List ℕ) → length r ≡ 24 → byte r 0 ≡ 65 → (blank_part r 2 4 && leb (byte r 1) 4) ≡ true → IsArrival r
arrival-fit r l e f =
    let zeros = sym (blank-two r l) ∙ and_left (blank_part r 2 4) (leb (byte r 1) 4) f in
    record {
      kind = e;
      port = leb-true (byte r 1) 4 (and_right (blank_part r 2 4) (leb (byte r 1) 4) f);
      unused = (eqb-true (byte r 2) 0 (and_left (eqb (byte r 2) 0) _ zeros), eqb-true (byte r 3) 0 (and_left (eqb (byte r 3) 0) true (and_right (eqb (byte r 2) 0) _ zeros)));
    }

pub fit-passes : (r : List ℕ) → length r ≡ 24 → IsArrival r → (blank_part r 2 4 && leb (byte r 1) 4) ≡ true
fit-passes r l c = rw (blank-two r l, c.unused.0, c.unused.1, le-leb (byte r 1) 4 c.port)

-- ---- numbers of two digits

small_numbers : List (Bool × ℕ) → Bool
small_numbers [] = true
small_numbers ((b, n) ∷ qs) = ltb n 100 && small_numbers qs

asked-small : (qs : List (Bool × ℕ)) → small_numbers qs ≡ true → asked qs < 100
unfolding small_numbers asked
asked-small [] h = omega arith
asked-small ((b, n) ∷ qs) h = go b (ltb-true n 100 (and_left (ltb n 100) (small_numbers qs) h)) (asked-small qs (and_right (ltb n 100) (small_numbers qs) h))
  where
    go : (b : Bool) → n < 100 → asked qs < 100 → cond (not b) n (asked qs) < 100
    go true x y = y
    go false x y = x

control-number : (r : Store) (register v : ℕ) → control_refusal board8 r register v < 100
unfolding control_refusal small_numbers
control-number r register v = asked-small _ refl

tick-number : (r : Store) (arriving b : ℕ) (area out ans : List ℕ) → tick_refusal board8 r arriving b area out ans < 100
unfolding tick_refusal small_numbers
tick-number r arriving b area out ans = asked-small _ refl

-- ---- what an accepted tick replies

append-small : (a b : List ℕ) → Small a → Small b → (j : ℕ) → byte (a ++ b) j < 256
append-small [] b f g j = g j
append-small (x ∷ a) b f g zero = f 0
append-small (x ∷ a) b f g (suc j) = append-small a b (λ i. f (suc i)) g j

ports-small : (f : ℕ → List ℕ) → ((p : ℕ) → Small (f p)) → (n j : ℕ) → byte (ports_below f n) j < 256
unfolding ports_below
ports-small f h zero j = omega arith
ports-small f h (suc n) j = append-small (ports_below f n) (f n) (ports-small f h n) (h n) j

code-known : (g : Grant ℕ) → grant_code g ≤ 3
unfolding grant_code
code-known nobody = omega arith
code-known best_effort = omega arith
code-known (on_time i) = omega arith
code-known (early i) = omega arith

-- 1, or the number of a refusal.
answer-known : (a b c : Bool) → let n = arrival_answer (asked (arrival_questions a b c)) in (n ≡ 1) ⊎ ((6 ≤ n) × (n ≤ 8))
unfolding arrival_answer asked
answer-known false b c = inr (omega arith, omega arith)
answer-known true false c = inr (omega arith, omega arith)
answer-known true true false = inr (omega arith, omega arith)
answer-known true true true = inl refl

module _ (r : Store) (arriving b : ℕ) (area : List ℕ) where
  abbrev reply-answers : List ℕ
  reply-answers = (Tick.ticked board8 r arriving b area).reply.answers

  codes-known : (p : ℕ) → p < 5 → byte reply-answers p ≤ 3
  unfolding Tick.ticked
  codes-known p h = subst (λ (n : ℕ). n ≤ 3) (sym (answer_at _ _ _ p h).0) (code-known _)

  -- A refused arrival came on a port of the mask.
  arrival-known : (p : ℕ) → p < 5 → (byte reply-answers (5 + p) < 6) ⊎ ((has arriving p ≡ true) × (6 ≤ byte reply-answers (5 + p)) × (byte reply-answers (5 + p) ≤ 8))
  unfolding Tick.ticked Tick.arrival Tick.arrival_refusal
  arrival-known p h = subst (λ (n : ℕ). (n < 6) ⊎ ((has arriving p ≡ true) × (6 ≤ n) × (n ≤ 8))) (sym (answer_at _ _ _ p h).1) (met (has arriving p) refl)
    where
      s : List ℕ
      s = (Tick.arrived board8 p arriving area r).state

      k : List ℕ
      k = packet area p

      known : (n : ℕ) → (n ≡ 1) ⊎ ((6 ≤ n) × (n ≤ 8)) → (n < 6) ⊎ ((true ≡ true) × (6 ≤ n) × (n ≤ 8))
      known n (inl e) = inl (omega arith)
      known n (inr (a, c)) = inr (refl, a, c)

      met : (t : Bool) → has arriving p ≡ t → let n = Tick.arrival board8 s arriving p k in (n < 6) ⊎ ((has arriving p ≡ true) × (6 ≤ n) × (n ≤ 8))
      met true e = rw e (known (arrival_answer (Tick.arrival_refusal board8 s k)) (answer-known _ _ _))
      met false e = rw e (inl (omega arith))

  sent-small : SmallStore (Tick.arrived board8 5 arriving area r) → Small (Tick.ticked board8 r arriving b area).reply.outgoing
  unfolding Tick.ticked Tick.grant_bytes packet
  sent-small h = ports-small _ (λ p. granted (Tick.grant board8 (Tick.served board8 p b (Tick.arrived board8 5 arriving area r).state) b p)) 5
    where
      granted : (g : Grant ℕ) → Small (Tick.grant_bytes (Tick.arrived board8 5 arriving area r).memory g)
      granted nobody = zeros-small 20
      granted best_effort = zeros-small 20
      granted (on_time i) = part_small 20 (20 * i) _ h.memory
      granted (early i) = part_small 20 (20 * i) _ h.memory

-- ---- a record

-- Taking the bytes r as record k prints lines, does what `Step` says, and leaves a lawful tape.
pub record Done (k : ℕ) (σ : Tape) (r : List ℕ) (t : Taken) : Type 0 where
  pub lines : List (List ℕ)
  pub cut : CutsTo (event_lines t.event) lines
  pub step : Step k (between σ) r lines (between t.tape)
  pub lawful : Lawful k t.tape

-- Five places, of which one is set.
five-set : {A : Type 0} (f g : ℕ → A) (p : ℕ) (v : A) → p < 5 → ((j : ℕ) → j < 5 → f j ≡ cond (eqb p j) v (g j)) → f 0 ∷ f 1 ∷ f 2 ∷ f 3 ∷ f 4 ∷ [] ≡ set (g 0 ∷ g 1 ∷ g 2 ∷ g 3 ∷ g 4 ∷ []) p v
five-set f g p v l h = rw (h 0 (omega arith), h 1 (omega arith), h 2 (omega arith), h 3 (omega arith), h 4 (omega arith)) (placed p l)
  where
    placed : (p : ℕ) → p < 5 → cond (eqb p 0) v (g 0) ∷ cond (eqb p 1) v (g 1) ∷ cond (eqb p 2) v (g 2) ∷ cond (eqb p 3) v (g 3) ∷ cond (eqb p 4) v (g 4) ∷ [] ≡ set (g 0 ∷ g 1 ∷ g 2 ∷ g 3 ∷ g 4 ∷ []) p v
    placed zero l = refl
    placed (suc zero) l = refl
    placed (suc (suc zero)) l = refl
    placed (suc (suc (suc zero))) l = refl
    placed (suc (suc (suc (suc zero)))) l = refl
    placed (suc (suc (suc (suc (suc p))))) l = absurd (omega arith)

-- What taking a whole record comes to, by its kind and the answers to its questions.
module _ (k : ℕ) (σ : Tape) (r : List ℕ) (whole : length r ≡ 24) where
  pub control-taken : byte r 0 ≡ 67 → (b : Bool) → blank_part r 3 24 ≡ b → take_record σ (suc k) r ≡ cond b (take_control σ (suc k) r) (record { tape = σ; event = refused (suc k) 11 })
  unfolding take_record record_refusal kind_refusal unused_refusal
  control-taken e true f = rw (whole, e, f)
  control-taken e false f = rw (whole, e, f)

  pub arrival-taken : byte r 0 ≡ 65 → (a b : Bool) → (blank_part r 2 4 && leb (byte r 1) 4) ≡ a → has σ.pending (byte r 1) ≡ b
      → take_record σ (suc k) r ≡ cond a (cond b (record { tape = σ; event = refused (suc k) 12 }) (take_arrival σ (suc k) r)) (record { tape = σ; event = refused (suc k) 11 })
  unfolding take_record record_refusal kind_refusal arrival_refusal
  arrival-taken e true true f g = rw (whole, e, f, g)
  arrival-taken e true false f g = rw (whole, e, f, g)
  arrival-taken e false b f g = rw (whole, e, f)

  pub tick-taken : byte r 0 ≡ 84 → (b : Bool) → blank_part r 2 24 ≡ b → take_record σ (suc k) r ≡ cond b (take_tick σ (suc k) r) (record { tape = σ; event = refused (suc k) 11 })
  unfolding take_record record_refusal kind_refusal unused_refusal
  tick-taken e true f = rw (whole, e, f)
  tick-taken e false f = rw (whole, e, f)

  pub other-taken : byte r 0 ≢ 67 → byte r 0 ≢ 65 → byte r 0 ≢ 84 → take_record σ (suc k) r ≡ record { tape = σ; event = refused (suc k) 10 }
  unfolding take_record record_refusal kind_refusal
  other-taken a b c = rw (whole, ne_eqb (byte r 0) 67 a, ne_eqb (byte r 0) 65 b, ne_eqb (byte r 0) 84 c)

module _ (k : ℕ) (σ : Tape) (r : List ℕ) (whole : length r ≡ 24) (bytes : Small r) (L : Lawful k σ) (few : suc k < 10 ^ 20) where
  -- ---- questions 10 to 12

  later : Lawful (suc k) σ
  later = record { store = L.store; pending = L.pending; whole = L.whole; arrivals = L.arrivals; five = L.five; records = λ p. omega (arith, L.records p) }

  refused-done : (n : ℕ) → n < 100 → Unfit (between σ) r n → Done (suc k) σ r (record { tape = σ; event = refused (suc k) n })
  unfolding event_lines
  refused-done n h u = record { lines = refused_text (suc k) n ∷ []; cut = cuts-refused (suc k) n; step = unfit n (refused_text (suc k) n) u (refused-reads (suc k) n few h) refl refl; lawful = later }

  -- ---- a control write

  written-done : IsControl r → Done (suc k) σ r (take_control σ (suc k) r)
  unfolding take_control control_write byte_step event_lines
  written-done c = go (eqb n 0) refl
    where
      n : ℕ
      n = control_refusal board8 σ.store (byte r 1) (byte r 2)

      o : Bool → Outcome Store
      o b = cond b (record { reply = record { number = 0; outgoing = []; answers = [] }; after = record { state = written board8 (byte r 1) (byte r 2) σ.store.state; memory = σ.store.memory } })
          (record { reply = record { number = n; outgoing = []; answers = [] }; after = σ.store })

      go : (b : Bool) → eqb n 0 ≡ b → Done (suc k) σ r (after_control σ (suc k) (o b))
      go true e = record {
        lines = [];
        cut = cuts-none;
        step = Said.written c (rw e (Said.accepted refl refl, refl));
        lawful = record {
          store = record { state = written_small (byte r 1) (byte r 2) σ.store.state (bytes 2) L.store.state; memory = L.store.memory };
          pending = L.pending;
          whole = L.whole;
          arrivals = L.arrivals;
          five = L.five;
          records = later.records;
        };
      }
      go false e =
          let l = refused_text (suc k) n in
          rw e
          (record {
            lines = l ∷ [];
            cut = cuts-refused (suc k) n;
            step = Said.written c (rw e (Said.refused (eqb-false n 0 e) l (refused-reads (suc k) n few (control-number σ.store (byte r 1) (byte r 2))) refl, refl));
            lawful = record { store = L.store; pending = L.pending; whole = L.whole; arrivals = L.arrivals; five = L.five; records = later.records };
          })

  control-done : byte r 0 ≡ 67 → Done (suc k) σ r (take_record σ (suc k) r)
  control-done e = go (blank_part r 3 24) refl
    where
      go : (b : Bool) → blank_part r 3 24 ≡ b → Done (suc k) σ r (take_record σ (suc k) r)
      go true f = subst (Done (suc k) σ r) (sym (control-taken k σ r whole e true f)) (written-done (record { kind = e; unused = blank-zeros r whole 21 3 refl f }))
      go false f = subst (Done (suc k) σ r) (sym (control-taken k σ r whole e false f)) (refused-done 11 (omega arith) (no_control refl e (λ c. true≢false (sym (zeros-blank r whole 21 3 refl c.unused) ∙ f))))

  -- ---- an arrival

  abbrev port : ℕ
  port = byte r 1

  -- What waits after it: on its port this packet, elsewhere what did.
  waits-then : IsArrival r → has σ.pending port ≡ false → (j : ℕ) → j < 5 → waiting (take_arrival σ (suc k) r).tape j ≡ cond (eqb port j) (some (suc k, drop 4 r)) (waiting σ j)
  unfolding take_arrival packet
  waits-then c f j l = rw (with-port σ.pending port j L.pending (let h = c.port in omega arith) l f).1 (go (eqb port j) refl)
    where
      go : (b : Bool) → eqb port j ≡ b
          → cond (b || has σ.pending j) (some (get_or (set σ.records port (suc k)) j 0, packet (sets σ.arrivals (20 * port) (drop 4 r)) j)) none ≡ cond b (some (suc k, drop 4 r)) (waiting σ j)
      go true e =
          let same : j ≡ port = sym (eqb-true port j e) in
          rw (same, get_or-set_same σ.records port (suc k) 0 (let h = c.port in let n = L.five in omega arith), part_same σ.arrivals (drop 4 r) (20 * port) 20 (length-drop 4 r ∙ omega arith) (let h = c.port in let n = L.whole in omega arith))
      go false e =
          let other = eqb-false port j e in
          rw (get_or-set_other σ.records port j (suc k) 0 (λ z. other (sym z)), packet-other σ.arrivals (drop 4 r) port j (λ z. other (sym z)) (length-drop 4 r ∙ omega arith))

  pub kept-between : IsArrival r → has σ.pending port ≡ false → between (take_arrival σ (suc k) r).tape ≡ record { store = σ.store; waits = set (between σ).waits port (some (suc k, drop 4 r)) }
  unfolding take_arrival
  kept-between c f =
      let h = c.port in
      ap (λ (w : List Waiting). record { store = σ.store; waits = w }) (five-set (waiting (take_arrival σ (suc k) r).tape) (waiting σ) port (some (suc k, drop 4 r)) (omega arith) (waits-then c f))

  kept-done : IsArrival r → has σ.pending port ≡ false → Done (suc k) σ r (take_arrival σ (suc k) r)
  unfolding take_arrival event_lines
  kept-done c f =
      let h = c.port in
      record {
        lines = [];
        cut = cuts-none;
        step = kept c (waits-on σ port (omega arith) ∙ rw f) refl (kept-between c f);
        lawful = record {
          store = L.store;
          pending = (with-port σ.pending port 0 L.pending (omega arith) (omega arith) f).0;
          whole = length-sets σ.arrivals (20 * port) (drop 4 r) ∙ L.whole;
          arrivals = sets-small (drop 4 r) σ.arrivals (20 * port) (λ j. rw (get_or-drop 4 r j 0) (bytes (4 + j))) L.arrivals;
          five = length-set σ.records port (suc k) ∙ L.five;
          records = λ p. set-at-most σ.records port (suc k) p (later.records p);
        };
      }
    where
      set-at-most : (l : List ℕ) (i v p : ℕ) → get_or l p 0 ≤ v → get_or (set l i v) p 0 ≤ v
      set-at-most [] i v p h = h
      set-at-most (x ∷ l) zero v zero h = omega arith
      set-at-most (x ∷ l) zero v (suc p) h = h
      set-at-most (x ∷ l) (suc i) v zero h = h
      set-at-most (x ∷ l) (suc i) v (suc p) h = set-at-most l i v p h

  arrival-done : byte r 0 ≡ 65 → Done (suc k) σ r (take_record σ (suc k) r)
  arrival-done e = go (blank_part r 2 4 && leb (byte r 1) 4) (has σ.pending (byte r 1)) refl refl
    where
      go : (a b : Bool) → (blank_part r 2 4 && leb (byte r 1) 4) ≡ a → has σ.pending (byte r 1) ≡ b → Done (suc k) σ r (take_record σ (suc k) r)
      go true true f g =
          let c = arrival-fit r whole e f in
          let some-packet : waits_on (between σ) port ≡ some (get_or σ.records port 0, packet σ.arrivals port) = waits-on σ port (let h = c.port in omega arith) ∙ rw g in
          subst (Done (suc k) σ r) (sym (arrival-taken k σ r whole e true true f g)) (refused-done 12 (omega arith) (occupied refl c (λ z. none-some (sym z ∙ some-packet))))
      go true false f g = subst (Done (suc k) σ r) (sym (arrival-taken k σ r whole e true false f g)) (kept-done (arrival-fit r whole e f) g)
      go false b f g = subst (Done (suc k) σ r) (sym (arrival-taken k σ r whole e false b f g)) (refused-done 11 (omega arith) (no_arrival refl e (λ c. true≢false (sym (fit-passes r whole c) ∙ f))))

  -- ---- a tick

  abbrev zeros : ℕ → List ℕ
  zeros n = replicate n 0

  abbrev call : TickCall
  call = record { arriving = σ.pending; best_effort = byte r 1; arrivals = σ.arrivals; times = λ p. pos 0 }

  pub brings : Brings (between σ) (byte r 1) call
  brings = record {
    when_best_effort = refl;
    ports = L.pending;
    whole = L.whole;
    none_else = waits-none σ;
    arrival = λ p h n x e. let (t, y) = waits-some σ p h (n, x) e in (t, λ j l. sym (packet-byte σ.arrivals p j l) ∙ ap (λ (z : ℕ × List ℕ). byte z.1 j) y);
  }

  -- The refusals of the arrivals that an accepted tick took, port by port.
  refusals-said : (ans : List ℕ) → ((p : ℕ) → p < 5 → (byte ans (5 + p) < 6) ⊎ ((has σ.pending p ≡ true) × (6 ≤ byte ans (5 + p)) × (byte ans (5 + p) ≤ 8)))
      → (p : ℕ) → p ≤ 5 → (ls : List (List ℕ)) × CutsTo (ports_below (refused_arrival σ.records ans) p) ls × Refusals (between σ) ans p ls
  unfolding ports_below refused_arrival
  refusals-said ans known zero l = ([], cuts-none, no_port)
  refusals-said ans known (suc p) l = go (known p (omega arith)) (refusals-said ans known p (omega arith))
    where
      a : ℕ
      a = byte ans (5 + p)

      before : List ℕ
      before = ports_below (refused_arrival σ.records ans) p

      n : ℕ
      n = get_or σ.records p 0

      go : (a < 6) ⊎ ((has σ.pending p ≡ true) × (6 ≤ a) × (a ≤ 8)) → (ls : List (List ℕ)) × CutsTo before ls × Refusals (between σ) ans p ls
          → (ls : List (List ℕ)) × CutsTo (before ++ cond (leb 6 a) (refused_line n a) []) ls × Refusals (between σ) ans (suc p) ls
      go (inl h) (ls, c, s) = (ls, rw (lt-leb 6 a h, append-nil before) c, taken h s)
      go (inr (t, h, m)) (ls, c, s) =
          let here : waits_on (between σ) p ≡ some (n, packet σ.arrivals p) = waits-on σ p (omega arith) ∙ rw t in (
            ls ++ (refused_text n a ∷ []),
            rw (le-leb 6 a h) (cuts-then before (refused_line n a) ls (refused_text n a ∷ []) c (cuts-refused n a)),
            Said.refused n (packet σ.arrivals p) (refused_text n a) here (h, m) (refused-reads n a (omega (arith, L.records p)) (omega arith)) s,
          )

  abbrev accepted-outcome : Outcome Store
  accepted-outcome = Tick.ticked board8 σ.store σ.pending (byte r 1) σ.arrivals

  -- An accepted one: its number is 0.
  number-0 : accepted-outcome.reply.number ≡ 0
  unfolding Tick.ticked
  number-0 = refl

  accepted-done : IsTick r → tick_refusal board8 σ.store σ.pending (byte r 1) σ.arrivals (zeros 100) (zeros 20) ≡ 0 → Done (suc k) σ r (after_tick σ (suc k) accepted-outcome)
  unfolding event_lines ticked_lines byte_step tick_entry has
  accepted-done c e =
      let s = σ.store in
      let out = accepted-outcome.reply.outgoing in
      let ans = accepted-outcome.reply.answers in
      let t = board8.get s.state clock in
      let clock-at : t ≡ byte s.state 0 = (layout.settings s.state 0).0 in
      let sends = sent-small s σ.pending (byte r 1) σ.arrivals (arrived-small 5 σ.pending σ.arrivals s L.store L.arrivals) in
      let (ls, cut, said) = refusals-said ans (arrival-known s σ.pending (byte r 1) σ.arrivals) 5 (omega arith) in
      let line = tick_text t out ans in
      let reads = tick-reads t out ans (omega (arith, L.store.state 0 (λ z. omega arith) (λ z. omega arith))) (λ p h. (codes-known s σ.pending (byte r 1) σ.arrivals p h, sends (20 * p))) (omega (arith, tick-at-most-1280 board8 s σ.pending (byte r 1) σ.arrivals)) in
      rw number-0
      (record {
        lines = ls ++ (line ∷ []);
        cut = cuts-then (per_port (refused_arrival σ.records ans)) (tick_line t out ans) ls (line ∷ []) cut (cuts-tick t out ans);
        step = Said.ticked c call (zeros 100) (zeros 20) brings refl refl ls line (rw e (number-0, said, subst (λ (n : ℕ). TickLine n out ans line) clock-at reads, refl)) refl;
        lawful = record { store = ticked-small s σ.pending (byte r 1) σ.arrivals L.store L.arrivals; pending = omega arith; whole = L.whole; arrivals = L.arrivals; five = L.five; records = later.records };
      })

  -- A refused one.
  refused-outcome : ℕ → Outcome Store
  refused-outcome n = record { reply = record { number = n; outgoing = zeros 100; answers = zeros 20 }; after = σ.store }

  turned-away-done : IsTick r → (n : ℕ) → tick_refusal board8 σ.store σ.pending (byte r 1) σ.arrivals (zeros 100) (zeros 20) ≡ n → n ≢ 0 → n < 100 → Done (suc k) σ r (after_tick σ (suc k) (refused-outcome n))
  unfolding event_lines byte_step tick_entry refused-outcome
  turned-away-done c n e other small =
      let l = refused_text (suc k) n in
      rw (ne_eqb n 0 other)
      (record {
        lines = l ∷ [];
        cut = cuts-refused (suc k) n;
        step = turned_away c call (zeros 100) (zeros 20) brings refl refl l (rw (e, ne_eqb n 0 other) (other, refused-reads (suc k) n few small, refl)) refl;
        lawful = later;
      })

  ticked-done : IsTick r → Done (suc k) σ r (take_tick σ (suc k) r)
  unfolding take_tick tick_entry refused-outcome
  ticked-done c = go (eqb n 0) refl
    where
      n : ℕ
      n = tick_refusal board8 σ.store σ.pending (byte r 1) σ.arrivals (zeros 100) (zeros 20)

      go : (b : Bool) → eqb n 0 ≡ b → Done (suc k) σ r (after_tick σ (suc k) (cond b accepted-outcome (refused-outcome n)))
      go true e = accepted-done c (eqb-true n 0 e)
      go false e = turned-away-done c n refl (eqb-false n 0 e) (tick-number σ.store σ.pending (byte r 1) σ.arrivals (zeros 100) (zeros 20))

  tick-done : byte r 0 ≡ 84 → Done (suc k) σ r (take_record σ (suc k) r)
  tick-done e = go (blank_part r 2 24) refl
    where
      go : (b : Bool) → blank_part r 2 24 ≡ b → Done (suc k) σ r (take_record σ (suc k) r)
      go true f = subst (Done (suc k) σ r) (sym (tick-taken k σ r whole e true f)) (ticked-done (record { kind = e; unused = blank-zeros r whole 22 2 refl f }))
      go false f = subst (Done (suc k) σ r) (sym (tick-taken k σ r whole e false f)) (refused-done 11 (omega arith) (no_tick refl e (λ c. true≢false (sym (zeros-blank r whole 22 2 refl c.unused) ∙ f))))

  -- ---- by its kind

  pub record-done : Done (suc k) σ r (take_record σ (suc k) r)
  record-done = go (eqb (byte r 0) 67) (eqb (byte r 0) 65) (eqb (byte r 0) 84) refl refl refl
    where
      go : (a b c : Bool) → eqb (byte r 0) 67 ≡ a → eqb (byte r 0) 65 ≡ b → eqb (byte r 0) 84 ≡ c → Done (suc k) σ r (take_record σ (suc k) r)
      go true b c e f g = control-done (eqb-true (byte r 0) 67 e)
      go false true c e f g = arrival-done (eqb-true (byte r 0) 65 f)
      go false false true e f g = tick-done (eqb-true (byte r 0) 84 g)
      go false false false e f g =
          let a = eqb-false (byte r 0) 67 e in
          let b = eqb-false (byte r 0) 65 f in
          let c = eqb-false (byte r 0) 84 g in
          subst (Done (suc k) σ r) (sym (other-taken k σ r whole a b c)) (refused-done 10 (omega arith) (no_kind refl a b c))
