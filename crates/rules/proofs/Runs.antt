-- Runs of good routers, the induction of every claim about a list of calls: calls that leave clock and places, and ticks. Assumes nothing.
use Prim.Native.Nat.{ℕ, zero, suc, ◌+◌, ◌*◌, ◌<◌, ◌≤◌}
use mathlib.Core.Path.{◌≡◌, sym, ap, subst, ◌∙◌}
use mathlib.Core.Bool.{Bool, true, false, cond, ◌&&◌}
use mathlib.Core.Logic.{◌⊎◌, inl, inr}
use mathlib.Core.List.Memᴰ
use mathlib.Core.List.{List, [], ◌∷◌, ◌++◌, Memᴰ}
use native.Mathlib.Omega.{arith}
use lib.ListN.{length, drop}
use lib.Seq.{get_or-take, get_or-drop}
use lib.Dec.{T, eqb}
use lib.IntN.{ℤ, pos, suc_ℤ, ◌+ℤ◌, +ℤ-suc_ℤ, suc_ℤ-+ℤ, +ℤ_idr}
use lib.Signed.{le_z}
use borrow.Author.Tests.{eq-eqb, eqb-true, leb-true, ltb-true}
use Rattle.rules.specs.Account.{NotedTick}
use Rattle.rules.specs.Areas.{Bytes, half, packet, has, fits, areas_full, tick_questions}
use Rattle.rules.specs.Calls.{tick, refusal}
use Rattle.rules.specs.Given.{number_due, AsWritten, is_tick, ByteCall, TrueTimes}
use Rattle.rules.specs.Whole.{Router, TickCall, put, written, ticked, grant_bytes, answer_bytes}
use Rattle.rules.proofs.Booleans.{asked-passed, and_left, cons-first, cons-rest, nil-cons}
use Rattle.rules.proofs.Integers.{orders, suc-nat, later-differs}
use Rattle.rules.proofs.ByteLaws.{stamp-number}
use Rattle.rules.proofs.GivenLaws.{number-due}
use Rattle.rules.proofs.Good.{Good, EntryInRange, SettingsInRange, Input, ended-frame, tick-good}

-- ---- a control write keeps the router good

-- What holds of both arms holds of the one taken.
both-arms : {A : Type 0} {x y : A} (t : Bool) (P : A → Type 0) → P x → P y → P (cond t x y)
both-arms true P hx hy = hx
both-arms false P hx hy = hy

-- Register by register, only what it writes changes.
written-range : (c : ℕ) (w : Router) → SettingsInRange c w → (register v : ℕ) → register ≤ 5 → fits c register v ≡ true → SettingsInRange c (written register v w)
unfolding written put fits
written-range c w S zero v l f = record { entry = S.entry; horizon = S.horizon; latch = record { delay = S.latch.delay; mask = S.latch.mask }; ports = S.ports }
written-range c w S (suc zero) v l f = record { entry = S.entry; horizon = S.horizon; latch = record { delay = ltb-true v (half c) f; mask = S.latch.mask }; ports = S.ports }
written-range c w S (suc (suc zero)) v l f = record { entry = S.entry; horizon = S.horizon; latch = record { delay = S.latch.delay; mask = leb-true v 31 f }; ports = S.ports }
written-range c w S (suc (suc (suc zero))) v l f = record { entry = λ i m. both-arms (eqb v i) (EntryInRange c) S.latch (S.entry i m); horizon = S.horizon; latch = S.latch; ports = S.ports }
written-range c w S (suc (suc (suc (suc zero)))) v l f = record { entry = S.entry; horizon = S.horizon; latch = S.latch; ports = leb-true v 31 f }
written-range c w S (suc (suc (suc (suc (suc zero))))) v l f = record { entry = S.entry; horizon = λ p m. both-arms (has (w.latch 3) p) (λ n. n < half c) (ltb-true v (half c) f) (S.horizon p m); latch = S.latch; ports = S.ports }
written-range c w S (suc (suc (suc (suc (suc (suc n)))))) v l f = absurd (omega arith)

-- A control write that fits its register keeps every setting in range.
pub written-good : (c : ℕ) (w : Router) → Good c w → (register v : ℕ) → register ≤ 5 → fits c register v ≡ true → Good c (written register v w)
unfolding written
written-good c w G register v l f = record { settings = written-range c w G.settings register v l f; kept = G.kept; window = G.window; busy = G.busy }

-- ---- an accepted tick's input

-- An accepted tick has a whole arrivals area.
pub whole-area : (c : ℕ) (w : Router) (k : TickCall) (out ans : List ℕ) → refusal c w (tick k out ans) ≡ 0 → length k.arrivals ≡ 100
unfolding refusal areas_full
whole-area c w k out ans e =
    let a = eqb (length k.arrivals) 100 in
    let b = eqb (length out) 100 in
    let d = eqb (length ans) 20 in
    eqb-true (length k.arrivals) 100 (and_left a b (and_left (a && b) d (asked-passed (a && b && d) 0 (tick_questions k.arriving k.best_effort) e).0))

-- From what is asked of the calls.
pub input_of : (c : ℕ) → c < 20 → (w : Router) (k : TickCall) (out ans : List ℕ) → ByteCall c (tick k out ans) → TrueTimes c w.clock (tick k out ans) → refusal c w (tick k out ans) ≡ 0 → Input c w.clock k
unfolding ByteCall TrueTimes is_tick Bytes packet
input_of c few w k out ans (ha, hb, bytes, ho, hn) times e =
    let whole = whole-area c w k out ans e in
    let true-time = times (eq-eqb (number_due c (tick k out ans)) 0 (sym (number-due c w (tick k out ans)) ∙ e)) in
    record {
      whole = whole;
      identifier = λ p l. subst (λ (n : ℕ). n < 256) (sym (get_or-take 20 (drop (20 * p) k.arrivals) 0 0 (omega arith) ∙ get_or-drop (20 * p) k.arrivals 0 0)) (bytes (20 * p + 0) (omega arith));
      soon = λ p l h. (true-time p l h).to.lt;
      from = λ p l h. (true-time p l h).from.le;
      header = λ p l h. stamp-number c k.arrivals p few (omega arith) ∙ (true-time p l h).header;
    }

-- ---- runs

module _ (c : ℕ) where
  -- The router after the tick that d notes.
  abbrev pub next : NotedTick → Router
  next d = (ticked c d.met d.call).router

  -- d notes a tick of a good router, whose settings are what was written; the outgoing area holds what each port was granted, and the answers are those of its report.
  pub record Ticking (d : NotedTick) : Type 0 where
    pub good : Good c d.met
    pub settings : AsWritten c d.past d.met
    pub input : Input c d.met.clock d.call
    pub report : d.report ≡ (ticked c d.met d.call).report
    pub sends : (p : ℕ) → p < 5 → packet d.outgoing p ≡ grant_bytes c (d.report.grant p)
    pub answers : d.answers ≡ answer_bytes d.report

  -- A tick keeps the router good.
  pub next-good : {d : NotedTick} → Ticking d → Good c (next d)
  unfolding ticked
  next-good {d} t = tick-good c d.met d.call t.good t.input

  -- A run of ticks h from the router r to w; a quiet call leaves clock, places and free list.
  pub data Run : Router → List NotedTick → Router → Type 0 where
    rest : {r : Router} → Good c r → Run r [] r
    quiet : {r r' w : Router} {h : List NotedTick} → r'.clock ≡ r.clock → r'.place ≡ r.place → r'.free ≡ r.free → Run r' h w → Run r h w
    ticks : {w : Router} {h : List NotedTick} (d : NotedTick) → Ticking d → Run (next d) h w → Run d.met (d ∷ h) w

  -- ---- the clock of a run, and the run at each of its ticks

  -- A tick moves the clock by one.
  pub tick-clock : (d : NotedTick) → (next d).clock ≡ suc_ℤ d.met.clock
  unfolding ticked
  tick-clock d = ap (λ s. suc_ℤ s.clock) (ended-frame c d.met d.call)

  -- By induction over the run, one more with each tick.
  pub run-ticks : {r w : Router} {h : List NotedTick} → Run r h w → w.clock ≡ r.clock +ℤ pos (length h)
  run-ticks (rest {r = r} G) = sym (+ℤ_idr r.clock)
  run-ticks (quiet {h = h} ec ep ef R) = run-ticks R ∙ ap (λ (z : ℤ). z +ℤ pos (length h)) ec
  run-ticks (ticks {h = h} d t R) = run-ticks R ∙ ap (λ (z : ℤ). z +ℤ pos (length h)) (tick-clock d) ∙ suc_ℤ-+ℤ d.met.clock (pos (length h)) ∙ sym (+ℤ-suc_ℤ d.met.clock (pos (length h)))

  -- By induction over the run.
  run-clock : {r w : Router} {h : List NotedTick} → Run r h w → T (le_z r.clock w.clock)
  run-clock (rest {r = r} G) = omega (arith, orders)
  run-clock {w = w} (quiet ec ep ef R) = subst (λ (z : ℤ). T (le_z z w.clock)) ec (run-clock R)
  run-clock {w = w} (ticks d t R) = let k = subst (λ (z : ℤ). T (le_z z w.clock)) (tick-clock d) (run-clock R) in omega (arith, orders, suc-nat d.met.clock)

  -- A run up to a tick, and after it.
  pub split : {r w : Router} {h : List NotedTick} → Run r h w → (before later : List NotedTick) (d : NotedTick) → h ≡ before ++ (d ∷ later) → Ticking d × Run r before d.met × Run (next d) later w
  split (rest G) [] later d e = nil-cons e
  split (rest G) (b ∷ bs) later d e = nil-cons e
  split (quiet ec ep ef R) before later d e = let (t, S, U) = split R before later d e in (t, quiet ec ep ef S, U)
  split {w = w} (ticks d₀ t R) [] later d e =
      subst (λ (d : NotedTick). Ticking d × Run d₀.met [] d.met × Run (next d) later w) (cons-first e) (t, rest t.good, subst (λ (l : List NotedTick). Run (next d₀) l w) (cons-rest e) R)
  split (ticks d₀ t R) (b ∷ bs) later d e =
      let (u, S, U) = split R bs later d (cons-rest e) in
      (u, subst (λ (f : NotedTick). Run d₀.met (f ∷ bs) d.met) (cons-first e) (ticks d₀ t S), U)

  -- By induction over the list.
  mem-split : {d : NotedTick} {h : List NotedTick} → Memᴰ d h → (before : List NotedTick) × (later : List NotedTick) × (h ≡ before ++ (d ∷ later))
  mem-split (Memᴰ.head {xs = xs} e) = ([], xs, ap (λ (d : NotedTick). d ∷ xs) (sym e))
  mem-split (Memᴰ.tail {x = x} m) = let (b, l, e) = mem-split m in (x ∷ b, l, ap (λ (h : List NotedTick). x ∷ h) e)

  -- The ticks before d are over at d, and those after it come later.
  pub record Moment (r : Router) (h : List NotedTick) (w : Router) (d : NotedTick) : Type 0 where
    pub before : List NotedTick
    pub later : List NotedTick
    pub parts : h ≡ before ++ (d ∷ later)
    pub tick : Ticking d
    pub past : Run r before d.met
    pub future : Run (next d) later w

  -- Each tick of a run has its moment.
  pub moment : {r w : Router} {h : List NotedTick} {d : NotedTick} → Run r h w → Memᴰ d h → Moment r h w d
  moment {d = d} R m =
      let (b, l, e) = mem-split m in
      let (t, S, U) = split R b l d e in
      record { before = b; later = l; parts = e; tick = t; past = S; future = U }

  -- A tick of a run is over at its end.
  pub over : {r w : Router} {h : List NotedTick} {d : NotedTick} → Run r h w → Memᴰ d h → T (le_z (suc_ℤ d.met.clock) w.clock)
  over {w = w} {d = d} R m = subst (λ (z : ℤ). T (le_z z w.clock)) (tick-clock d) (run-clock (moment R m).future)

  -- A tick of the run after d comes later than d.
  pub after-tick : (d : NotedTick) {e : NotedTick} {w : Router} {h : List NotedTick} → Run (next d) h w → Memᴰ e h → T (le_z (suc_ℤ d.met.clock) e.met.clock)
  after-tick d {e} R m = subst (λ (z : ℤ). T (le_z z e.met.clock)) (tick-clock d) (run-clock (moment R m).past)

  -- No two ticks of a run have one clock.
  pub same-tick : {r w : Router} {h : List NotedTick} {d e : NotedTick} → Run r h w → Memᴰ d h → Memᴰ e h → d.met.clock ≡ e.met.clock → d ≡ e
  same-tick {r} {w} {h} {d} {e} R m n q = find (Memᴰ.append_cases M.before (subst (Memᴰ e) M.parts n))
    where
      M : Moment r h w d
      M = moment R m

      here : (e ≡ d) ⊎ Memᴰ e M.later → d ≡ e
      here (inl k) = sym k
      here (inr k) = absurd (later-differs d.met.clock e.met.clock (after-tick d M.future k) q)

      find : Memᴰ e M.before ⊎ Memᴰ e (d ∷ M.later) → d ≡ e
      find (inl k) = absurd (later-differs e.met.clock d.met.clock (over M.past k) (sym q))
      find (inr k) = here (Memᴰ.cases_cons k)
