-- The outcome of a control write and of a tick, by cases of the number that their questions give: refused, or accepted. Assumes nothing.
use Prim.Native.Nat.{ℕ}
use mathlib.Core.Path.{◌≡◌}
use mathlib.Core.List.{List}
use mathlib.Core.Logic.{◌≢◌}
use borrow.Author.Tests.{ne_eqb}
use Rattle.rules.specs.Areas.{Store, number_reply, Outcome}
use Rattle.rules.specs.Board.{board8}
use Rattle.rules.specs.Questions.{written, control_refusal, control_write, tick_refusal, tick}
use Rattle.rules.specs.Tick.{ticked}

-- ---- a control write

module _ (r : Store) (register v n : ℕ) (e : n ≡ control_refusal board8 r register v) where
  pub control-refused : n ≢ 0 → ◌≡◌ {A = Outcome Store} (record { reply = number_reply n; after = r }) (control_write board8 r register v)
  unfolding control_write
  control-refused h = rw (← e, ne_eqb n 0 h)

  pub control-accepted : n ≡ 0 → (s : List ℕ) → s ≡ written board8 register v r.state → ◌≡◌ {A = Outcome Store} (record { reply = number_reply n; after = record { state = s; memory = r.memory } }) (control_write board8 r register v)
  unfolding control_write
  control-accepted h s q = rw (← e, q, h)

-- ---- a tick

module _ (r : Store) (arriving waiting : ℕ) (area out ans : List ℕ) (n : ℕ) (e : n ≡ tick_refusal board8 r arriving waiting area out ans) where
  pub tick-refused : n ≢ 0 → ◌≡◌ {A = Outcome Store} (record { reply = record { number = n; outgoing = out; answers = ans }; after = r }) (tick board8 r arriving waiting area out ans)
  unfolding tick
  tick-refused h = rw (← e, ne_eqb n 0 h)

  pub tick-accepted : n ≡ 0 → (out' ans' : List ℕ) (r' : Store) → ◌≡◌ {A = Outcome Store} (record { reply = record { number = 0; outgoing = out'; answers = ans' }; after = r' }) (ticked board8 r arriving waiting area)
      → ◌≡◌ {A = Outcome Store} (record { reply = record { number = n; outgoing = out'; answers = ans' }; after = r' }) (tick board8 r arriving waiting area out ans)
  unfolding tick
  tick-accepted h out' ans' r' q = rw (← e, h) q
