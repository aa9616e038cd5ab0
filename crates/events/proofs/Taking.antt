-- A tick whatever its outgoing and answers areas held, since only their lengths are looked at; the beginning. Assumes nothing.
use Prim.Native.Nat.{ℕ}
use mathlib.Core.Path.{◌≡◌, refl, ap}
use mathlib.Core.Bool.{Bool, true, false, cond}
use mathlib.Core.List.{List}
use lib.ListN.{length, replicate}
use lib.Dec.{eqb}
use Rattle.rules.specs.Areas.{Store, number_reply, memory_length, outgoing_length, answers_length, byte, areas_full, Outcome}
use Rattle.rules.specs.Board.{board8}
use Rattle.rules.specs.Tick as Tick
use Rattle.rules.specs.Questions.{full, fresh, make_fresh, tick, tick_refusal}
use Rattle.events.specs.Tape.{Tape, after_tick, take_tick}

-- A tick's number, and so what the tape makes of its outcome, doesn't depend on what outgoing and answers hold.
module _ (σ : Tape) (k : ℕ) (r out ans : List ℕ) (lo : length out ≡ outgoing_length) (la : length ans ≡ answers_length) where
  abbrev number : ℕ
  number = tick_refusal board8 σ.store σ.pending (byte r 1) σ.arrivals (replicate outgoing_length 0) (replicate answers_length 0)

  abbrev outcome : Bool → List ℕ → List ℕ → Outcome Store
  outcome accepted o a = cond accepted (Tick.ticked board8 σ.store σ.pending (byte r 1) σ.arrivals) (record { reply = record { number = number; outgoing = o; answers = a }; after = σ.store })

  number_same : tick_refusal board8 σ.store σ.pending (byte r 1) σ.arrivals out ans ≡ number
  unfolding tick_refusal areas_full
  number_same = rw (lo, la)

  pub tick-same : after_tick σ k (tick board8 σ.store σ.pending (byte r 1) σ.arrivals out ans) ≡ take_tick σ k r
  unfolding take_tick tick
  tick-same = rw number_same (cases (eqb number 0) refl)
    where
      cases : (b : Bool) → eqb number 0 ≡ b → after_tick σ k (outcome b out ans) ≡ after_tick σ k (outcome b (replicate outgoing_length 0) (replicate answers_length 0))
      cases true e = refl
      cases false e = rw e

-- Where the areas have the router's lengths its fresh store is the tape's, and the call is accepted.
pub start-fresh : (s t : Store) (n : ℕ) → length s.state ≡ board8.state_length → length s.memory ≡ memory_length
    → ◌≡◌ {A = Outcome Store} (record { reply = number_reply n; after = t }) (make_fresh board8 s 0)
    → (n ≡ 0) × (t ≡ fresh board8 0)
unfolding make_fresh full
start-fresh s t n hs hm e =
    let f = rw (hs, hm) at e in
    (ap (λ (o : Outcome Store). o.reply.number) f, ap (λ (o : Outcome Store). o.after) f)
