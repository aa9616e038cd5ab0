-- A tick after a proper list of calls from a fresh router: the relation of the two routers before it, once its arrivals are stored, and after it. Assumes nothing.
use Prim.Native.Nat.{ℕ, ◌<◌}
use mathlib.Core.Path.{◌≡◌, sym, subst, subst₂}
use mathlib.Core.List.{List, [], ◌∷◌, ◌++◌}
use native.Mathlib.Omega.{arith}
use native.Mathlib.Nat.{le_refl}
use lib.ListN.{length, length-replicate}
use lib.IntN.{ℤ, pos}
use lib.Seq.{take-length}
use Rattle.rules.specs.Areas as A
use Rattle.rules.specs.Areas.{Store, Outcome, number_reply}
use Rattle.rules.specs.Board.{board8}
use Rattle.rules.specs.Questions.{fresh}
use Rattle.rules.specs.Tick as Bytes
use Rattle.rules.specs.Whole.{Router, TickCall, start}
use Rattle.rules.specs.Calls.{Call, tick, refusal, whole_step, after_all}
use Rattle.rules.specs.Given.{ByteCall, TrueTimes, Proper}
use Rattle.rules.specs.Demand3.{byte_step, our_bytes, our_whole, AfterCalls, Holds}
use Rattle.rules.proofs.Theorem.{demand3}
use Rattle.rules.proofs.Board8Laws.{lawful8}
use Rattle.rules.proofs.Relation.{Rel}
use Rattle.rules.proofs.Good.{after}
use Rattle.rules.proofs.Runs.{input_of}
use Rattle.rules.proofs.RefineArrivals.{arrived-rel}
use Rattle.rules.proofs.Agreement.{start-good, fresh-rel, fresh-made, Agree, agree, Agreed, agreed}
use Rattle.rules.proofs.GivenLaws.{step-clock}

-- ---- a list of calls

module _ (t : ℕ) (h : t < 256) (ks : List Call) (P : Proper 1 (pos t) ks) where
  -- Demand 3 after the whole list.
  pub after-calls : AfterCalls board8 (our_bytes board8) (our_whole board8) (record { reply = number_reply 0; after = fresh board8 t }) t ks
  unfolding Holds fresh A.bits
  after-calls =
      let r = fresh board8 t in
      let s = lawful8.length-fresh t in
      let m = length-replicate {A = ℕ} 5120 0 in
      subst₂ (λ (o : Outcome Store) (ks : List Call). AfterCalls board8 (our_bytes board8) (our_whole board8) o t ks) (fresh-made board8 lawful8 r s m t) (take-length ks) (demand3.holds r s m t h ks P (length ks) (le_refl (length ks)))

  -- And what it comes from: both routers are related, and what was noted makes a run.
  pub agreed-after : Agreed board8 lawful8 (fresh board8 t) (start t) ks
  unfolding A.bits start
  agreed-after = agreed board8 lawful8 ks (fresh-rel board8 lawful8 t h) (start-good 1 t) P

-- A list and one more call.
proper-then : (ks : List Call) (w : Router) (k : Call) → Proper 1 w.clock (ks ++ (k ∷ [])) → Proper 1 w.clock ks × ByteCall 1 k × TrueTimes 1 (after_all (whole_step 1) w ks).clock k
unfolding Proper after_all
proper-then [] w k P = (tt, P.0, P.1)
proper-then (j ∷ ks) w k P =
    let e = step-clock 1 w j in
    let (Q, b, t) = proper-then ks (whole_step 1 w j).after k (subst (λ (T : ℤ). Proper 1 T (ks ++ (k ∷ []))) (sym e) P.2) in
    ((P.0, P.1, subst (λ (T : ℤ). Proper 1 T ks) e Q), b, t)

-- ---- a tick after the list

module _ (t : ℕ) (h : t < 256) (ks : List Call) (k : TickCall) (out ans : List ℕ) (P : Proper 1 (pos t) (ks ++ (tick k out ans ∷ []))) where
  abbrev r : Store
  r = after_all (byte_step board8) (fresh board8 t) ks

  abbrev w : Router
  w = after_all (whole_step 1) (start t) ks

  -- Before it.
  pub met : Agreed board8 lawful8 (fresh board8 t) (start t) ks
  unfolding start
  met = agreed-after t h ks (proper-then ks (start t) (tick k out ans) P).0

  -- After it, with its reply.
  pub ended : Agree board8 lawful8 w (tick k out ans) (byte_step board8 r (tick k out ans)) (whole_step 1 w (tick k out ans))
  unfolding start
  ended = let (Q, b, u) = proper-then ks (start t) (tick k out ans) P in agree board8 lawful8 met.rel met.good (tick k out ans) b u

  -- Once the arrivals of an accepted one are stored.
  pub arrived-related : refusal 1 w (tick k out ans) ≡ 0 → Rel board8 lawful8 (Bytes.arrived board8 5 k.arriving k.arrivals r) (after 1 w k 5)
  unfolding start
  arrived-related e = let (Q, b, u) = proper-then ks (start t) (tick k out ans) P in arrived-rel board8 lawful8 met.rel met.good k (input_of 1 (omega arith) w k out ans b u e) 5 (omega arith)
