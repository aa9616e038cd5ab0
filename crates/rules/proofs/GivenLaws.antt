-- Our router that never turns over, from the calls alone: each call's number, its clock, and that the settings are what was written, which each call keeps and so every list of calls. Assumes nothing.
use Prim.Native.Nat.{ℕ, zero, suc, ◌+◌, ◌*◌}
use mathlib.Core.Path.{◌≡◌, refl, sym, ap, ap₂, subst, ◌∙◌}
use mathlib.Core.Bool.{Bool, true, false, cond, true≢false, ◌&&◌}
use mathlib.Core.List.{List, [], ◌∷◌, map, reverse, reverse_aux}
use native.Mathlib.Decide.{ℕ_discrete}
use native.Mathlib.Omega.{arith}
use lib.Dec.{leb, ltb, eqb}
use lib.IntN.{pos, suc_ℤ, ◌+ℤ◌}
use borrow.Author.Tests.{eq-eqb, ne_eqb, eqb-true, ltb-true, lt-ltb, leb-true, le-leb, lt-leb}
use Rattle.rules.specs.Areas.{bits, half, has, Reply, areas_full, asked, fits}
use Rattle.rules.specs.Clock.{cut}
use Rattle.rules.specs.Order.{all, counted}
use Rattle.rules.specs.Calls.{Call, control, tick, after_all, replies, refusal, accept, refuse, whole_step}
use Rattle.rules.specs.Given.{Words, limit, number_due, writes, value, last_written, last_entry, last_horizon, AsWritten, is_tick, clock_after}
use Rattle.rules.specs.Whole.{Router, TickCall, put, start, written, advanced, ticked}
use Rattle.rules.proofs.Booleans.{true→T, T→true, same_test}
use Rattle.rules.proofs.ClockLaws.{cut-view}
use Rattle.rules.proofs.IndexLaws.{all-at}
use Rattle.rules.proofs.Integers.{nat_eq, add-nat}
use Rattle.rules.proofs.Good.{ended-frame}

-- ---- the words that the claims share with the routers

-- A computed test over the masks, and the view of a cut.
pub words : Words
unfolding bits half all has counted
words = record {
  ports = λ m l. eqb-true _ _ (all-at (λ m. eqb (sum m) m) 32 m test l);
  remainder = λ z. let (k, q, e, l) = cut-view 8 z in (l, k, q, nat_eq (z +ℤ pos (256 * q)) (pos (cut 8 z + 256 * k)) (omega (arith, add-nat z (pos (256 * q)))));
  turn = (refl, refl);
}
  where
    sum : ℕ → ℕ
    sum m = counted (has m 0) + 2 * counted (has m 1) + 4 * counted (has m 2) + 8 * counted (has m 3) + 16 * counted (has m 4)

    test : all 32 (λ m. eqb (sum m) m) ≡ true
    test = refl

-- ---- our router

module _ (c : ℕ) where
  -- A mask of at most 31 is below 32.
  mask_below : (v : ℕ) → leb v 31 ≡ ltb v 32
  mask_below v = same_test (leb v 31) (ltb v 32) (λ t. true→T (ltb v 32) (lt-ltb v 32 (let l = leb-true v 31 (T→true (leb v 31) t) in omega arith))) (λ t. true→T (leb v 31) (le-leb v 31 (let l = ltb-true v 32 (T→true (ltb v 32) t) in omega arith)))

  fits-asked : (a : Bool) → asked ((true, 4) ∷ (a, 5) ∷ []) ≡ cond a 0 5
  unfolding asked
  fits-asked true = refl
  fits-asked false = refl

  full-asked : (a b : Bool) → asked ((a, 1) ∷ (b, 3) ∷ []) ≡ cond a (cond b 0 3) 1
  unfolding asked
  full-asked true true = refl
  full-asked true false = refl
  full-asked false b = refl

  -- The questions of a call, register by register.
  pub number-due : (w : Router) (k : Call) → refusal c w k ≡ number_due c k
  unfolding refusal number_due limit fits areas_full asked
  number-due w (control zero v) = fits-asked (ltb v 256)
  number-due w (control (suc zero) v) = fits-asked (ltb v (half c))
  number-due w (control (suc (suc zero)) v) = rw (mask_below v) (fits-asked (ltb v 32))
  number-due w (control (suc (suc (suc zero))) v) = fits-asked (ltb v 256)
  number-due w (control (suc (suc (suc (suc zero)))) v) = rw (mask_below v) (fits-asked (ltb v 32))
  number-due w (control (suc (suc (suc (suc (suc zero))))) v) = fits-asked (ltb v (half c))
  number-due w (control (suc (suc (suc (suc (suc (suc n)))))) v) = rw (lt-leb (suc (suc (suc (suc (suc (suc n)))))) 5 (omega arith), lt-ltb 5 (suc (suc (suc (suc (suc (suc n)))))) (omega arith))
  number-due w (tick k out ans) = rw (mask_below k.arriving, mask_below k.best_effort) (full-asked (areas_full k.arrivals out ans) (ltb k.arriving 32 && ltb k.best_effort 32))

  -- There is no register above 5.
  no_register : (n v : ℕ) → eqb (number_due c (control (suc (suc (suc (suc (suc (suc n)))))) v)) 0 ≡ false
  unfolding number_due
  no_register n v = rw (lt-ltb 5 (suc (suc (suc (suc (suc (suc n)))))) (omega arith))

  -- A call gets the number of its refusal.
  pub step-number : (w : Router) (k : Call) → (whole_step c w k).reply.number ≡ refusal c w k
  unfolding whole_step accept refuse
  step-number w k = go k (refusal c w k) (ℕ_discrete (refusal c w k) 0)
    where
      go : (k : Call) (n : ℕ) → Dec (n ≡ 0) → (cond (eqb n 0) (accept c w k) (refuse c w k n)).reply.number ≡ n
      go (control register v) n (yes z) = rw (eq-eqb n 0 z) (sym z)
      go (control register v) n (no z) = rw (ne_eqb n 0 z)
      go (tick k out ans) n (yes z) = rw (eq-eqb n 0 z) (sym z)
      go (tick k out ans) n (no z) = rw (ne_eqb n 0 z)

  -- The clock rises by 1 in an accepted tick.
  pub step-clock : (w : Router) (k : Call) → (whole_step c w k).after.clock ≡ clock_after c w.clock k
  unfolding whole_step accept refuse written clock_after is_tick ticked
  step-clock w (control register v) = go (eqb (refusal c w (control register v)) 0)
    where
      go : (b : Bool) → (cond b (accept c w (control register v)) (refuse c w (control register v) (refusal c w (control register v)))).after.clock ≡ w.clock
      go true = refl
      go false = refl
  step-clock w (tick k out ans) = rw (← number-due w (tick k out ans)) (go (eqb (refusal c w (tick k out ans)) 0))
    where
      go : (b : Bool) → (cond b (accept c w (tick k out ans)) (refuse c w (tick k out ans) (refusal c w (tick k out ans)))).after.clock ≡ cond b (suc_ℤ w.clock) w.clock
      go true = ap (λ (s : Router). suc_ℤ s.clock) (ended-frame c w k)
      go false = refl

  -- Call by call.
  pub numbers-due : (w : Router) (ks : List Call) → map (λ (a : Reply). a.number) (replies (whole_step c) w ks) ≡ map (number_due c) ks
  unfolding replies
  numbers-due w [] = refl
  numbers-due w (k ∷ ks) = ap₂ (λ (n : ℕ) (l : List ℕ). n ∷ l) (step-number w k ∙ number-due w k) (numbers-due (whole_step c w k).after ks)

  -- ---- settings

  module _ {past : List Call} {w : Router} (S : AsWritten c past w) where
    -- A call that writes no register leaves what was written.
    silent : (k : Call) → ((q : ℕ) → writes c q k ≡ false) → AsWritten c (k ∷ past) w
    unfolding last_written last_entry last_horizon
    silent k n = record {
      entry = λ i. rw (n 3) (S.entry i);
      horizon = λ p. rw (n 5) (S.horizon p);
      register_0 = rw (n 0) S.register_0;
      register_1 = rw (n 1) S.register_1;
      register_2 = rw (n 2) S.register_2;
      register_4 = rw (n 4) S.register_4;
    }

    -- An accepted write is the last of its register, and a commit takes what the registers held. Register by register.
    accepted-kept : (register v : ℕ) → eqb (number_due c (control register v)) 0 ≡ true → AsWritten c (control register v ∷ past) (written register v w)
    unfolding last_written last_entry last_horizon writes value written put
    accepted-kept zero v e = record { entry = λ i. rw e (S.entry i); horizon = λ p. rw e (S.horizon p); register_0 = rw e; register_1 = rw e S.register_1; register_2 = rw e S.register_2; register_4 = rw e S.register_4 }
    accepted-kept (suc zero) v e = record { entry = λ i. rw e (S.entry i); horizon = λ p. rw e (S.horizon p); register_0 = rw e S.register_0; register_1 = rw e; register_2 = rw e S.register_2; register_4 = rw e S.register_4 }
    accepted-kept (suc (suc zero)) v e = record { entry = λ i. rw e (S.entry i); horizon = λ p. rw e (S.horizon p); register_0 = rw e S.register_0; register_1 = rw e S.register_1; register_2 = rw e; register_4 = rw e S.register_4 }
    accepted-kept (suc (suc (suc zero))) v e = record { entry = λ i. rw (e, S.entry i, S.register_0, S.register_1, S.register_2); horizon = λ p. rw e (S.horizon p); register_0 = rw e S.register_0; register_1 = rw e S.register_1; register_2 = rw e S.register_2; register_4 = rw e S.register_4 }
    accepted-kept (suc (suc (suc (suc zero)))) v e = record { entry = λ i. rw e (S.entry i); horizon = λ p. rw e (S.horizon p); register_0 = rw e S.register_0; register_1 = rw e S.register_1; register_2 = rw e S.register_2; register_4 = rw e }
    accepted-kept (suc (suc (suc (suc (suc zero))))) v e = record { entry = λ i. rw e (S.entry i); horizon = λ p. rw (e, S.horizon p, S.register_4); register_0 = rw e S.register_0; register_1 = rw e S.register_1; register_2 = rw e S.register_2; register_4 = rw e S.register_4 }
    accepted-kept (suc (suc (suc (suc (suc (suc n)))))) v e = absurd (true≢false (sym e ∙ no_register n v))

    -- A tick leaves the settings.
    tick-kept : (k : TickCall) → AsWritten c past (ticked c w k).router
    unfolding ticked
    tick-kept k = subst (λ (r : Router). AsWritten c past (advanced r)) (sym (ended-frame c w k)) (record { entry = S.entry; horizon = S.horizon; register_0 = S.register_0; register_1 = S.register_1; register_2 = S.register_2; register_4 = S.register_4 })

  -- So each call keeps it: a refused one writes nothing, and neither does a tick.
  pub step_kept : {past : List Call} {w : Router} → AsWritten c past w → (k : Call) → AsWritten c (k ∷ past) (whole_step c w k).after
  unfolding whole_step refusal accept refuse writes
  step_kept {past} {w} S (control register v) = rw (number-due w (control register v)) (go (eqb (number_due c (control register v)) 0) refl)
    where
      go : (b : Bool) → eqb (number_due c (control register v)) 0 ≡ b → AsWritten c (control register v ∷ past) (cond b (accept c w (control register v)) (refuse c w (control register v) (number_due c (control register v)))).after
      go true e = accepted-kept S register v e
      go false e = silent S (control register v) (λ q. rw e)
  step_kept {past} {w} S (tick k out ans) = go (eqb (refusal c w (tick k out ans)) 0)
    where
      go : (b : Bool) → AsWritten c (tick k out ans ∷ past) (cond b (accept c w (tick k out ans)) (refuse c w (tick k out ans) (refusal c w (tick k out ans)))).after
      go true = tick-kept (silent S (tick k out ans) (λ q. refl)) k
      go false = silent S (tick k out ans) (λ q. refl)

  -- And so does each list of calls, one after the other put before the past.
  calls-kept : (ks : List Call) {past : List Call} {w : Router} → AsWritten c past w → AsWritten c (reverse_aux ks past) (after_all (whole_step c) w ks)
  unfolding after_all
  calls-kept [] S = S
  calls-kept (k ∷ ks) S = calls-kept ks (step_kept S k)

  -- At first everything is 0.
  pub start-written : (t : ℕ) → AsWritten c [] (start t)
  unfolding start last_written last_entry last_horizon
  start-written t = record { entry = λ i. refl; horizon = λ p. refl; register_0 = refl; register_1 = refl; register_2 = refl; register_4 = refl }

  pub settings-written : (t : ℕ) (ks : List Call) → AsWritten c (reverse ks) (after_all (whole_step c) (start t) ks)
  settings-written t ks = calls-kept ks (start-written t)
