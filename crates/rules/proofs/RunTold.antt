-- What a tick says and does with arrivals and places: the answers due, the packets made of call and entry, the bytes of answers and outgoing, and the free list after it. Assumes nothing.
use Prim.Native.Nat.{ℕ, zero, suc, ◌+◌, ◌*◌, ◌/◌, ◌%◌, ◌<◌}
use mathlib.Core.Path.{◌≡◌, refl, sym, ap, ap₂, subst, ◌∙◌}
use mathlib.Core.Bool.{Bool, true, false, cond, not}
use mathlib.Core.List.{List, ◌++◌}
use native.Mathlib.Omega.{arith}
use lib.ListN.{length}
use lib.Dec.{eqb, eqb→eq}
use lib.IntN.{pos, ◌+ℤ◌}
use lib.Signed.{le_z}
use borrow.Author.Tests.{eq-eqb}
use Rattle.rules.specs.Account.{NotedTick, stored_below, entry_met, answer_due, Made, Taken, Told, stored, GivenBack, free_before}
use Rattle.rules.specs.Given.{last_entry}
use Rattle.rules.specs.Areas.{byte, packet, has, grant_code, on_time, early, asked, arrival_questions, arrival_answer}
use Rattle.rules.specs.Order.{count}
use Rattle.rules.specs.Whole.{Entry, Router, TickCall, meets, arrival_refusal, arrived, ticked, arrival_code, answer_bytes, grant_bytes}
use Rattle.rules.proofs.Booleans.{true→T, same_test}
use Rattle.rules.proofs.FieldBytes.{packet-byte}
use Rattle.rules.proofs.ByteLaws.{packet-at, zeros-at, payload-byte, answer_at}
use Rattle.rules.proofs.WholeLaws.{arrival-code, arrival-taken, arrival-free, emptied-free}
use Rattle.rules.proofs.Good.{after, arrivals-frame, accepted-passed, serving, serving-by}
use Rattle.rules.proofs.Runs.{next, Ticking, Run, rest, quiet, ticks}
use Rattle.rules.proofs.RunAccounts.{arrival-reported, stored-below, free-taken, size-at, rests}

-- ---- the free places of a tick

module _ (c : ℕ) (w : Router) (call : TickCall) where
  -- Each accepted arrival takes one free place.
  pub arrivals-free : (p : ℕ) → length (after c w call p).free + count p (λ q. eqb (arrival_code (meets c call (after c w call q) q)) 1) ≡ length w.free
  unfolding arrived count
  arrivals-free zero = omega arith
  arrivals-free (suc p) =
      let a = arrivals-free p in
      let b = arrival-free c (after c w call p) call.arriving p (packet call.arrivals p) (call.times p) in
      omega arith

module _ (c : ℕ) where
  -- ---- questions 6 to 8 are exact

  full-same : (a b : ℕ) → (a ≡ 0 → b ≡ 256) → (b ≡ 256 → a ≡ 0) → eqb a 0 ≡ eqb b 256
  full-same a b f g = same_test (eqb a 0) (eqb b 256) (λ t. true→T (eqb b 256) (eq-eqb b 256 (f (eqb→eq a 0 t)))) (λ t. true→T (eqb a 0) (eq-eqb a 0 (g (eqb→eq b 256 t))))

  in-numbers : (a b f : Bool) → arrival_answer (asked (arrival_questions (not a) b (not f))) ≡ cond a 6 (cond b (cond f 8 1) 7)
  unfolding arrival_answer asked
  in-numbers true b f = refl
  in-numbers false false f = refl
  in-numbers false true true = refl
  in-numbers false true false = refl

  -- The entry that an arrival meets is the one last committed.
  entry-met : {d : NotedTick} → Ticking c d → (p : ℕ) → d.met.entry (byte (packet d.call.arrivals p) 0) ≡ entry_met c d p
  entry-met {d} t p =
      let k : byte (packet d.call.arrivals p) 0 ≡ byte d.call.arrivals (20 * p) = packet-byte d.call.arrivals p 0 (omega arith) ∙ ap (byte d.call.arrivals) (omega arith) in
      t.settings.entry (byte (packet d.call.arrivals p) 0) ∙ ap (λ (i : ℕ). last_entry c i d.past) k

  -- By the settings, which the tick does not change, and the free places, which make 256 with the stored packets.
  pub answers-due : {d : NotedTick} → Ticking c d → (p : ℕ) → p < 5 → arrival_code (d.report.arrival p) ≡ answer_due c d p
  unfolding answer_due arrival_refusal
  answers-due {d} t p hp =
      let w = d.met in
      let call = d.call in
      let k = packet call.arrivals p in
      let r = after c w call p in
      let f = arrivals-frame c w call p in
      let free = arrivals-free c w call p in
      let kept = t.good.kept.all in
      let n = stored-below c t p (omega arith) in
      let answer : ℕ → ℕ = λ q. cond (has call.arriving p) (arrival_answer q) 0 in
      let due : Entry → Bool → ℕ = λ e b. cond (has call.arriving p) (cond (eqb e.mask 0) 6 (cond (le_z w.clock (call.times p +ℤ pos e.delay)) (cond b 8 1) 7)) 0 in
      let e = w.entry (byte k 0) in
      ap arrival_code (arrival-reported c t p) ∙ arrival-code c r call.arriving p k (call.times p)
      ∙ ap (λ (v : Router). answer (arrival_refusal c v k (call.times p))) f
      ∙ ap (λ (a : ℕ). cond (has call.arriving p) a 0) (in-numbers (eqb e.mask 0) (le_z w.clock (call.times p +ℤ pos e.delay)) (eqb (length r.free) 0))
      ∙ ap₂ due (entry-met t p) (full-same (length r.free) (stored w.place + stored_below d p) (omega arith) (omega arith))

  -- Where 1 is due the packet is accepted; and what is accepted is made at the settings of the tick.
  pub packet-taken : {d : NotedTick} → Ticking c d → (p : ℕ) → p < 5 → Taken c d p
  unfolding arrival_code
  packet-taken {d} t p hp =
      let w = d.met in
      let call = d.call in
      let k = packet call.arrivals p in
      let met = entry-met t p in
      record {
        due = λ e. let (x, a) = arrival-taken c (after c w call p) call.arriving p k (call.times p) (ap arrival_code (sym (arrival-reported c t p)) ∙ answers-due t p hp ∙ e) in (x, arrival-reported c t p ∙ a);
        only = λ x e. (
          sym (answers-due t p hp) ∙ ap arrival_code e,
          subst (Made c d p) (accepted-passed c w call p x (sym (arrival-reported c t p) ∙ e)).packet (record {
            arrived = refl;
            input = refl;
            time = refl;
            deadline = ap (λ (e : Entry). call.times p +ℤ pos e.delay) met;
            identifier = ap (λ (e : Entry). e.identifier) met;
            mask = ap (λ (e : Entry). e.mask) met;
            payload = λ j l. payload-byte c call.arrivals p j l;
          }),
        );
      }

  -- Answers and outgoing are those of the report.
  pub told : 0 < c → c < 20 → {d : NotedTick} → Ticking c d → (p : ℕ) → p < 5 → Told c d p
  unfolding answer_bytes grant_code grant_bytes
  told hc lc {d} t p l =
      let r = d.report in
      let (a, b, e, f) = subst (λ (x : List ℕ). (byte x p ≡ grant_code (r.grant p)) × (byte x (5 + p) ≡ arrival_code (r.arrival p)) × (byte x (10 + 2 * p) ≡ length (r.withdrawn p) / 256) × (byte x (11 + 2 * p) ≡ length (r.withdrawn p) % 256)) (sym t.answers) (answer_at (λ p. grant_code (r.grant p)) (λ p. arrival_code (r.arrival p)) (λ p. length (r.withdrawn p)) p l) in
      record {
        arrival = b ∙ answers-due t p l;
        nobody = λ k. (a ∙ ap grant_code k, zeros-at d.outgoing p (t.sends p l ∙ ap (grant_bytes c) k));
        on_time = λ i x k. let (h, v, g) = rests c t p (on_time (i, x)) k in (a ∙ ap grant_code k, packet-at c d.outgoing p x hc lc (size-at c t p p (omega arith) i x h v) (t.sends p l ∙ ap (grant_bytes c) k));
        when_best_effort = λ k. (a ∙ ap grant_code k, zeros-at d.outgoing p (t.sends p l ∙ ap (grant_bytes c) k));
        early = λ i x k. let (h, v, g, n) = rests c t p (early (i, x)) k in (a ∙ ap grant_code k, packet-at c d.outgoing p x hc lc (size-at c t p p (omega arith) i x h v) (t.sends p l ∙ ap (grant_bytes c) k));
        withdrawn = (e, f);
      }

  -- ---- the free list

  -- Serving takes no place, and emptied places go to the front.
  pub gave-back : {d : NotedTick} → Ticking c d → GivenBack d (next c d).free
  unfolding ticked
  gave-back {d} t =
      let w = d.met in
      let s = serving c w d.call 5 in
      let (l, f, m, e) = emptied-free s.clock 256 s in
      let k : s.free ≡ (after c w d.call 5).free = serving-by c w d.call (λ r. r.free ≡ (after c w d.call 5).free) refl 5 (λ p m r q i h. q) in
      record { emptied = l; falling = f; list = e ∙ ap (λ (x : List ℕ). l ++ x) (k ∙ free-taken c t 5 (omega arith)) }

  -- A run meets the free list that it begins with.
  pub run-free : {r w : Router} {h : List NotedTick} → Run c r h w → free_before h w ≡ r.free
  unfolding free_before
  run-free (rest G) = refl
  run-free (quiet ec ep ef R) = run-free R ∙ ef
  run-free (ticks d t R) = refl
