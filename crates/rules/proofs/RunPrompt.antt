-- The rest of the accounts: what waits by the accounts stands in its place, and there the grant is the least; so no port idles without its reason. Assumes nothing.
use Prim.Native.Nat.{ℕ, zero, suc, ◌+◌, ◌-◌, ◌<◌}
use mathlib.Core.Path.{◌≡◌, refl, sym, ap, subst, ◌∙◌}
use mathlib.Core.Bool.{Bool, true, false, ◌&&◌}
use mathlib.Core.List.Memᴰ
use mathlib.Core.List.{List, [], ◌∷◌, ◌++◌, Memᴰ}
use mathlib.Core.Option.{none, some}
use native.Mathlib.Omega.{arith}
use lib.ListN.{length, get_or}
use lib.Dec.{T, eqb}
use lib.IntN.{ℤ, suc_ℤ, pos, ◌-ℤ◌}
use lib.Signed.{le_z, lt_z, ◌≤ℤ◌}
use borrow.Author.Tests.{ne_eqb}
use Rattle.rules.specs.Account.{NotedTick, is_sent, times, is_left, left_on, sent_on, withdrawn_on, Accepted, Unserved, NoneOnTime, NoLater, Prompt, Stored, GivenBack, Accounts}
use Rattle.rules.specs.Areas.{has, best_effort, on_time}
use Rattle.rules.specs.Order.{counted, top_first}
use Rattle.rules.specs.Whole.{Packet, Router, to_serve, meets}
use Rattle.rules.proofs.Booleans.{true→T}
use Rattle.rules.proofs.IndexLaws.{count_none, count-some, count_same, count-pos, counted-true, counted-false}
use Rattle.rules.proofs.Integers.{orders, suc-nat, not-le}
use Rattle.rules.proofs.Masks.{some_port}
use Rattle.rules.proofs.ByteLaws.{top_first-at}
use Rattle.rules.proofs.StateLaws.{length-top_first}
use Rattle.rules.proofs.Grants.{grant-on-time, grant-best-effort, grant-waits, grant-early}
use Rattle.rules.proofs.Good.{after, chosen}
use Rattle.rules.proofs.Accounting.{taken, for-port, arrivals-left, served-left}
use Rattle.rules.proofs.Runs.{next, next-good, Ticking, Run, rest, quiet, ticks, run-ticks, split, moment, over}
use Rattle.rules.proofs.RunTold.{packet-taken, told, gave-back, run-free}
use Rattle.rules.proofs.RunAccounts.{same_self, left-x, router-at, arrival-reported, grant-reported, window-at, run-good, accepted_on, accepted-append, conserve, once, unique, held-accepted, to_serve-accepted, left-nothing, in_time, genuine, permitted}

module _ (c : ℕ) where
  -- ---- a run with one more tick

  -- By induction over the run.
  snoc : {r m : Router} {h : List NotedTick} → Run c r h m → (d : NotedTick) → Ticking c d → d.met ≡ m → Run c r (h ++ (d ∷ [])) (next c d)
  snoc (rest {r = r} G) d t e = subst (λ (r : Router). Run c r (d ∷ []) (next c d)) e (ticks d t (rest (next-good c t)))
  snoc (quiet ec ep ef R) d t e = quiet ec ep ef (snoc R d t e)
  snoc (ticks d₀ t₀ R) d t e = ticks d₀ t₀ (snoc R d t e)

  -- By induction over the ticks.
  withdrawn-none : (p : ℕ) (x : Packet) (h : List NotedTick) → ((d : NotedTick) → Memᴰ d h → times x (d.report.withdrawn p) ≡ 0) → withdrawn_on p x h ≡ 0
  unfolding withdrawn_on
  withdrawn-none p x [] f = refl
  withdrawn-none p x (d ∷ h) f = let a = f d (Memᴰ.head refl) in let b = withdrawn-none p x h (λ e m. f e (Memᴰ.tail m)) in omega arith

  module _ {r w : Router} {h : List NotedTick} (R : Run c r h w) (empty : (i : ℕ) → r.place i ≡ none) where
    kept-stored : Stored h w.place
    kept-stored = record {
      accepted = held-accepted c R empty;
      some_port = λ i l x e. some_port x.left ((run-good c R).busy i l x e) ((run-good c R).window i l x e).left;
    }

    -- ---- what waits for a port when a tick serves it

    module _ (before : List NotedTick) (d : NotedTick) (t : Ticking c d) (S : Run c r before d.met) (p : ℕ) (hp : p < 5) where
      abbrev here : Router
      here = router-at c t p

      abbrev upto : List NotedTick
      upto = before ++ (d ∷ [])

      R' : Run c r upto (next c d)
      R' = snoc S d t refl

      last : Memᴰ d upto
      last = Memᴰ.append_right before (Memᴰ.head refl)

      -- Sent, withdrawn and left by then are what was accepted.
      balance : (x : Packet) (i : ℕ) → Accepted upto x i → sent_on p x before + withdrawn_on p x before + left_on p x here.place ≡ counted (has x.mask p)
      unfolding accepted_on
      balance x i a =
          let v = conserve c p hp x S in
          let z = left-nothing c S empty p x in
          let o = once c (for-port p) x i R' a in
          let s = accepted-append c (for-port p) x before (d ∷ []) in
          let q = count_same (λ q. taken (for-port p) x (d.report.arrival q)) (λ q. taken (for-port p) x (meets c d.call (after c d.met d.call q) q)) 5 (λ q l. ap (taken (for-port p) x) (arrival-reported c t q)) in
          let al = arrivals-left c d.met d.call t.good t.input p hp x 5 in
          let sl = served-left c d.met d.call t.good t.input p hp x p (omega arith) in
          let n = count_none (λ q. eqb q p && is_sent x (chosen c d.met d.call q)) p (λ q l. ap (λ (e : Bool). e && is_sent x (chosen c d.met d.call q)) (ne_eqb q p (omega arith))) in
          omega arith

      -- A packet is not withdrawn before its deadline.
      not-withdrawn : (x : Packet) (i : ℕ) → Accepted upto x i → d.met.clock ≤ℤ x.deadline → withdrawn_on p x before ≡ 0
      not-withdrawn x i a alive = withdrawn-none p x before (λ e k. go e k (times x (e.report.withdrawn p)) refl)
        where
          go : (e : NotedTick) → Memᴰ e before → (n : ℕ) → times x (e.report.withdrawn p) ≡ n → n ≡ 0
          go e k zero q = refl
          go e k (suc n) q =
              let s : e.met.clock ≡ x.deadline = ((permitted c R' empty x i a p hp e (Memᴰ.append_left (d ∷ []) k)).withdrawn (omega arith)).1 in
              let o : T (le_z (suc_ℤ x.deadline) d.met.clock) = subst (λ (y : ℤ). T (le_z (suc_ℤ y) d.met.clock)) s (over c S k) in
              let l = alive.le in
              absurd (omega (arith, orders, suc-nat x.deadline))

      -- What waits by the accounts waits at its place.
      waits-at : (x : Packet) (j : ℕ) → Unserved c before d p x j → (j < 256) × (to_serve (here.place j) p ≡ some x)
      unfolding left_on
      waits-at x j W =
          let b = balance x j W.accepted in
          let u = W.unsent in
          let w' = not-withdrawn x j W.accepted W.in_time in
          let k : counted (has x.mask p) ≡ 1 = ap counted W.port ∙ counted-true in
          let (i, l, e) = count-some (λ i. is_left x (to_serve (here.place i) p)) 256 (omega arith) in
          let (y, ey, s) = left-x x (to_serve (here.place i) p) e in
          let (q, z) = unique c R' x y j i W.accepted (to_serve-accepted c R' empty d last p (omega arith) i p y l ey) s in
          subst (λ (j : ℕ). (j < 256) × (to_serve (here.place j) p ≡ some x)) (sym z) (l, ey ∙ ap some (sym q))

      -- And the other way round.
      at-waits : (i : ℕ) (x : Packet) → i < 256 → to_serve (here.place i) p ≡ some x → Unserved c before d p x i
      unfolding left_on is_left
      at-waits i x l e =
          let a = to_serve-accepted c R' empty d last p (omega arith) i p x l e in
          let b = balance x i a in
          let k = count-pos (λ i. is_left x (to_serve (here.place i) p)) 256 i l (ap (is_left x) e ∙ same_self x) in
          let (port, unsent) = once-left (has x.mask p) refl b k in
          record { accepted = a; port = port; unsent = unsent; in_time = record { le = (window-at c t p p (omega arith) i x l e).1 } }
        where
          once-left : (v : Bool) → has x.mask p ≡ v → sent_on p x before + withdrawn_on p x before + left_on p x here.place ≡ counted v → 0 < left_on p x here.place → (has x.mask p ≡ true) × (sent_on p x before ≡ 0)
          once-left true q b k = let z = counted-true in (q, omega arith)
          once-left false q b k = let z = counted-false in absurd (omega arith)

      -- What waits at a place waits by the accounts.
      none-ready : NoneOnTime c before d p → (i : ℕ) (x : Packet) → i < 256 → to_serve (here.place i) p ≡ some x → T (lt_z d.met.clock x.time)
      none-ready N i x l e = (N x i (at-waits i x l e)).lt

      -- What waits is at a place, and the grant is the least there.
      sends-ready : (x : Packet) (i : ℕ) → Unserved c before d p x i → x.time ≤ℤ d.met.clock → (j : ℕ) × (y : Packet) × (d.report.grant p ≡ on_time (j, y)) × NoLater (y.deadline, y.time, j) (x.deadline, x.time, i)
      sends-ready x i W ready =
          let (l, e) = waits-at x i W in
          let (j, y, g, le) = grant-on-time here d.call.best_effort p i x l e ready.le in
          (j, y, grant-reported c t p ∙ g, le)

      clash : {C : Type 0} {w : ℕ × Packet} → d.report.grant p ≡ best_effort → d.report.grant p ≡ on_time w → C
      clash e q = let z : ◌≡◌ {A = ℕ} 0 1 = cc in absurd (omega arith)

      -- Best-effort is granted only where nothing is on time: else the grant would be on time.
      prompt : Prompt c before d p
      prompt = record {
        on_time = sends-ready;
        when_best_effort = λ e. (grant-best-effort here d.call.best_effort p (sym (grant-reported c t p) ∙ e), λ x i W. record { lt = later x i W e (le_z x.time d.met.clock) refl });
        best_effort_if = λ b N. grant-reported c t p ∙ grant-waits here d.call.best_effort p (none-ready N) b;
        early = λ b N x i W near.
            let (l, e) = waits-at x i W in
            let (j, y, g, le) = grant-early here d.call.best_effort p (none-ready N) b i x l e (subst (λ (n : ℕ). T (le_z (x.time -ℤ d.met.clock) (pos n))) (sym (t.settings.horizon p)) near.le) in
            (j, y, grant-reported c t p ∙ g, le);
      }
        where
          later : (x : Packet) (i : ℕ) → Unserved c before d p x i → d.report.grant p ≡ best_effort → (v : Bool) → le_z x.time d.met.clock ≡ v → T (lt_z d.met.clock x.time)
          later x i W e true q = let (j, y, g, le) = sends-ready x i W (record { le = true→T (le_z x.time d.met.clock) q }) in clash e g
          later x i W e false q = not-le x.time d.met.clock q

    -- All of it, from a router whose places are free, the lowest first.
    pub accounts : 0 < c → c < 20 → r.free ≡ top_first (λ i. 255 - i) 256 → Accounts c r.clock h w
    accounts hc lc free =
        let f = run-free c R ∙ free in
        record {
          account = λ x i a p hp. record {
            once = let v = conserve c p hp x R in let o = once c (for-port p) x i R a in let z = left-nothing c R empty p x in omega arith;
            permitted = λ d m. permitted c R empty x i a p hp d m;
            in_time = in_time c R empty x i a p;
          };
          unique = unique c R;
          genuine = genuine c R empty;
          prompt = λ before later d e p hp. let (t, S, U) = split c R before later d e in prompt before d t S p hp;
          taken = λ d m p hp. packet-taken c (moment c R m).tick p hp;
          told = λ d m. told c hc lc (moment c R m).tick;
          clocks = λ before later d e. run-ticks c (split c R before later d e).1;
          clock = run-ticks c R;
          stored = kept-stored;
          kept = (run-good c R).kept;
          first_free = (ap length f ∙ length-top_first (λ i. 255 - i) 256, λ i l. ap (λ (l : List ℕ). get_or l i 0) f ∙ top_first-at (λ i. 255 - i) 256 i l ∙ omega arith);
          given_back = λ before later d e. let (t, S, U) = split c R before later d e in subst (GivenBack d) (sym (run-free c U)) (gave-back c t);
        }
