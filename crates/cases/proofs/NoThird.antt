-- A packet accepted in the tick of its deadline is sent or withdrawn in it. By demand 3 it is, on each port of its mask, sent, withdrawn or left, once in the run; nothing is left after its deadline,
-- and a tick that sends or withdraws it has the clock of its arrival, which one tick of a run has. Assumes nothing.
use Prim.Native.Nat.{ℕ, ◌+◌, ◌<◌}
use mathlib.Core.Path.{◌≡◌, refl, sym, ap, subst, ◌∙◌}
use mathlib.Core.Bool.{Bool, true, false, true≢false}
use mathlib.Core.List.Memᴰ
use mathlib.Core.List.{List, [], ◌∷◌, ◌++◌, Memᴰ}
use mathlib.Core.Logic.{◌≢◌, ⊎_elim}
use native.Mathlib.Nat.{eq-zero-or-pos}
use native.Mathlib.Omega.{arith}
use lib.Dec.{T}
use lib.IntN.{ℤ, suc_ℤ}
use lib.Signed.{le_z}
use Rattle.rules.specs.Order.{counted}
use Rattle.rules.specs.Areas.{Grant, nobody, best_effort, on_time, early}
use Rattle.rules.specs.Whole.{Router, Packet, start}
use Rattle.rules.specs.Calls.{after_all, whole_step}
use Rattle.rules.specs.Account.{NotedTick, is_sent, times, sent_on, withdrawn_on, left_on, Accepted, PacketAt, Permitted, Account, Accounts}
use Rattle.rules.proofs.Integers.{orders, suc-nat, antisym, later-differs}
use Rattle.rules.proofs.GivenLaws.{start-written}
use Rattle.rules.proofs.Runs.{Run, moment, over, after-tick}
use Rattle.cases.specs.Table.{NoThird}
use Rattle.cases.proofs.Reached.{after-calls, agreed-after}

-- ---- what one tick does, and what all do

module _ (p : ℕ) (x : Packet) where
  -- How often the tick d, and the ticks h, send x or withdraw it on port p.
  abbrev does : NotedTick → ℕ
  does d = counted (is_sent x (d.report.grant p)) + times x (d.report.withdrawn p)

  abbrev count : List NotedTick → ℕ
  count h = sent_on p x h + withdrawn_on p x h

  count-append : (g h : List NotedTick) → count (g ++ h) ≡ count g + count h
  unfolding sent_on withdrawn_on
  count-append [] h = omega arith
  count-append (e ∷ g) h = let a = count-append g h in omega arith

  -- If none does, none is counted.
  none-counted : (h : List NotedTick) → ((e : NotedTick) → Memᴰ e h → does e ≡ 0) → count h ≡ 0
  unfolding sent_on withdrawn_on
  none-counted [] f = refl
  none-counted (e ∷ h) f = let a = f e (Memᴰ.head refl) in let b = none-counted h (λ g m. f g (Memᴰ.tail m)) in omega arith

  -- If only ticks with the clock of d do, d alone is counted: those before it are over, and those after it come later.
  one-does : {r w : Router} {h : List NotedTick} {d : NotedTick} → Run 1 r h w → Memᴰ d h → ((e : NotedTick) → Memᴰ e h → e.met.clock ≢ d.met.clock → does e ≡ 0) → count h ≡ does d
  unfolding sent_on withdrawn_on
  one-does {d = d} R m f =
      let M = moment 1 R m in
      let in-run : (e : NotedTick) → Memᴰ e (M.before ++ (d ∷ M.later)) → e.met.clock ≢ d.met.clock → does e ≡ 0 = λ e k. f e (subst (Memᴰ e) (sym M.parts) k) in
      let a = none-counted M.before (λ e k. in-run e (Memᴰ.append_left (d ∷ M.later) k) (later-differs e.met.clock d.met.clock (over 1 M.past k))) in
      let b = none-counted M.later (λ e k. in-run e (Memᴰ.append_right M.before (Memᴰ.tail k)) (λ q. later-differs d.met.clock e.met.clock (after-tick 1 d M.future k) (sym q))) in
      let s = ap count M.parts ∙ count-append M.before (d ∷ M.later) in
      omega arith

-- A tick at another clock does nothing with a packet whose deadline is the clock of its arrival.
idle-else : (e : NotedTick) (p : ℕ) (x : Packet) → Permitted 1 e p x → x.deadline ≡ x.arrived → e.met.clock ≢ x.arrived → does p x e ≡ 0
unfolding counted
idle-else e p x L q n = go (is_sent x (e.report.grant p)) refl
  where
    go : (s : Bool) → is_sent x (e.report.grant p) ≡ s → counted s + times x (e.report.withdrawn p) ≡ 0
    go true s =
        let (a, b, c) = L.sent s in
        absurd (n (antisym e.met.clock x.arrived (subst (λ (z : ℤ). T (le_z e.met.clock z)) q c.le) a.le))
    go false s = ⊎_elim (λ z. omega arith) (λ w. absurd (n ((L.withdrawn w).1 ∙ q))) (eq-zero-or-pos (times x (e.report.withdrawn p)))

-- ---- the claim

-- Once the clock has passed its deadline, nothing is left of a packet.
none_left : {h : List NotedTick} {w : Router} {p : ℕ} {x : Packet} → Account 1 h w x p → T (le_z (suc_ℤ x.deadline) w.clock) → left_on p x w.place ≡ 0
none_left {w = w} {p = p} {x = x} C l =
    ⊎_elim (λ z. z) (λ n. let k = (C.in_time n).le in absurd (omega (arith, orders, suc-nat x.deadline))) (eq-zero-or-pos (left_on p x w.place))

-- What is sent goes out with its bytes: it is the packet granted.
sent-bytes : {T : ℤ} {h : List NotedTick} {w : Router} → Accounts 1 T h w → (x : Packet) (i : ℕ) → Accepted h x i → (d : NotedTick) → Memᴰ d h → (p : ℕ) → p < 5 → (g : Grant (ℕ × Packet)) → d.report.grant p ≡ g → is_sent x g ≡ true → PacketAt 1 d.outgoing p x
unfolding is_sent
sent-bytes A x i a d m p hp nobody e s = absurd (true≢false (sym s))
sent-bytes A x i a d m p hp best_effort e s = absurd (true≢false (sym s))
sent-bytes A x i a d m p hp (on_time (j, y)) e s = subst (PacketAt 1 d.outgoing p) (sym (A.unique x y i j a ((A.genuine d m p hp y).on_time j e) s).0) ((A.told d m p hp).on_time j y e).1
sent-bytes A x i a d m p hp (early (j, y)) e s = subst (PacketAt 1 d.outgoing p) (sym (A.unique x y i j a ((A.genuine d m p hp y).early j e) s).0) ((A.told d m p hp).early j y e).1

pub no_third : NoThird
unfolding NoThird
no_third t ht ks P x i a q d m n p hp =
    let C = (after-calls t ht ks P).accounts.account x i a p hp in
    let R = (agreed-after t ht ks P).run (start-written 1 t) in
    let done = one-does p x R m (λ e k l. idle-else e p x (C.permitted e k) q (λ z. l (z ∙ sym n))) in
    let o = C.once in
    let z = none_left C (subst (λ (z : ℤ). T (le_z (suc_ℤ z) (after_all (whole_step 1) (start t) ks).clock)) (n ∙ sym q) (over 1 R m)) in
    record { one = omega arith; bytes = λ s. sent-bytes (after-calls t ht ks P).accounts x i a d m p hp (d.report.grant p) refl s }
