-- Bytes stay bytes: whatever calls of bytes do to a router of bytes, the memory and the state hold numbers below 256, but for the two places of the free count, of which this doesn't speak. Assumes nothing.
use Prim.Native.Nat.{ℕ, zero, suc, ◌+◌, ◌-◌, ◌*◌, ◌/◌, ◌%◌, ◌^◌, ◌≤◌, ◌<◌}
use mathlib.Core.Path.{◌≡◌, refl, sym, subst, ◌∙◌}
use mathlib.Core.Bool.{Bool, true, false, cond, not, ◌&&◌}
use mathlib.Core.Logic.{◌≢◌}
use mathlib.Core.List.{List, [], ◌∷◌}
use native.Mathlib.Nat.{mod-lt}
use native.Mathlib.Omega.{arith}
use lib.Pow.{pow_pos}
use lib.ListN.{take, drop, set, replicate}
use lib.Seq.{sets, get_or-set_other, get_or-drop}
use lib.Dec.{eqb, leb, ltb}
use borrow.Author.Tests.{leb-true}
use Rattle.rules.specs.Clock.{plus}
use Rattle.rules.specs.Areas.{Store, byte, bits, packet, stamp, has, without, Grant, nobody, best_effort, on_time, early}
use Rattle.rules.specs.Board.{Field, Horizon, Latch, Idle, Time, Deadline, Mask, Outgoing, Delay, Routes, clock, free, table8, board8}
use Rattle.rules.specs.Questions.{fresh, written, commit_horizon}
use Rattle.rules.specs.Tick as Tick
use Rattle.rules.proofs.FieldBytes.{get-one, put_one, put_two, stamp-one, packed-one}
use Rattle.rules.proofs.Booleans.{and_left}
use Rattle.rules.proofs.Theorem.{layout}

-- ---- lists

-- Every number of the list is a byte; of a state, but for those at 10 and 11.
abbrev pub Small : List ℕ → Type 0
Small l = (j : ℕ) → byte l j < 256

abbrev pub SmallState : List ℕ → Type 0
SmallState s = (j : ℕ) → j ≢ 10 → j ≢ 11 → byte s j < 256

pub zeros-small : (n : ℕ) → Small (replicate n 0)
zeros-small zero j = omega arith
zeros-small (suc n) zero = omega arith
zeros-small (suc n) (suc j) = zeros-small n j

set-byte : (s : List ℕ) (i v j : ℕ) → v < 256 → byte s j < 256 → byte (set s i v) j < 256
set-byte [] i v j hv h = h
set-byte (x ∷ s) zero v zero hv h = hv
set-byte (x ∷ s) zero v (suc j) hv h = h
set-byte (x ∷ s) (suc i) v zero hv h = h
set-byte (x ∷ s) (suc i) v (suc j) hv h = set-byte s i v j hv h

pub sets-small : (vs s : List ℕ) (i : ℕ) → Small vs → Small s → Small (sets s i vs)
sets-small [] s i hv h = h
sets-small (v ∷ vs) s i hv h = sets-small vs (set s i v) (suc i) (λ j. hv (suc j)) (λ j. set-byte s i v j (hv 0) (h j))

pub part_small : (n i : ℕ) (l : List ℕ) → Small l → Small (take n (drop i l))
part_small n i l h j = go (take-byte n (drop i l) j)
  where
    take-byte : (n : ℕ) (l : List ℕ) (j : ℕ) → byte (take n l) j ≤ byte l j
    take-byte zero l j = omega arith
    take-byte (suc n) [] j = omega arith
    take-byte (suc n) (x ∷ l) zero = omega arith
    take-byte (suc n) (x ∷ l) (suc j) = take-byte n l j

    go : byte (take n (drop i l)) j ≤ byte (drop i l) j → byte (take n (drop i l)) j < 256
    go b = omega (arith, get_or-drop i l j 0, h (i + j))

-- ---- fields

-- A field of one byte, which is not at 10 or 11.
abbrev One : Field → Type 0
One f = ((table8 f).1 ≡ 1) × ((table8 f).0 ≢ 10) × ((table8 f).0 ≢ 11)

get-small : (s : List ℕ) (f : Field) → SmallState s → One f → board8.get s f < 256
get-small s f h (one, a, b) = rw (get-one table8 s f one) (h (table8 f).0 a b)

put_small : (s : List ℕ) (f : Field) (v : ℕ) → SmallState s → (table8 f).1 ≡ 1 → v < 256 → SmallState (board8.put s f v)
put_small s f v h one hv = rw (put_one table8 s f one v) (λ j a b. set-byte s (table8 f).0 v j hv (h j a b))

-- The free count stands at 10 and 11 alone.
put-free-small : (s : List ℕ) (n : ℕ) → SmallState s → SmallState (board8.put s free n)
put-free-small s n h j a b =
    let other = get_or-set_other (set s 10 (n / 256)) 11 j (n % 256) 0 b ∙ get_or-set_other s 10 j (n / 256) 0 a in
    rw (put_two table8 s free refl n) (subst (λ (x : ℕ). x < 256) (sym other) (h j a b))

without-le : (m p : ℕ) → without m p ≤ m
unfolding without
without-le m p = go (has m p)
  where
    go : (b : Bool) → cond b (m - 2 ^ p) m ≤ m
    go true = omega arith
    go false = omega arith

-- ---- control writes

entry-small : (s : List ℕ) (i : ℕ) → SmallState s
    → SmallState (board8.put (board8.put (board8.put s (Outgoing, i) (board8.get s (Latch, 0))) (Delay, i) (board8.get s (Latch, 1))) (Routes, i) (board8.get s (Latch, 2)))
entry-small s i h =
    let s₁ = board8.put s (Outgoing, i) (board8.get s (Latch, 0)) in
    let s₂ = board8.put s₁ (Delay, i) (board8.get s (Latch, 1)) in
    put_small s₂ (Routes, i) _ (put_small s₁ (Delay, i) _ (put_small s (Outgoing, i) _ h refl (latched 0 (omega arith))) refl (latched 1 (omega arith))) refl (latched 2 (omega arith))
  where
    latched : (q : ℕ) → q < 4 → board8.get s (Latch, q) < 256
    latched q l = get-small s (Latch, q) h (refl, (λ e. omega arith), (λ e. omega arith))

horizons-small : (p m v : ℕ) (s : List ℕ) → v < 256 → SmallState s → SmallState (commit_horizon board8 p m v s)
unfolding commit_horizon
horizons-small zero m v s hv h = h
horizons-small (suc p) m v s hv h = go (has m p) (horizons-small p m v s hv h)
  where
    s' : List ℕ
    s' = commit_horizon board8 p m v s

    go : (b : Bool) → SmallState s' → SmallState (cond b (board8.put s' (Horizon, p) v) s')
    go true h' = put_small s' (Horizon, p) v h' refl hv
    go false h' = h'

pub written_small : (register v : ℕ) (s : List ℕ) → v < 256 → SmallState s → SmallState (written board8 register v s)
unfolding written
written_small register v s hv h = go (eqb register 3) (eqb register 5)
  where
    go : (a b : Bool) → SmallState (cond a (board8.put (board8.put (board8.put s (Outgoing, v) (board8.get s (Latch, 0))) (Delay, v) (board8.get s (Latch, 1))) (Routes, v) (board8.get s (Latch, 2)))
        (cond b (commit_horizon board8 5 (board8.get s (Latch, 3)) v s) (board8.put s (Latch, cond (eqb register 4) 3 register) v)))
    go true b = entry-small s v h
    go false true = horizons-small 5 (board8.get s (Latch, 3)) v s hv h
    go false false = put_small s (Latch, cond (eqb register 4) 3 register) v h refl hv

-- ---- a tick, step by step

-- State and memory.
pub record SmallStore (r : Store) : Type 0 where
  pub state : SmallState r.state
  pub memory : Small r.memory

placed-small : (r : Store) (k : List ℕ) → SmallStore r → Small k → SmallStore (Tick.placed board8 r k)
unfolding Tick.placed plus bits
placed-small r k h hk =
    let s = r.state in
    let n = board8.get s free - 1 in
    let i = board8.get s (Idle, n) in
    let d = (stamp 1 k + board8.get s (Delay, byte k 0)) % 2 ^ 8 in
    let hd : d < 256 = mod-lt (stamp 1 k + board8.get s (Delay, byte k 0)) (pow_pos 8) in
    let routes = get-small s (Routes, byte k 0) h.state (refl, (λ e. omega arith), (λ e. omega arith)) in
    let out = get-small s (Outgoing, byte k 0) h.state (refl, (λ e. omega arith), (λ e. omega arith)) in
    let s₁ = board8.put s free n in
    let s₂ = board8.put s₁ (Time, i) (stamp 1 k) in
    let s₃ = board8.put s₂ (Deadline, i) d in
    record {
      state = put_small s₃ (Mask, i) _ (put_small s₂ (Deadline, i) d (put_small s₁ (Time, i) _ (put-free-small s n h.state) refl (rw (stamp-one k) (hk 1))) refl hd) refl routes;
      memory = rw (packed-one (board8.get s (Outgoing, byte k 0)) d k) (sets-small (board8.get s (Outgoing, byte k 0) ∷ d ∷ drop 2 k) r.memory (20 * i) (headed out hd) h.memory);
    }
  where
    headed : {a b : ℕ} → a < 256 → b < 256 → Small (a ∷ b ∷ drop 2 k)
    headed ha hb zero = ha
    headed ha hb (suc zero) = hb
    headed ha hb (suc (suc j)) = rw (get_or-drop 2 k j 0) (hk (2 + j))

pub arrived-small : (p arriving : ℕ) (area : List ℕ) (r : Store) → SmallStore r → Small area → SmallStore (Tick.arrived board8 p arriving area r)
unfolding Tick.arrived packet
arrived-small zero arriving area r h ha = h
arrived-small (suc p) arriving area r h ha = go (eqb (Tick.arrival board8 r'.state arriving p k) 1) (arrived-small p arriving area r h ha)
  where
    r' : Store
    r' = Tick.arrived board8 p arriving area r

    k : List ℕ
    k = packet area p

    go : (b : Bool) → SmallStore r' → SmallStore (cond b (Tick.placed board8 r' k) r')
    go true h' = placed-small r' k h' (part_small 20 (20 * p) area ha)
    go false h' = h'

leave-small : (p i : ℕ) (s : List ℕ) → SmallState s → SmallState (Tick.leave board8 p i s)
leave-small p i s h =
    let m = get-small s (Mask, i) h (refl, (λ e. omega arith), (λ e. omega arith)) in
    put_small s (Mask, i) _ h refl (omega (arith, without-le (board8.get s (Mask, i)) p))

sent-small : (p : ℕ) (g : Grant ℕ) (s : List ℕ) → SmallState s → SmallState (Tick.sent board8 p g s)
unfolding Tick.sent
sent-small p nobody s h = h
sent-small p best_effort s h = h
sent-small p (on_time i) s h = leave-small p i s h
sent-small p (early i) s h = leave-small p i s h

served-small : (p waiting : ℕ) (s : List ℕ) → SmallState s → SmallState (Tick.served board8 p waiting s)
unfolding Tick.served
served-small zero waiting s h = h
served-small (suc p) waiting s h = sent-small p _ (Tick.served board8 p waiting s) (served-small p waiting s h)

withdrawn-small : (i : ℕ) (s : List ℕ) → SmallState s → SmallState (Tick.withdrawn board8 i s)
unfolding Tick.withdrawn
withdrawn-small zero s h = h
withdrawn-small (suc i) s h = go (Tick.is_due board8 s' i) (withdrawn-small i s h)
  where
    s' : List ℕ
    s' = Tick.withdrawn board8 i s

    go : (b : Bool) → SmallState s' → SmallState (cond b (board8.put s' (Mask, i) 0) s')
    go true h' = put_small s' (Mask, i) 0 h' refl (omega arith)
    go false h' = h'

returned-small : (i : ℕ) (before s : List ℕ) → i ≤ 256 → SmallState s → SmallState (Tick.returned board8 i before s)
unfolding Tick.returned
returned-small zero before s l h = h
returned-small (suc i) before s l h = go (not (eqb (board8.get before (Mask, i)) 0) && eqb (board8.get s' (Mask, i)) 0) (returned-small i before s (omega arith) h)
  where
    s' : List ℕ
    s' = Tick.returned board8 i before s

    go : (b : Bool) → SmallState s' → SmallState (cond b (Tick.give_back board8 i s') s')
    go true h' = put-free-small (board8.put s' (Idle, board8.get s' free) i) _ (put_small s' (Idle, board8.get s' free) i h' refl (omega arith))
    go false h' = h'

pub ticked-small : (r : Store) (arriving waiting : ℕ) (area : List ℕ) → SmallStore r → Small area → SmallStore (Tick.ticked board8 r arriving waiting area).after
unfolding Tick.ticked plus bits
ticked-small r arriving waiting area h ha =
    let r₁ = Tick.arrived board8 5 arriving area r in
    let h₁ = arrived-small 5 arriving area r h ha in
    let s₃ = Tick.served board8 5 waiting r₁.state in
    let s₅ = Tick.returned board8 256 r₁.state (Tick.withdrawn board8 256 s₃) in
    record {
      state = put_small s₅ clock _ (returned-small 256 r₁.state (Tick.withdrawn board8 256 s₃) (omega arith) (withdrawn-small 256 s₃ (served-small 5 waiting r₁.state h₁.state))) refl (mod-lt (board8.get s₅ clock + 1) (pow_pos 8));
      memory = h₁.memory;
    }

-- ---- a fresh router

pub fresh-small : SmallStore (fresh board8 0)
unfolding fresh
fresh-small = record { state = λ j a b. rw (layout.fresh 0 j) (go j (eqb j 0) (eqb j 10) (leb 12 j && ltb j 268) refl); memory = zeros-small 5120 }
  where
    go : (j : ℕ) (a b c : Bool) → (leb 12 j && ltb j 268) ≡ c → cond a 0 (cond b 1 (cond c (267 - j) 0)) < 256
    go j true b c e = omega arith
    go j false true c e = omega arith
    go j false false true e = omega (arith, leb-true 12 j (and_left (leb 12 j) (ltb j 268) e))
    go j false false false e = omega arith
