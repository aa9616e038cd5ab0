-- Whom the router that never turns over grants a port: the winner is the least in a strict order, so that no packet that waits for the port goes before it. Assumes nothing.
use Prim.Native.Nat.{ℕ, ◌<◌, ◌≤◌}
use mathlib.Core.Path.{◌≡◌, refl, sym, subst}
use mathlib.Core.Bool.{Bool, true, false, cond, not, ◌&&◌, ◌||◌, true≢false}
use mathlib.Core.Logic.{◌⊎◌, inl, inr}
use mathlib.Core.Option.{Option, none, some}
use native.Mathlib.Omega.{arith}
use lib.Dec.{T}
use lib.IntN.{ℤ, pos, ◌-ℤ◌}
use lib.Signed.{le_z, lt_z}
use Rattle.rules.specs.Account.{NoLater}
use Rattle.rules.specs.Areas.{has, Grant, nobody, best_effort, on_time, early}
use Rattle.rules.specs.Order.{least, Order, by, then, on_time_first, comparator}
use Rattle.rules.specs.Whole.{Packet, Held, Router, to_serve, packet_key_of, packet_key, granted, grant}
use Rattle.rules.proofs.Booleans.{some_inj, none-some, true→T, T→true}
use Rattle.rules.proofs.IndexLaws.{least-in}
use Rattle.rules.proofs.OrderLaws.{fails, strict-by, strict-comparator, least-beats}
use Rattle.rules.proofs.Integers.{orders, diff-nat, antisym, not-lt}

-- What a grant of port p at the router r rests on.
abbrev pub Rests : Router → ℕ → Grant (ℕ × Packet) → Type 0
Rests r p nobody = Unit {0}
Rests r p best_effort = Unit {0}
Rests r p (on_time (i, x)) = (i < 256) × (to_serve (r.place i) p ≡ some x) × T (le_z x.time r.clock)
Rests r p (early (i, x)) = (i < 256) × (to_serve (r.place i) p ≡ some x) × T (lt_z r.clock x.time) × T (le_z (x.time -ℤ r.clock) (pos (r.horizon p)))

-- ---- what doesn't go before another

-- Of two pairs of times, by the first and then by the second: what the one doesn't go before is no later, where it goes before the one or its place is no higher.
no-later : (a b d e : ℤ) (i j : ℕ) → (lt_z a d || (not (lt_z d a) && lt_z b e)) ≡ false → ((lt_z d a || (not (lt_z a d) && lt_z e b)) ≡ true) ⊎ (j ≤ i) → NoLater (d, e, j) (a, b, i)
no-later a b d e i j = go (lt_z a d) (lt_z d a) (lt_z b e) (lt_z e b) refl refl refl refl
  where
    go : (l m t u : Bool) → lt_z a d ≡ l → lt_z d a ≡ m → lt_z b e ≡ t → lt_z e b ≡ u → (l || (not m && t)) ≡ false → ((m || (not l && u)) ≡ true) ⊎ (j ≤ i) → NoLater (d, e, j) (a, b, i)
    go true m t u p q z y n k = absurd (true≢false n)
    go false true t u p q z y n k = inl (record { lt = true→T (lt_z d a) q })
    go false false true u p q z y n k = absurd (true≢false n)
    go false false false true p q z y n k = inr (antisym d a (not-lt a d p) (not-lt d a q), inl (record { lt = true→T (lt_z e b) y }))
    go false false false false p q z y n (inl k) = absurd (true≢false (sym k))
    go false false false false p q z y n (inr k) = inr (antisym d a (not-lt a d p) (not-lt d a q), inr (antisym e b (not-lt b e z) (not-lt e b y), k))

-- By the first alone, too.
pub first-no-later : (d e a b : ℤ) (i j : ℕ) → NoLater (d, e, j) (a, b, i) → T (le_z d a)
first-no-later d e a b i j (inl l) = let k = l.lt in omega (arith, orders)
first-no-later d e a b i j (inr (q, l)) = subst (λ (z : ℤ). T (le_z d z)) q (omega (arith, orders))

-- What a packet on time at i doesn't go before is on time, and no later by deadline, time and place; what an early one doesn't go before is on time, or no later by time, deadline and place.
abbrev pub Behind : ℕ → Packet → ℕ → Packet → Bool → Bool → Type 0
Behind i x j y false t = (t ≡ false) × NoLater (y.deadline, y.time, j) (x.deadline, x.time, i)
Behind i x j y true false = Unit {0}
Behind i x j y true true = NoLater (y.time, y.deadline, j) (x.time, x.deadline, i)

pub not-before : (t : ℤ) (i : ℕ) (x : Packet) (j : ℕ) (y : Packet) (a b : Bool) → lt_z t x.time ≡ a → lt_z t y.time ≡ b → by (packet_key t) comparator x y ≡ false → (by (packet_key t) comparator y x ≡ true) ⊎ (j ≤ i) → Behind i x j y a b
unfolding by comparator then on_time_first
not-before t i x j y a b p q n k = go a b (rw (sym p, sym q) n) (rw (sym p, sym q) k)
  where
    go : (a b : Bool) → comparator (packet_key_of a x) (packet_key_of b y) ≡ false → (comparator (packet_key_of b y) (packet_key_of a x) ≡ true) ⊎ (j ≤ i) → Behind i x j y a b
    go false true n k = absurd (true≢false n)
    go false false n k = (refl, no-later x.deadline x.time y.deadline y.time i j n k)
    go true true n k = no-later x.time x.deadline y.time y.deadline i j n k
    go true false n k = tt

-- ---- the grant

module _ (r : Router) (b p : ℕ) where
  abbrev before : Order Packet
  before = by (packet_key r.clock) comparator

  abbrev waiting : ℕ → Option Packet
  waiting i = to_serve (r.place i) p

  abbrev winner : Option (ℕ × Packet)
  winner = least before waiting 256

  abbrev is_early : Packet → Bool
  is_early x = lt_z r.clock x.time

  abbrev is_near : Packet → Bool
  is_near x = le_z (x.time -ℤ r.clock) (pos (r.horizon p))

  -- Against each waiting packet there is a winner: the packet doesn't go before it, and it goes before the packet or its place is no higher.
  wins : (i : ℕ) (x : Packet) → i < 256 → waiting i ≡ some x → (j : ℕ) × (y : Packet) × (winner ≡ some (j, y)) × (before x y ≡ false) × ((before y x ≡ true) ⊎ (j ≤ i))
  wins = least-beats (strict-by (packet_key r.clock) strict-comparator) waiting 256

  -- A waiting packet whose time has come makes the port send on time, and none that it goes before.
  pub grant-on-time : (i : ℕ) (x : Packet) → i < 256 → waiting i ≡ some x → T (le_z x.time r.clock) → (j : ℕ) × (y : Packet) × (grant r b p ≡ on_time (j, y)) × NoLater (y.deadline, y.time, j) (x.deadline, x.time, i)
  unfolding grant granted
  grant-on-time i x l e h =
      let (j, y, q, n, k) = wins i x l e in
      let on_time = fails (is_early x) (λ k. let m = true→T (is_early x) k in omega (arith, orders)) in
      let (z, d) = not-before r.clock i x j y false (is_early y) on_time refl n k in
      (j, y, rw (q, z), d)

  -- Best-effort has the port only where it waits.
  pub grant-best-effort : grant r b p ≡ best_effort → has b p ≡ true
  unfolding grant granted
  grant-best-effort e = go winner (has b p) e
    where
      clash : {C : Type 0} (w : ℕ × Packet) (a t : Bool) → ◌≡◌ {A = Grant (ℕ × Packet)} (cond a (cond t (early w) nobody) (on_time w)) best_effort → C
      clash w true true e = let z : ◌≡◌ {A = ℕ} 0 1 = cc in absurd (omega arith)
      clash w true false e = let z : ◌≡◌ {A = ℕ} 0 1 = cc in absurd (omega arith)
      clash w false t e = let z : ◌≡◌ {A = ℕ} 0 1 = cc in absurd (omega arith)

      go : (v : Option (ℕ × Packet)) (t : Bool) → granted v t r.clock (r.horizon p) ≡ best_effort → t ≡ true
      go v true e = refl
      go none false e = let z : ◌≡◌ {A = ℕ} 0 1 = cc in absurd (omega arith)
      go (some w) false e = clash w (is_early w.1) (is_near w.1) e

  module _ (all-early : (i : ℕ) (x : Packet) → i < 256 → waiting i ≡ some x → T (is_early x)) where
    -- The winner waits.
    winner-early : (j : ℕ) (y : Packet) → winner ≡ some (j, y) → is_early y ≡ true
    winner-early j y q = let (l, e) = least-in before waiting 256 j y q in T→true (is_early y) (all-early j y l e)

    -- Where nothing is on time, best-effort has the port if it waits.
    pub grant-waits : has b p ≡ true → grant r b p ≡ best_effort
    unfolding grant granted
    grant-waits e = rw e (go winner refl)
      where
        go : (v : Option (ℕ × Packet)) → winner ≡ v → granted v true r.clock (r.horizon p) ≡ best_effort
        go none q = refl
        go (some (j, y)) q = rw (winner-early j y q)

    -- Else a packet within the horizon makes it send early, and none that it goes before.
    pub grant-early : has b p ≡ false → (i : ℕ) (x : Packet) → i < 256 → waiting i ≡ some x → T (is_near x) → (j : ℕ) × (y : Packet) × (grant r b p ≡ early (j, y)) × NoLater (y.time, y.deadline, j) (x.time, x.deadline, i)
    unfolding grant granted
    grant-early f i x l e h =
        let (j, y, q, n, k) = wins i x l e in
        let le = not-before r.clock i x j y true true (T→true (is_early x) (all-early i x l e)) (winner-early j y q) n k in
        let m = first-no-later _ _ _ _ _ _ le in
        let near = T→true (is_near y) (omega (arith, orders, diff-nat x.time r.clock, diff-nat y.time r.clock)) in
        (j, y, rw (q, winner-early j y q, f, near), le)

  -- By cases of the winner, which is a packet that waits.
  pub grant-rests : Rests r p (grant r b p)
  unfolding grant granted
  grant-rests = go winner refl (has b p)
    where
      cases : (i : ℕ) (x : Packet) → i < 256 → waiting i ≡ some x → (a t d : Bool) → is_early x ≡ a → is_near x ≡ d → Rests r p (cond a (cond t best_effort (cond d (early (i, x)) nobody)) (on_time (i, x)))
      cases i x l e false t d q z = (l, e, not-lt r.clock x.time q)
      cases i x l e true true d q z = tt
      cases i x l e true false true q z = (l, e, true→T (is_early x) q, true→T (is_near x) z)
      cases i x l e true false false q z = tt

      go : (v : Option (ℕ × Packet)) → winner ≡ v → (t : Bool) → Rests r p (granted v t r.clock (r.horizon p))
      go none q true = tt
      go none q false = tt
      go (some (i, x)) q t = let (l, e) = least-in before waiting 256 i x q in cases i x l e (is_early x) t (is_near x) refl refl

-- A waiting packet is held, with the port left.
pub to_serve-held : (v : Option Held) (p : ℕ) (x : Packet) → to_serve v p ≡ some x → (h : Held) × (v ≡ some h) × (h.packet ≡ x) × (has h.left p ≡ true)
unfolding to_serve
to_serve-held none p x e = none-some e
to_serve-held (some h) p x e = go (has h.left p) refl e
  where
    go : (t : Bool) → has h.left p ≡ t → cond t (some h.packet) none ≡ some x → (k : Held) × (some h ≡ some k) × (k.packet ≡ x) × (has k.left p ≡ true)
    go true q e = (h, refl, some_inj e, q)
    go false q e = none-some e
