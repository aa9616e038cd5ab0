-- Orders: by a key, and one then another, a strict order is made of strict ones, the comparator's too; and nothing goes before the least in a strict order. Assumes nothing.
use Prim.Native.Nat.{ℕ, zero, suc, ◌<◌, ◌≤◌}
use mathlib.Core.Path.{◌≡◌, refl, sym, ap, subst, ◌∙◌}
use mathlib.Core.Bool.{Bool, true, false, cond, not, ◌&&◌, ◌||◌, true≢false}
use mathlib.Core.Logic.{◌⊎◌, inl, inr, ⊎_elim}
use mathlib.Core.Option.{Option, none, some}
use native.Mathlib.Decide.{dec_lt}
use native.Mathlib.Omega.{arith}
use lib.IntN.{ℤ}
use lib.Signed.{lt_z}
use Rattle.rules.specs.Order.{better, least, Order, by, then, on_time_first, comparator}
use Rattle.rules.proofs.Booleans.{some_inj, none-some, true→T, T→true}
use Rattle.rules.proofs.Integers.{orders, not-lt}
use Rattle.rules.proofs.IndexLaws.{least-in}

-- ---- strict orders

-- Nothing goes before itself, what goes before goes before all that comes after, and where one goes before another each third goes after the one or before the other.
pub record Strict {A : Type 0} (less : Order A) : Type 0 where
  pub irrefl : (x : A) → less x x ≡ true → ⊥
  pub trans : (x y z : A) → less x y ≡ true → less y z ≡ true → less x z ≡ true
  pub cotrans : (x y z : A) → less x z ≡ true → (less x y ≡ true) ⊎ (less y z ≡ true)

-- A test holds or not.
either : (t : Bool) → (t ≡ true) ⊎ (t ≡ false)
either true = inl refl
either false = inr refl

-- What can't hold doesn't.
pub fails : (t : Bool) → (t ≡ true → ⊥) → t ≡ false
fails true n = absurd (n refl)
fails false n = refl

-- Whole numbers.
pub strict-wholes : Strict lt_z
strict-wholes = record {
  irrefl = λ x e. let h = true→T (lt_z x x) e in omega (arith, orders);
  trans = λ x y z e f. let h = true→T (lt_z x y) e in let k = true→T (lt_z y z) f in T→true (lt_z x z) (omega (arith, orders));
  cotrans = λ x y z e. go x y z e (either (lt_z x y));
}
  where
    go : (x y z : ℤ) → lt_z x z ≡ true → (lt_z x y ≡ true) ⊎ (lt_z x y ≡ false) → (lt_z x y ≡ true) ⊎ (lt_z y z ≡ true)
    go x y z e (inl h) = inl h
    go x y z e (inr h) = let k = true→T (lt_z x z) e in let n = not-lt x y h in inr (T→true (lt_z y z) (omega (arith, orders)))

-- By a key.
pub strict-by : {A K : Type 0} (key : A → K) {less : Order K} → Strict less → Strict (by key less)
unfolding by
strict-by key S = record { irrefl = λ x. S.irrefl (key x); trans = λ x y z. S.trans (key x) (key y) (key z); cotrans = λ x y z. S.cotrans (key x) (key y) (key z) }

-- One then another.
module _ {A : Type 0} (f g : Order A) where
  -- The first tells them apart, or it doesn't and the second does.
  then-cases : (x y : A) → then f g x y ≡ true → (f x y ≡ true) ⊎ ((f x y ≡ false) × (f y x ≡ false) × (g x y ≡ true))
  unfolding then
  then-cases x y e = go (f x y) (f y x) (g x y) e
    where
      go : (a b d : Bool) → (a || (not b && d)) ≡ true → (a ≡ true) ⊎ ((a ≡ false) × (b ≡ false) × (d ≡ true))
      go true b d e = inl refl
      go false false d e = inr (refl, refl, e)
      go false true d e = absurd (true≢false (sym e))

  then-first : (x y : A) → f x y ≡ true → then f g x y ≡ true
  unfolding then
  then-first x y e = rw e

  then-second : (x y : A) → f y x ≡ false → g x y ≡ true → then f g x y ≡ true
  unfolding then
  then-second x y e q = rw (e, q) (go (f x y))
    where
      go : (a : Bool) → (a || true) ≡ true
      go true = refl
      go false = refl

  module _ (F : Strict f) (G : Strict g) where
    -- Not told apart from x, y stands to any third as x does.
    no-back : (x y z : A) → f y z ≡ false → f z x ≡ false → f y x ≡ false
    no-back x y z e q = fails (f y x) (λ h. go (F.cotrans y z x h))
      where
        go : (f y z ≡ true) ⊎ (f z x ≡ true) → ⊥
        go (inl h) = true≢false (sym h ∙ e)
        go (inr h) = true≢false (sym h ∙ q)

    pub strict-then : Strict (then f g)
    strict-then = record {
      irrefl = λ x e. irrefl x (then-cases x x e);
      trans = λ x y z e q. trans x y z (then-cases x y e) (then-cases y z q);
      cotrans = λ x y z e. cotrans x y z (then-cases x z e) (either (f x y)) (either (f y z));
    }
      where
        Cases : A → A → Type 0
        Cases x y = (f x y ≡ true) ⊎ ((f x y ≡ false) × (f y x ≡ false) × (g x y ≡ true))

        irrefl : (x : A) → Cases x x → ⊥
        irrefl x (inl h) = F.irrefl x h
        irrefl x (inr h) = G.irrefl x h.2

        trans : (x y z : A) → Cases x y → Cases y z → then f g x z ≡ true
        trans x y z (inl h) (inl k) = then-first x z (F.trans x y z h k)
        trans x y z (inl h) (inr k) = ⊎_elim (λ d. then-first x z d) (λ d. absurd (true≢false (sym d ∙ k.1))) (F.cotrans x z y h)
        trans x y z (inr h) (inl k) = ⊎_elim (λ d. absurd (true≢false (sym d ∙ h.1))) (λ d. then-first x z d) (F.cotrans y x z k)
        trans x y z (inr h) (inr k) = then-second x z (no-back x z y k.1 h.1) (G.trans x y z h.2 k.2)

        second : (x y z : A) → f x y ≡ false → f y z ≡ false → f x z ≡ false → f z x ≡ false → (g x y ≡ true) ⊎ (g y z ≡ true) → (then f g x y ≡ true) ⊎ (then f g y z ≡ true)
        second x y z a b d e (inl h) = inl (then-second x y (no-back x y z b e) h)
        second x y z a b d e (inr h) = inr (then-second y z (no-back y z x e a) h)

        cotrans : (x y z : A) → Cases x z → (f x y ≡ true) ⊎ (f x y ≡ false) → (f y z ≡ true) ⊎ (f y z ≡ false) → (then f g x y ≡ true) ⊎ (then f g y z ≡ true)
        cotrans x y z d (inl h) k = inl (then-first x y h)
        cotrans x y z d (inr h) (inl k) = inr (then-first y z k)
        cotrans x y z (inl d) (inr h) (inr k) = ⊎_elim (λ q. absurd (true≢false (sym q ∙ h))) (λ q. absurd (true≢false (sym q ∙ k))) (F.cotrans x y z d)
        cotrans x y z (inr d) (inr h) (inr k) = second x y z h k d.0 d.1 (G.cotrans x y z d.2)

-- ---- the least in a strict order is least

module _ {A : Type 0} {less : Order A} (S : Strict less) where
  -- Against the key x at i there is a least: x is not less than it, and it is less than x or its index no higher.
  abbrev Beats : Option (ℕ × A) → ℕ → A → Type 0
  Beats v i x = (j : ℕ) × (y : A) × (v ≡ some (j, y)) × (less x y ≡ false) × ((less y x ≡ true) ⊎ (j ≤ i))

  -- A key is beaten by the better of it and another of a lower index.
  better-new : (v : Option (ℕ × A)) (k : ℕ) (x : A) → ((j : ℕ) (y : A) → v ≡ some (j, y) → j < k) → Beats (better less v k (some x)) k x
  unfolding better
  better-new none k x l = (k, x, refl, fails (less x x) (S.irrefl x), inr (omega arith))
  better-new (some w) k x l = go (less x w.1) refl
    where
      go : (t : Bool) → less x w.1 ≡ t → Beats (cond t (some (k, x)) (some w)) k x
      go true e = (k, x, refl, fails (less x x) (S.irrefl x), inr (omega arith))
      go false e = (w.0, w.1, refl, e, inr (let m = l w.0 w.1 refl in omega arith))

  -- What beats a key is replaced only by what is less.
  better-old : (v : Option (ℕ × A)) (k : ℕ) (y : Option A) (i : ℕ) (x : A) → Beats v i x → Beats (better less v k y) i x
  unfolding better
  better-old none k y i x (j, z, e, l, m) = none-some e
  better-old (some w) k none i x b = b
  better-old (some w) k (some y) i x (j, z, e, l, m) = go (less y w.1) refl
    where
      same-z : w.1 ≡ z
      same-z = ap (λ (w : ℕ × A). w.1) (some_inj e)

      go : (t : Bool) → less y w.1 ≡ t → Beats (cond t (some (k, y)) (some w)) i x
      go true q =
          let n : less x w.1 ≡ false = ap (less x) same-z ∙ l in
          (k, y, refl, fails (less x y) (λ h. true≢false (sym (S.trans x y w.1 h q) ∙ n)), ⊎_elim (λ h. inl h) (λ h. absurd (true≢false (sym h ∙ n))) (S.cotrans y x w.1 q))
      go false q = (j, z, e, l, m)

  -- No key is less than the least, and no equal one has a lower index.
  pub least-beats : (key : ℕ → Option A) (k i : ℕ) (x : A) → i < k → key i ≡ some x → Beats (least less key k) i x
  unfolding least
  least-beats key zero i x l e = absurd (omega arith)
  least-beats key (suc k) i x l e = go (λ m. least-beats key k i x m e) (dec_lt i k)
    where
      go : (i < k → Beats (least less key k) i x) → Dec (i < k) → Beats (better less (least less key k) k (key k)) i x
      go f (yes m) = better-old (least less key k) k (key k) i x (f m)
      go f (no m) =
          let j : k ≡ i = omega arith in
          subst (λ (i : ℕ). Beats (better less (least less key k) k (key k)) i x) j
          (subst (λ (y : Option A). Beats (better less (least less key k) k y) k x) (sym e ∙ ap key (sym j)) (better-new (least less key k) k x (λ a b q. (least-in less key k a b q).0)))

-- ---- the comparator

strict-on-time-first : Strict on_time_first
unfolding on_time_first
strict-on-time-first = record { irrefl = irrefl; trans = trans; cotrans = cotrans }
  where
    irrefl : (x : Bool) → on_time_first x x ≡ true → ⊥
    irrefl true e = true≢false (sym e)
    irrefl false e = true≢false (sym e)

    trans : (x y z : Bool) → on_time_first x y ≡ true → on_time_first y z ≡ true → on_time_first x z ≡ true
    trans true true z e q = q
    trans true false true e q = cc
    trans true false false e q = e
    trans false true true e q = e
    trans false true false e q = cc
    trans false false z e q = q

    cotrans : (x y z : Bool) → on_time_first x z ≡ true → (on_time_first x y ≡ true) ⊎ (on_time_first y z ≡ true)
    cotrans true true z e = inr e
    cotrans true false true e = inl cc
    cotrans true false false e = inl e
    cotrans false true true e = inl e
    cotrans false true false e = inl cc
    cotrans false false z e = inr e

-- By its parts.
pub strict-comparator : Strict comparator
unfolding comparator
strict-comparator = strict-then _ _ (strict-by _ strict-on-time-first) (strict-then _ _ (strict-by _ strict-wholes) (strict-by _ strict-wholes))
