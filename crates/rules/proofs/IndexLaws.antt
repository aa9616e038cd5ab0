-- The indices below k: the least of two families of keys in one order, tests of all, and counts; one index after the other. Assumes nothing.
use Prim.Native.Nat.{ℕ, zero, suc, ◌+◌, ◌<◌, ◌≤◌}
use mathlib.Core.Path.{◌≡◌, refl, sym, ap, ap₂, subst, ◌∙◌}
use mathlib.Core.Bool.{Bool, true, false, cond, not, ◌&&◌, true≢false, and-true, and-false}
use mathlib.Core.Logic.{◌≢◌}
use mathlib.Core.Option.{Option, none, some}
use native.Mathlib.Decide.{ℕ_discrete, dec_lt}
use native.Mathlib.Omega.{arith}
use lib.Dec.{leb, eqb}
use borrow.Author.Tests.{eq-eqb, ne_eqb, lt-leb, le-leb}
use Rattle.rules.specs.Order.{better, least, all, first_failing, count, counted}
use Rattle.rules.proofs.Booleans.{some_inj, none-some}

-- ---- two families of keys in one order have their least at one index

module _ {A B : Type 0} (less_a : A → A → Bool) (less_b : B → B → Bool) (R : A → B → Type 0)
    (same-order : (a a' : A) (b b' : B) → R a b → R a' b' → less_a a a' ≡ less_b b b') where
  -- Both have no key, or keys in the relation.
  abbrev pub Keys : Option A → Option B → Type 0
  Keys none none = Unit {0}
  Keys none (some b) = ⊥
  Keys (some a) none = ⊥
  Keys (some a) (some b) = R a b

  -- Both have no least key, or one at the same index.
  abbrev pub Least : Option (ℕ × A) → Option (ℕ × B) → Type 0
  Least none none = Unit {0}
  Least none (some w) = ⊥
  Least (some v) none = ⊥
  Least (some v) (some w) = (v.0 ≡ w.0) × R v.1 w.1

  pick : (t : Bool) (i : ℕ) (a : A) (b : B) (v : ℕ × A) (w : ℕ × B) → R a b → (v.0 ≡ w.0) × R v.1 w.1
      → Least (cond t (some (i, a)) (some v)) (cond t (some (i, b)) (some w))
  pick true i a b v w r h = (refl, r)
  pick false i a b v w r h = h

  -- The next key is compared alike in both.
  better-same : (v : Option (ℕ × A)) (w : Option (ℕ × B)) (i : ℕ) (x : Option A) (y : Option B)
      → Least v w → Keys x y → Least (better less_a v i x) (better less_b w i y)
  unfolding better
  better-same none none i none none h r = tt
  better-same none none i none (some b) h r = absurd r
  better-same none none i (some a) none h r = absurd r
  better-same none none i (some a) (some b) h r = (refl, r)
  better-same none (some w) i x y h r = absurd h
  better-same (some v) none i x y h r = absurd h
  better-same (some v) (some w) i none none h r = h
  better-same (some v) (some w) i none (some b) h r = absurd r
  better-same (some v) (some w) i (some a) none h r = absurd r
  better-same (some v) (some w) i (some a) (some b) h r =
      rw (same-order a v.1 b w.1 r h.1) (pick (less_b b w.1) i a b v w r h)

  -- By induction, one index after the other.
  pub least-same : (f : ℕ → Option A) (g : ℕ → Option B) (k : ℕ) → ((i : ℕ) → i < k → Keys (f i) (g i)) → Least (least less_a f k) (least less_b g k)
  unfolding least
  least-same f g zero h = tt
  least-same f g (suc k) h = better-same (least less_a f k) (least less_b g k) k (f k) (g k) (least-same f g k (λ i l. h i (omega arith))) (h k (omega arith))

-- ---- the least is one of the keys

module _ {A : Type 0} (less : A → A → Bool) where
  -- The key at k, where the better is new.
  new_in : (key : ℕ → Option A) (k : ℕ) (y : A) → key k ≡ some y → (i : ℕ) (x : A) → ◌≡◌ {A = Option (ℕ × A)} (some (k, y)) (some (i, x)) → (i < suc k) × (key i ≡ some x)
  new_in key k y e i x q = let j : k ≡ i = ap (λ (w : ℕ × A). w.0) (some_inj q) in (omega arith, subst (λ (n : ℕ). key n ≡ some x) j (e ∙ ap (λ (w : ℕ × A). some w.1) (some_inj q)))

  -- By cases of the two keys.
  better-in : (key : ℕ → Option A) (k : ℕ) (v : Option (ℕ × A)) (y : Option A) → key k ≡ y
      → ((i : ℕ) (x : A) → v ≡ some (i, x) → (i < k) × (key i ≡ some x))
      → (i : ℕ) (x : A) → better less v k y ≡ some (i, x) → (i < suc k) × (key i ≡ some x)
  unfolding better
  better-in key k none none e f i x q = none-some q
  better-in key k none (some y) e f i x q = new_in key k y e i x q
  better-in key k (some w) none e f i x q = let h = f i x q in (omega (arith, h.0), h.1)
  better-in key k (some w) (some y) e f i x q = go (less y w.1) q
    where
      go : (t : Bool) → cond t (some (k, y)) (some w) ≡ some (i, x) → (i < suc k) × (key i ≡ some x)
      go true q = new_in key k y e i x q
      go false q = let h = f i x q in (omega (arith, h.0), h.1)

  -- The least is one of the keys.
  pub least-in : (key : ℕ → Option A) (k i : ℕ) (x : A) → least less key k ≡ some (i, x) → (i < k) × (key i ≡ some x)
  unfolding least
  least-in key zero i x q = none-some q
  least-in key (suc k) i x q = better-in key k (least less key k) (key k) refl (least-in key k) i x q

-- ---- tests over the indices below k

pub counted-false : counted false ≡ 0
unfolding counted
counted-false = refl

pub counted-true : counted true ≡ 1
unfolding counted
counted-true = refl

-- A test of all holds at each.
pub all-at : (f : ℕ → Bool) (k i : ℕ) → all k f ≡ true → i < k → f i ≡ true
unfolding all
all-at f zero i e h = absurd (omega arith)
all-at f (suc k) i e h = go (all-at f k i) (all k f) (f k) refl refl e (dec_lt i k)
  where
    go : (all k f ≡ true → i < k → f i ≡ true) → (s t : Bool) → all k f ≡ s → f k ≡ t → (s && t) ≡ true → Dec (i < k) → f i ≡ true
    go below true t p q r (yes l) = below p l
    go below true t p q r (no l) = let j : i ≡ k = omega arith in ap f j ∙ q ∙ r
    go below false t p q r d = absurd (true≢false (sym r))

-- What holds at each passes the test of all.
pub all_true : (f : ℕ → Bool) (k : ℕ) → ((i : ℕ) → i < k → f i ≡ true) → all k f ≡ true
unfolding all
all_true f zero h = refl
all_true f (suc k) h = rw (all_true f k (λ i l. h i (omega arith))) (h k (omega arith))

-- ---- the lowest index below k at which a test fails

module _ (f : ℕ → Bool) where
  -- The test holds at every index below i, and fails at i, or i is k.
  pub record FirstFailing (k i : ℕ) : Type 0 where
    pub within : i ≤ k
    pub below : (j : ℕ) → j < i → f j ≡ true
    pub fails : i < k → f i ≡ false

  -- One index more: where none has failed it decides, else nothing changes.
  pub first-failing : (k : ℕ) → FirstFailing k (first_failing k f)
  unfolding first_failing
  first-failing zero = record { within = omega arith; below = λ j l. absurd (omega arith); fails = λ l. absurd (omega arith) }
  first-failing (suc k) = go (first-failing k) (ℕ_discrete (first_failing k f) k) (f k) refl
    where
      go : {i : ℕ} → FirstFailing k i → Dec (i ≡ k) → (t : Bool) → f k ≡ t → FirstFailing (suc k) (cond (eqb i k && f k) (suc k) i)
      go {i} F (yes q) true e = rw (eq-eqb i k q, e) (record { within = omega arith; below = λ j l. older j l (dec_lt j k); fails = λ l. absurd (omega arith) })
        where
          older : (j : ℕ) → j < suc k → Dec (j < k) → f j ≡ true
          older j l (yes m) = F.below j (omega arith)
          older j l (no m) = let z : j ≡ k = omega arith in ap f z ∙ e
      go {i} F (yes q) false e = rw (eq-eqb i k q, e) (record { within = omega arith; below = F.below; fails = λ l. ap f q ∙ e })
      go {i} F (no q) t e = rw (ne_eqb i k q) (record { within = let w = F.within in omega arith; below = F.below; fails = λ l. F.fails (let w = F.within in omega arith) })

  -- All hold just if none fails.
  pub all-first-failing : (k : ℕ) → all k f ≡ leb k (first_failing k f)
  all-first-failing k = go (first-failing k) (dec_lt (first_failing k f) k) (all k f) refl
    where
      go : {i : ℕ} → FirstFailing k i → Dec (i < k) → (t : Bool) → all k f ≡ t → all k f ≡ leb k i
      go {i} F (yes l) true e = absurd (true≢false (sym (all-at f k i e l) ∙ F.fails l))
      go {i} F (yes l) false e = e ∙ sym (lt-leb k i l)
      go {i} F (no l) t e = all_true f k (λ j h. F.below j (omega arith)) ∙ sym (le-leb k i (omega arith))

  -- No other index is it: below the one, the other's test would hold and fail.
  pub first-failing-one : (k i : ℕ) → FirstFailing k i → first_failing k f ≡ i
  first-failing-one k i F = go (first-failing k) (dec_lt (first_failing k f) i) (dec_lt i (first_failing k f))
    where
      go : {j : ℕ} → FirstFailing k j → Dec (j < i) → Dec (i < j) → j ≡ i
      go {j} G (yes l) d = absurd (true≢false (sym (F.below j l) ∙ G.fails (let w = F.within in omega arith)))
      go {j} G (no l) (yes m) = absurd (true≢false (sym (G.below i m) ∙ F.fails (let w = G.within in omega arith)))
      go {j} G (no l) (no m) = omega arith

-- ---- counts

-- Equal tests count alike.
pub count_same : (f g : ℕ → Bool) (k : ℕ) → ((j : ℕ) → j < k → f j ≡ g j) → count k f ≡ count k g
unfolding count
count_same f g zero h = refl
count_same f g (suc k) h = ap₂ (λ (a : ℕ) (b : Bool). a + counted b) (count_same f g k (λ j l. h j (omega arith))) (h k (omega arith))

-- Tests that differ at one index i count as much, but for i.
pub count-change : (f g : ℕ → Bool) (i k : ℕ) → i < k → ((j : ℕ) → j ≢ i → f j ≡ g j) → count k f + counted (g i) ≡ count k g + counted (f i)
unfolding count
count-change f g i zero l h = absurd (omega arith)
count-change f g i (suc k) l h = go (λ m. count-change f g i k m h) (dec_lt i k)
  where
    go : (i < k → count k f + counted (g i) ≡ count k g + counted (f i)) → Dec (i < k) → count k f + counted (f k) + counted (g i) ≡ count k g + counted (g k) + counted (f i)
    go below (yes m) =
        let e = below m in
        let q : counted (f k) ≡ counted (g k) = ap counted (h k (omega arith)) in
        omega arith
    go below (no m) =
        let j : i ≡ k = omega arith in
        let e = count_same f g k (λ j l. h j (omega arith)) in
        let p : counted (g i) ≡ counted (g k) = ap (λ (n : ℕ). counted (g n)) j in
        let q : counted (f i) ≡ counted (f k) = ap (λ (n : ℕ). counted (f n)) j in
        omega arith

-- Tests that fail count nothing.
pub count_none : (f : ℕ → Bool) (k : ℕ) → ((j : ℕ) → j < k → f j ≡ false) → count k f ≡ 0
unfolding count counted
count_none f zero h = refl
count_none f (suc k) h = rw (count_none f k (λ j l. h j (omega arith)), h k (omega arith))

-- A test that holds at most at i counts what it says there.
pub count-only : (f : ℕ → Bool) (i k : ℕ) → i < k → ((j : ℕ) → j < k → j ≢ i → f j ≡ false) → count k f ≡ counted (f i)
unfolding count counted
count-only f i zero l h = absurd (omega arith)
count-only f i (suc k) l h = go (λ m. count-only f i k m (λ j n. h j (omega arith))) (dec_lt i k)
  where
    go : (i < k → count k f ≡ cond (f i) 1 0) → Dec (i < k) → count k f + cond (f k) 1 0 ≡ cond (f i) 1 0
    go below (yes m) = rw (h k (omega arith) (omega arith), below m) (omega arith)
    go below (no m) =
        let j : i ≡ k = omega arith in
        let e : counted (f i) ≡ counted (f k) = ap (λ (n : ℕ). counted (f n)) j in
        let z = count_none f k (λ j l. h j (omega arith) (omega arith)) in
        omega arith

-- Something is counted somewhere.
pub count-some : (f : ℕ → Bool) (k : ℕ) → 0 < count k f → (i : ℕ) × (i < k) × (f i ≡ true)
unfolding count counted
count-some f zero h = absurd (omega arith)
count-some f (suc k) h = go (f k) refl h (λ l. count-some f k l)
  where
    go : (t : Bool) → f k ≡ t → 0 < count k f + cond t 1 0 → (0 < count k f → (i : ℕ) × (i < k) × (f i ≡ true)) → (i : ℕ) × (i < suc k) × (f i ≡ true)
    go true e l r = (k, omega arith, e)
    go false e l r = let (i, m, q) = r (omega arith) in (i, omega arith, q)

-- An index where it holds is counted.
pub count-pos : (f : ℕ → Bool) (k i : ℕ) → i < k → f i ≡ true → 0 < count k f
unfolding count
count-pos f zero i l e = absurd (omega arith)
count-pos f (suc k) i l e = go (λ m. count-pos f k i m e) (dec_lt i k)
  where
    go : (i < k → 0 < count k f) → Dec (i < k) → 0 < count k f + counted (f k)
    go below (yes m) = let a = below m in omega arith
    go below (no m) = let j : i ≡ k = omega arith in let a : counted (f k) ≡ 1 = ap (λ (n : ℕ). counted (f n)) (sym j) ∙ ap counted e ∙ counted-true in omega arith

-- Two indices count two.
pub count-two : (f : ℕ → Bool) (k i j : ℕ) → i < k → j < k → i ≢ j → f i ≡ true → f j ≡ true → 2 ≤ count k f
count-two f k i j hi hj n ei ej =
    let a = count-change (λ l. f l && not (eqb l i)) f i k hi (λ l m. ap (λ (t : Bool). f l && not t) (ne_eqb l i m) ∙ and-true (f l)) in
    let b = count-pos (λ l. f l && not (eqb l i)) k j hj (rw (ej, ne_eqb j i (λ e. n (sym e)))) in
    let a₁ : counted (f i) ≡ 1 = ap counted ei ∙ counted-true in
    let a₀ : counted (f i && not (eqb i i)) ≡ 0 = rw (eq-eqb i i refl, and-false (f i)) counted-false in
    omega arith
