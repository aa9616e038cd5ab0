-- Tests that hold or fail, and what a test says, by cases of the test. Assumes nothing.
use Prim.Native.Nat.{ℕ, suc}
use mathlib.Core.Path.{◌≡◌, refl, sym, ap₂, subst}
use mathlib.Core.Bool.{Bool, true, false, cond, not, ◌&&◌, ◌||◌, beq, true≢false}
use mathlib.Core.List.{List, [], ◌∷◌, ◌++◌}
use mathlib.Core.Option.{none, some}
use native.Mathlib.Omega.{arith}
use lib.Dec.{T, eqb}
use Rattle.rules.specs.Areas.{asked}

-- ---- a test and its proposition

-- By the two cases, as all that follows.
pub true→T : (t : Bool) → t ≡ true → T t
true→T true e = tt
true→T false e = absurd (true≢false (sym e))

pub T→true : (t : Bool) → T t → t ≡ true
T→true true h = refl
T→true false h = absurd h

-- A test that can't hold fails.
pub ¬T→false : (t : Bool) → (T t → ⊥) → t ≡ false
¬T→false true f = absurd (f tt)
¬T→false false f = refl

-- Tests that say the same are equal.
pub same_test : (s t : Bool) → (T s → T t) → (T t → T s) → s ≡ t
same_test true t f g = sym (T→true t (f tt))
same_test false t f g = sym (¬T→false t g)

-- ---- connectives

pub and_left : (a b : Bool) → (a && b) ≡ true → a ≡ true
and_left true b e = refl
and_left false b e = e

pub and_right : (a b : Bool) → (a && b) ≡ true → b ≡ true
and_right true b e = e
and_right false b e = absurd (true≢false (sym e))

pub and_both : (a b : Bool) → a ≡ true → b ≡ true → (a && b) ≡ true
and_both a b p q = ap₂ (λ (x y : Bool). x && y) p q

pub or_right : (a b : Bool) → b ≡ true → (a || b) ≡ true
or_right true b e = refl
or_right false b e = e

pub not-false : (t : Bool) → not t ≡ true → t ≡ false
not-false true e = sym e
not-false false e = refl

pub beq-eq : (a b : Bool) → beq a b ≡ true → a ≡ b
beq-eq true true e = refl
beq-eq true false e = absurd (true≢false (sym e))
beq-eq false true e = absurd (true≢false (sym e))
beq-eq false false e = refl

pub eq-beq : (a b : Bool) → a ≡ b → beq a b ≡ true
eq-beq a b e = subst (λ (x : Bool). beq a x ≡ true) e (go a)
  where
    go : (x : Bool) → beq x x ≡ true
    go true = refl
    go false = refl

-- ---- questions

-- Where questions give 0, the first is passed and the rest give 0.
pub asked-passed : (passed : Bool) (n : ℕ) (qs : List (Bool × ℕ)) → asked ((passed, suc n) ∷ qs) ≡ 0 → (passed ≡ true) × (asked qs ≡ 0)
unfolding asked
asked-passed true n qs e = (refl, e)
asked-passed false n qs e = absurd (omega arith)

-- No question has the number 0.
abbrev pub numbered : List (Bool × ℕ) → Bool
numbered [] = true
numbered ((passed, n) ∷ ps) = not (eqb n 0) && numbered ps

-- The questions after others decide where these give 0, and nothing elsewhere.
pub asked-append : (ps qs : List (Bool × ℕ)) → numbered ps ≡ true → asked (ps ++ qs) ≡ cond (eqb (asked ps) 0) (asked qs) (asked ps)
unfolding asked
asked-append [] qs h = refl
asked-append ((true, n) ∷ ps) qs h = asked-append ps qs (and_right (not (eqb n 0)) (numbered ps) h)
asked-append ((false, n) ∷ ps) qs h = rw (not-false (eqb n 0) (and_left (not (eqb n 0)) (numbered ps) h))

-- ---- constructors are one-to-one, and differ

pub some_inj : {A : Type 0} {x y : A} → some x ≡ some y → x ≡ y
some_inj e = cc

pub none-some : {A C : Type 0} {x : A} → none ≡ some x → C
none-some e = let z : ◌≡◌ {A = ℕ} 0 1 = cc in absurd (omega arith)

pub cons-first : {A : Type 0} {a b : A} {x y : List A} → a ∷ x ≡ b ∷ y → a ≡ b
cons-first e = cc

pub cons-rest : {A : Type 0} {a b : A} {x y : List A} → a ∷ x ≡ b ∷ y → x ≡ y
cons-rest e = cc

pub nil-cons : {A C : Type 0} {b : A} {y : List A} → [] ≡ b ∷ y → C
nil-cons e = let z : ◌≡◌ {A = ℕ} 0 1 = cc in absurd (omega arith)
