-- States of a lawful board by what their fields read: what a store leaves, and the idle stack. Assumes nothing.
use Prim.Native.Nat.{ℕ, zero, suc, ◌<◌, ◌≤◌}
use mathlib.Core.Path.{◌≡◌, refl, sym, ap, ap₂, ◌∙◌}
use mathlib.Core.Bool.{Bool, true, false, cond, ◌&&◌, true≢false, and-false}
use mathlib.Core.List.{List, ◌∷◌}
use native.Mathlib.Decide.{ℕ_discrete}
use native.Mathlib.Omega.{arith}
use lib.ListN.{length}
use lib.Dec.{ltb, eqb}
use borrow.Author.Tests.{eq-eqb, ne_eqb, lt-ltb, le-ltb}
use Rattle.rules.specs.Board.{Board, Kind, Idle, Field, free}
use Rattle.rules.specs.Order.{top_first}
use Rattle.rules.specs.Questions.{stack}
use Rattle.rules.proofs.BoardLaws.{Laws, same_kind, same_field, Valid}
use Rattle.rules.proofs.TableLaws.{same_kind-differ}
use Rattle.rules.proofs.Integers.{ltb_iff}

-- Equal entries make equal stacks.
pub top_first-same : (f g : ℕ → ℕ) (n : ℕ) → ((i : ℕ) → i < n → f i ≡ g i) → top_first f n ≡ top_first g n
unfolding top_first
top_first-same f g zero h = refl
top_first-same f g (suc n) h = ap₂ (λ (x : ℕ) (l : List ℕ). x ∷ l) (h n (omega arith)) (top_first-same f g n (λ i l. h i (omega arith)))

-- A stack of n has n entries.
pub length-top_first : (f : ℕ → ℕ) (n : ℕ) → length (top_first f n) ≡ n
unfolding top_first
length-top_first f zero = refl
length-top_first f (suc n) = ap suc (length-top_first f n)

-- No kind of field is left out.
abbrev pub none_out : Kind → Bool
none_out k = false

module _ (B : Board) (L : Laws B) where
  open B use {state_length, get, put}

  -- ---- what the fields of a state read

  -- The state has its length, and its fields read as σ says, but for those of the kinds t.
  pub record Reads (t : Kind → Bool) (s : List ℕ) (σ : Field → ℕ) : Type 0 where
    pub sized : length s ≡ state_length
    pub reads : (f : Field) → t f.0 ≡ false → Valid f → get s f ≡ σ f

  -- A state reads as itself.
  pub reads_self : {t : Kind → Bool} (s : List ℕ) → length s ≡ state_length → Reads t s (get s)
  reads_self s e = record { sized = e; reads = λ f q v. refl }

  -- Readings that agree.
  pub reads_as : {t : Kind → Bool} {s : List ℕ} {σ τ : Field → ℕ} → Reads t s σ → ((f : Field) → t f.0 ≡ false → Valid f → σ f ≡ τ f) → Reads t s τ
  reads_as R h = record { sized = R.sized; reads = λ f e v. R.reads f e v ∙ h f e v }

  -- What reads as the state s reads as s does.
  pub reads-through : {t : Kind → Bool} {s s' : List ℕ} {σ : Field → ℕ} → Reads t s' (get s) → Reads t s σ → Reads t s' σ
  reads-through R S = reads_as R S.reads

  -- A whole reading leaves out what one likes.
  pub reads-less : {t : Kind → Bool} {s : List ℕ} {σ : Field → ℕ} → Reads none_out s σ → Reads t s σ
  reads-less R = record { sized = R.sized; reads = λ f e v. R.reads f refl v }

  -- A field stored: it reads as stored, and any other as before.
  pub reads-put : {t : Kind → Bool} {s : List ℕ} {σ : Field → ℕ} → Reads t s σ → (g : Field) (v : ℕ) → Valid g → Reads t (put s g v) (λ f. cond (same_field g f) v (σ f))
  reads-put {s = s} R g v valid = record {
    sized = L.length-put s g v ∙ R.sized;
    reads = λ f e w. L.get-put s g v f R.sized valid w ∙ ap (cond (same_field g f) v) (R.reads f e w);
  }

  -- Changes in a kind that is left out do not show.
  pub reads-apart : {t : Kind → Bool} {s : List ℕ} {σ : Field → ℕ} (k : Kind) (b : Field → Bool) (v : ℕ) → t k ≡ true → Reads t s (λ f. cond (same_kind k f.0 && b f) v (σ f)) → Reads t s σ
  reads-apart {t} {σ = σ} k b v h R = reads_as R (λ f e w. ap (λ (x : Bool). cond (x && b f) v (σ f)) (same_kind-differ k f.0 (λ q. true≢false (sym h ∙ ap t q ∙ e))))

  -- Nor does a store.
  pub reads-off : {t : Kind → Bool} {s : List ℕ} {σ : Field → ℕ} → Reads t s σ → (g : Field) (v : ℕ) → Valid g → t g.0 ≡ true → Reads t (put s g v) σ
  reads-off R (k, i) v valid h = reads-apart k (λ f. eqb i f.1) v h (reads-put R (k, i) v valid)

  -- ---- v stored in the fields of one kind with a test b i, one index after the other

  module _ (k : Kind) (b : ℕ → Bool) (v : ℕ) (σ : Field → ℕ) where
    -- The reading after the indices below n.
    abbrev pub marked : ℕ → Field → ℕ
    marked n f = cond (same_kind k f.0 && (ltb f.1 n && b f.1)) v (σ f)

    -- At first it is the one met.
    pub marked-none : {t : Kind → Bool} {s : List ℕ} → Reads t s σ → Reads t s (marked 0)
    marked-none R = reads_as R (λ f e w. sym (rw (le-ltb f.1 0 (omega arith), and-false (same_kind k f.0))))

    -- One more index.
    pub marked_next : {t : Kind → Bool} {s : List ℕ} (n : ℕ) → Reads t s (marked n) → Valid (k, n) → Reads t (cond (b n) (put s (k, n) v) s) (marked (suc n))
    marked_next {t} {s} n R valid = reads_as (stored (b n)) (λ f e w. step f (ℕ_discrete f.1 n))
      where
        stored : (d : Bool) → Reads t (cond d (put s (k, n) v) s) (λ f. cond (d && same_field (k, n) f) v (marked n f))
        stored true = reads-put R (k, n) v valid
        stored false = R

        here : (a d : Bool) (x : ℕ) → cond (d && (a && true)) v (cond (a && false) v x) ≡ cond (a && d) v x
        here true true x = refl
        here true false x = refl
        here false true x = refl
        here false false x = refl

        away : (a d : Bool) (x : ℕ) → cond (d && (a && false)) v x ≡ x
        away true true x = refl
        away false true x = refl
        away a false x = refl

        step : (f : Field) → Dec (f.1 ≡ n) → cond (b n && (same_kind k f.0 && eqb n f.1)) v (marked n f) ≡ marked (suc n) f
        step f (yes e) = rw (e, eq-eqb n n refl, le-ltb n n (omega arith), lt-ltb n (suc n) (omega arith)) (here (same_kind k f.0) (b n) (σ (f.0, n)))
        step f (no e) = rw (ne_eqb n f.1 (λ q. e (sym q)), ltb_iff f.1 (suc n) f.1 n (omega arith) (omega arith)) (away (same_kind k f.0) (b n) (marked n f))

  -- ---- the idle stack

  -- The stack stays where the count and the entries do.
  pub stack_same : (s s' : List ℕ) → get s free ≤ 256 → get s' free ≡ get s free → ((i : ℕ) → i < 256 → get s' (Idle, i) ≡ get s (Idle, i)) → stack B s' ≡ stack B s
  unfolding stack
  stack_same s s' l e h =
      ap (top_first (λ i. get s' (Idle, i))) e ∙ top_first-same (λ i. get s' (Idle, i)) (λ i. get s (Idle, i)) (get s free) (λ i m. h i (omega arith))

  -- The free count is the height of the stack.
  pub length-stack : (s : List ℕ) → length (stack B s) ≡ get s free
  unfolding stack
  length-stack s = length-top_first (λ i. get s (Idle, i)) (get s free)
