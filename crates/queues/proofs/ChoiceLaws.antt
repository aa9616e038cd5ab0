-- A port's choice by its queues is the comparator's: the slot that goes before all others that wait for the port has the least key, ties to the lower slot, and it is the first of the
-- on-time queue, or of the early one where that is empty. Assumes nothing.
use Prim.Native.Nat.{ℕ, zero, suc, ◌<◌, ◌≤◌}
use mathlib.Core.Path.{◌≡◌, refl, sym, ap, ap₂, ◌∙◌}
use mathlib.Core.Bool.{Bool, true, false, cond, not, ◌&&◌, beq, true≢false}
use mathlib.Core.Logic.{◌≢◌, ◌⊎◌, ⊎_elim}
use mathlib.Core.List.{List, [], ◌∷◌}
use mathlib.Core.Option.{Option, none, some}
use native.Mathlib.Decide.{ℕ_discrete}
use native.Mathlib.Omega.{arith}
use lib.Dec.{ltb}
use lib.IntN.{pos}
use lib.Signed.{le_z}
use borrow.Author.Tests.{lt-ltb, ltb-true}
use Rattle.rules.specs.Order.{Key, comparator, least, top_first}
use Rattle.rules.specs.Areas.{has, Grant, nobody, best_effort, on_time, early}
use Rattle.rules.specs.Board.{Board, Horizon, Mask}
use Rattle.rules.specs.Tick.{granted, is_early, slot_key, candidate, grant}
use Rattle.rules.proofs.Booleans.{some_inj, none-some, and_left, and_right, beq-eq, eq-beq}
use Rattle.rules.proofs.OrderLaws.{strict-comparator, least-beats}
use Rattle.rules.proofs.IndexLaws.{least-in}
use Rattle.rules.proofs.Soundness.{elem_at}
use Rattle.queues.specs.Table1.{before, waits, Holds}
use Rattle.queues.specs.Area.{queue, size, entry, in_queue}
use Rattle.queues.specs.Engine.{first_of, first, heading, table_grant, queue_grant}
use Rattle.queues.proofs.ListLaws.{first_slot, first-before, none_passes}
use Rattle.queues.proofs.BeforeLaws.{goes, before-goes, before-early}

-- A slot that the grant names is the first of lo, on time, or of le, early.
abbrev pub Firsts : List ℕ → List ℕ → Grant ℕ → Type 0
Firsts lo le nobody = Unit {0}
Firsts lo le best_effort = Unit {0}
Firsts lo le (on_time i) = (l : List ℕ) × (lo ≡ i ∷ l)
Firsts lo le (early i) = (l : List ℕ) × (le ≡ i ∷ l)

module _ (B : Board) where
  open B use {get}

  -- ---- the slots that wait for a port

  -- A slot that waits is one of the 256, has the port in its mask, and is of the sort.
  pub waits-slot : (s : List ℕ) (p : ℕ) (e : Bool) (i : ℕ) → waits B s p e i ≡ true → (i < 256) × (has (get s (Mask, i)) p ≡ true) × (is_early B s i ≡ e)
  unfolding waits
  waits-slot s p e i h =
      let a = ltb i 256 in
      let b = has (get s (Mask, i)) p in
      let d = beq (is_early B s i) e in
      let r = and_right a (b && d) h in
      (ltb-true i 256 (and_left a (b && d) h), and_left b d r, beq-eq (is_early B s i) e (and_right b d r))

  -- And such a slot waits.
  pub slot-waits : (s : List ℕ) (p : ℕ) (i : ℕ) → i < 256 → has (get s (Mask, i)) p ≡ true → (e : Bool) → is_early B s i ≡ e → waits B s p e i ≡ true
  unfolding waits
  slot-waits s p i l h e q = rw (lt-ltb i 256 l, h) (eq-beq (is_early B s i) e q)

  module _ (s : List ℕ) (p : ℕ) where
    -- Whom the comparator chooses.
    abbrev winner : Option (ℕ × Key)
    winner = least comparator (candidate B s p) 256

    -- The port looks at the slots that wait for it.
    candidate-key : (i : ℕ) → has (get s (Mask, i)) p ≡ true → candidate B s p i ≡ some (slot_key B s i)
    unfolding candidate
    candidate-key i h = rw h

    -- And at no others.
    key-candidate : (i : ℕ) (k : Key) → candidate B s p i ≡ some k → (has (get s (Mask, i)) p ≡ true) × (slot_key B s i ≡ k)
    unfolding candidate
    key-candidate i k e = go (has (get s (Mask, i)) p) e
      where
        go : (t : Bool) → cond t (some (slot_key B s i)) none ≡ some k → (t ≡ true) × (slot_key B s i ≡ k)
        go true e = (refl, some_inj e)
        go false e = none-some e

    -- The slot that goes before every other that waits has the least key: were it another's, that slot would be higher, and so its key less.
    winner-first : (i : ℕ) → i < 256 → has (get s (Mask, i)) p ≡ true → ((j : ℕ) → j < 256 → has (get s (Mask, j)) p ≡ true → j ≢ i → before B s i j ≡ true) → winner ≡ some (i, slot_key B s i)
    winner-first i l h earlier =
        let (j, y, e, f, o) = least-beats strict-comparator (candidate B s p) 256 i (slot_key B s i) l (candidate-key i h) in
        let (m, q) = least-in comparator (candidate B s p) 256 j y e in
        let (g, r) = key-candidate j y q in
        go j y e f o m g r (ℕ_discrete j i)
      where
        go : (j : ℕ) (y : Key) → winner ≡ some (j, y) → comparator (slot_key B s i) y ≡ false → (comparator y (slot_key B s i) ≡ true) ⊎ (j ≤ i) → j < 256 → has (get s (Mask, j)) p ≡ true → slot_key B s j ≡ y → Dec (j ≡ i) → winner ≡ some (i, slot_key B s i)
        go j y e f o m g r (yes d) = e ∙ ap₂ (λ (j : ℕ) (y : Key). some (j, y)) d (sym r ∙ ap (slot_key B s) d)
        go j y e f o m g r (no n) =
            let z : goes (slot_key B s i) y (ltb i j) ≡ true = ap (λ (k : Key). goes (slot_key B s i) k (ltb i j)) (sym r) ∙ sym (before-goes B s i j) ∙ earlier j m g n in
            absurd (lower (comparator y (slot_key B s i)) (ltb i j) refl refl (rw f at z))
          where
            lower : (a b : Bool) → comparator y (slot_key B s i) ≡ a → ltb i j ≡ b → (not a && b) ≡ true → ⊥
            lower true b u v z = true≢false (sym z)
            lower false false u v z = true≢false (sym z)
            lower false true u v z = ⊎_elim (λ d. true≢false (sym d ∙ u)) (λ d. let l = ltb-true i j v in omega arith) o

    -- With none on time, every slot that waits is early.
    all-early : Holds B s p false [] → (j : ℕ) → j < 256 → has (get s (Mask, j)) p ≡ true → waits B s p true j ≡ true
    all-early lo j m g = go (is_early B s j) refl
      where
        go : (t : Bool) → is_early B s j ≡ t → waits B s p true j ≡ true
        go true q = slot-waits s p j m g true q
        go false q = absurd (true≢false (sym (slot-waits s p j m g false q) ∙ none_passes lo j))

    -- ---- whom the first of the queues grants the port, where best-effort waits if b and the horizon is h

    module _ (b : Bool) (h : ℕ) where
      -- The first on time.
      granted-on-time : {i : ℕ} {l : List ℕ} → Holds B s p false (i ∷ l) → granted winner b h ≡ on_time i
      unfolding granted slot_key
      granted-on-time {i} {l} lo =
          let (m, g, e) = waits-slot s p false i (first_slot lo) in
          rw (winner-first i m g (λ j m' g' n. earlier e j m' g' n (is_early B s j) refl), e)
        where
          earlier : is_early B s i ≡ false → (j : ℕ) → j < 256 → has (get s (Mask, j)) p ≡ true → j ≢ i → (t : Bool) → is_early B s j ≡ t → before B s i j ≡ true
          earlier e j m g n true q = before-early B s i j e q
          earlier e j m g n false q = first-before lo j (slot-waits s p j m g false q) n

      -- The first early one, after best-effort and within the horizon.
      granted-early : {i : ℕ} {l : List ℕ} → Holds B s p false [] → Holds B s p true (i ∷ l) → granted winner b h ≡ cond b best_effort (cond (le_z (slot_key B s i).key (pos h)) (early i) nobody)
      unfolding granted slot_key
      granted-early {i} {l} lo le =
          let (m, g, e) = waits-slot s p true i (first_slot le) in
          rw (winner-first i m g (λ j m' g' n. first-before le j (all-early lo j m' g') n), e)

      -- Best-effort or nobody, where no slot waits.
      granted-none : Holds B s p false [] → Holds B s p true [] → granted winner b h ≡ cond b best_effort nobody
      unfolding granted
      granted-none lo le = go winner refl
        where
          go : (v : Option (ℕ × Key)) → winner ≡ v → granted v b h ≡ cond b best_effort nobody
          go none e = refl
          go (some (j, y)) e =
              let (m, q) = least-in comparator (candidate B s p) 256 j y e in
              absurd (true≢false (sym (all-early lo j m (key-candidate j y q).0) ∙ none_passes le j))

    -- ---- the first of a queue

    -- Every slot of a queue waits for the port.
    entry-waits : (e : Bool) (x : List ℕ) (n k : ℕ) → Holds B s p e (top_first (entry x) n) → k < n → has (get s (Mask, entry x k)) p ≡ true
    entry-waits e x n k L h = (waits-slot s p e (entry x k) (sym (L.slots (entry x k)) ∙ elem_at (entry x) (entry x k) n k h refl)).1

    -- A slot that waits is kept, and where there is none there is none.
    heading-waits : (i : ℕ) → has (get s (Mask, i)) p ≡ true → heading B s p (some i) ≡ some i
    unfolding heading
    heading-waits i h = rw h

    heading-none : heading B s p none ≡ none
    unfolding heading
    heading-none = refl

    -- So the first of a queue is.
    heading-first : (e : Bool) (x : List ℕ) (n : ℕ) → Holds B s p e (top_first (entry x) n) → heading B s p (first_of n x) ≡ first_of n x
    unfolding first_of
    heading-first e x zero L = heading-none
    heading-first e x (suc n) L = heading-waits _ (entry-waits e x (suc n) _ L (omega arith))

    -- Of a queue x on time and an early one y.
    module _ (x y : List ℕ) (b : Bool) where
      -- They grant the port to the comparator's choice.
      table_same : (n m : ℕ) → Holds B s p false (top_first (entry x) n) → Holds B s p true (top_first (entry y) m)
          → table_grant B s p b (first_of n x) (first_of m y) ≡ granted winner b (get s (Horizon, p))
      unfolding table_grant first_of top_first
      table_same zero zero lo le = sym (granted-none b (get s (Horizon, p)) lo le)
      table_same zero (suc m) lo le = sym (granted-early b (get s (Horizon, p)) lo le)
      table_same (suc n) m lo le = sym (granted-on-time b (get s (Horizon, p)) lo)

      -- A slot that they grant it to is the first of its queue.
      table-first : (n m : ℕ) → Firsts (top_first (entry x) n) (top_first (entry y) m) (table_grant B s p b (first_of n x) (first_of m y))
      unfolding table_grant first_of top_first
      table-first zero zero = go b
        where
          go : (b : Bool) → Firsts [] [] (cond b best_effort nobody)
          go true = tt
          go false = tt
      table-first zero (suc m) = go b (le_z (slot_key B s (entry y m)).key (pos (get s (Horizon, p))))
        where
          go : (b d : Bool) → Firsts [] (entry y m ∷ top_first (entry y) m) (cond b best_effort (cond d (early (entry y m)) nobody))
          go true d = tt
          go false true = (top_first (entry y) m, refl)
          go false false = tt
      table-first (suc n) m = (top_first (entry x) n, refl)

  -- ---- the choice by the queues

  module _ (s q : List ℕ) (waiting p : ℕ) (lo : Holds B s p false (in_queue (queue q p false))) (le : Holds B s p true (in_queue (queue q p true))) where
    -- The first ones wait.
    queue-table : queue_grant B s q waiting p ≡ table_grant B s p (has waiting p) (first (queue q p false)) (first (queue q p true))
    unfolding queue_grant in_queue
    queue-table = ap₂ (table_grant B s p (has waiting p)) (heading-first s p false (queue q p false) (size (queue q p false)) lo) (heading-first s p true (queue q p true) (size (queue q p true)) le)

    -- It is the comparator's.
    pub choice-same : queue_grant B s q waiting p ≡ grant B s waiting p
    unfolding grant in_queue
    choice-same = queue-table ∙ table_same s p (queue q p false) (queue q p true) (has waiting p) (size (queue q p false)) (size (queue q p true)) lo le

    -- A slot that the port is granted to is the first of its queue.
    pub choice-first : Firsts (in_queue (queue q p false)) (in_queue (queue q p true)) (queue_grant B s q waiting p)
    unfolding in_queue
    choice-first = rw queue-table (table-first s p (queue q p false) (queue q p true) (has waiting p) (size (queue q p false)) (size (queue q p true)))
