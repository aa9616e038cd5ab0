-- One minimum finds the winner: of two slots the lower rank is that of the one that goes first, so that the least rank is that of the least key; and it says whom the port is granted.
-- Assumes nothing.
use Prim.Native.Nat.{ℕ, suc, ◌+◌, ◌-◌, ◌*◌, ◌%◌, ◌<◌, ◌≤◌}
use mathlib.Core.Path.{◌≡◌, refl, sym, ap, ◌∙◌}
use mathlib.Core.Bool.{Bool, true, false, cond, not, ◌&&◌, ◌||◌}
use mathlib.Core.List.{List}
use mathlib.Core.Option.{Option, none, some}
use native.Mathlib.Decide.{dec_lt, dec_le}
use native.Mathlib.Nat.{mod-lt}
use native.Mathlib.Omega.{arith}
use lib.Pow.{pow_pos}
use lib.Dec.{leb, ltb}
use lib.IntN.{pos}
use lib.ListN.{replicate, get_or-replicate}
use borrow.Author.Tests.{lt-ltb, le-ltb, lt-leb, le-leb, ltb-true}
use Rattle.rules.specs.Clock.{plus}
use Rattle.rules.specs.Order.{better, least, by, then, Key, on_time_first, comparator, counted}
use Rattle.rules.specs.Areas.{bits, has, Grant, nobody, best_effort, on_time, early}
use Rattle.rules.specs.Board.{Board, Horizon, Time, Mask, clock}
use Rattle.rules.specs.Tick.{is_early, granted, slot_key_of, slot_key, candidate, grant}
use Rattle.rules.proofs.Booleans.{some_inj, none-some}
use Rattle.rules.proofs.ClockLaws.{minus-lt}
use Rattle.rules.proofs.IndexLaws.{least-in}
use Rattle.rules.proofs.Integers.{ltb_iff}
use Rattle.rules.proofs.Masks.{has-zero}
use Rattle.rules.proofs.Offsets.{raised-order}
use Rattle.passes.specs.Ports.{EachPort, changed}
use Rattle.passes.specs.Ranks.{lesser, turn, first_digit, second_digit, key_digits_of, key_digits, slot_rank, no_rank, rank_of, best}
use Rattle.passes.proofs.MaskPorts.{has-low}

-- ---- numbers of two digits

module _ (n x y a b : ℕ) (ha : a < n) (hb : b < n) where
  -- The higher of them decides, and the lower among equals.
  two_digits : ltb (x * n + a) (y * n + b) ≡ (ltb x y || (not (ltb y x) && ltb a b))
  two_digits = go (dec_lt x y) (dec_lt y x)
    where
      less : (u v : ℕ) → u < v → u * n + n ≤ v * n
      less u v h = let e : v * n ≡ (suc u + (v - suc u)) * n = ap (λ (m : ℕ). m * n) (omega arith) in omega arith

      go : Dec (x < y) → Dec (y < x) → ltb (x * n + a) (y * n + b) ≡ (ltb x y || (not (ltb y x) && ltb a b))
      go (yes h) d = let l = less x y h in rw (lt-ltb x y h) (lt-ltb (x * n + a) (y * n + b) (omega arith))
      go (no h) (yes d) = let l = less y x d in rw (le-ltb x y (omega arith), lt-ltb y x d) (le-ltb (x * n + a) (y * n + b) (omega arith))
      go (no h) (no d) =
          let e : x * n ≡ y * n = ap (λ (m : ℕ). m * n) (omega arith) in
          rw (le-ltb x y (omega arith), le-ltb y x (omega arith)) (ltb_iff (x * n + a) (y * n + b) a b (λ l. omega arith) (λ l. omega arith))

-- Where the second doesn't tell them apart the first decides alone.
only-first : (a b : Bool) → (a || (not b && false)) ≡ a
only-first true b = refl
only-first false true = refl
only-first false false = refl

-- Against a number without a lower digit the higher decides alone.
high_digit : (n x m a : ℕ) → a < n → ltb (x * n + a) (m * n) ≡ ltb x m
high_digit n x m a h =
    let z : m * n ≡ m * n + 0 = omega arith in
    ap (ltb (x * n + a)) z ∙ two_digits n x m a 0 h (omega arith) ∙ rw (le-ltb a 0 (omega arith)) (only-first (ltb x m) (ltb m x))

-- ---- numbers of three digits

-- What the comparator may see of a packet: early if e, and two keys from 0 on.
abbrev keys : Bool → ℕ → ℕ → Key
keys e a k = record { early = e; key = pos a; second = pos k }

-- As digits they go as it has them: by the sort, by the key, then by the second key.
three-digits : (n : ℕ) (e d : Bool) (a b k l : ℕ) → a < n → b < n → k < n → l < n → ltb ((counted e * n + a) * n + k) ((counted d * n + b) * n + l) ≡ comparator (keys e a k) (keys d b l)
unfolding comparator then by on_time_first counted
three-digits n e d a b k l ha hb hk hl =
    rw (two_digits n (counted e * n + a) (counted d * n + b) k l hk hl, two_digits n (counted e) (counted d) a b ha hb, two_digits n (counted d) (counted e) b a hb ha) (go e d)
  where
    go : (e d : Bool)
        → (ltb (counted e) (counted d) || (not (ltb (counted d) (counted e)) && ltb a b) || (not (ltb (counted d) (counted e) || (not (ltb (counted e) (counted d)) && ltb b a)) && ltb k l))
        ≡ comparator (keys e a k) (keys d b l)
    go true true = refl
    go true false = refl
    go false true = refl
    go false false = refl

module _ (B : Board) where
  -- Where the early ranks begin; and below what a port sends them: b where best-effort waits, h the horizon.
  abbrev pub early_ranks : ℕ
  early_ranks = turn B * turn B * 256

  abbrev pub bound : Bool → ℕ → ℕ
  bound b h = cond b early_ranks (early_ranks + (h + 1) * (turn B * 256))

module _ (B : Board) where
  open B use {clock_bytes as c, get}

  -- ---- ranks and the comparator

  module _ (s : List ℕ) where
    -- Both keys are below a turn.
    first-lt : (e : Bool) (i : ℕ) → first_digit B e s i < turn B
    first-lt e i = minus-lt (bits c) _ _

    second_lt : (e : Bool) (i : ℕ) → second_digit B e s i < turn B
    unfolding plus
    second_lt true i = minus-lt (bits c) _ _
    second_lt false i = mod-lt _ (pow_pos (bits c))

    -- These digits go as the keys do, offsets in the order of their raised ones.
    digits-order : (i j : ℕ) → ltb (key_digits B s i) (key_digits B s j) ≡ comparator (slot_key B s i) (slot_key B s j)
    unfolding comparator then by on_time_first slot_key
    digits-order i j = go (is_early B s i) (is_early B s j)
      where
        raise : (e d : Bool) → comparator (keys e (first_digit B e s i) (second_digit B e s i)) (keys d (first_digit B d s j) (second_digit B d s j)) ≡ comparator (slot_key_of B e s i) (slot_key_of B d s j)
        raise true true = refl
        raise true false = refl
        raise false true = refl
        raise false false = rw (raised-order c (get s (Time, i)) (get s (Time, j)) (get s clock))

        go : (e d : Bool) → ltb (key_digits_of B e s i) (key_digits_of B d s j) ≡ comparator (slot_key_of B e s i) (slot_key_of B d s j)
        go e d = three-digits (turn B) e d _ _ _ _ (first-lt e i) (first-lt d j) (second_lt e i) (second_lt d j) ∙ raise e d

    -- So the lower rank is that of the slot which goes first: by the comparator, and where it doesn't tell them apart the lower slot.
    pub rank-order : (i j : ℕ) → i < 256 → j < 256 → ltb (slot_rank B s i) (slot_rank B s j) ≡ then (by (slot_key B s) comparator) ltb i j
    unfolding then by
    rank-order i j hi hj = rw (two_digits 256 (key_digits B s i) (key_digits B s j) i j hi hj, digits-order i j, digits-order j i)

    -- Against a lower slot the comparator decides alone.
    rank-higher : (i j : ℕ) → i < 256 → j < i → ltb (slot_rank B s i) (slot_rank B s j) ≡ comparator (slot_key B s i) (slot_key B s j)
    unfolding then by
    rank-higher i j hi h = rank-order i j hi (omega arith) ∙ rw (le-ltb i j (omega arith)) (only-first (comparator (slot_key B s i) (slot_key B s j)) (comparator (slot_key B s j) (slot_key B s i)))

  -- ---- what the tests of a rank tell of its slot

  module _ (s : List ℕ) (i : ℕ) (hi : i < 256) where
    -- Below a multiple of a turn and 256 is a matter of the two higher digits.
    rank_below : (m : ℕ) → ltb (slot_rank B s i) (m * turn B * 256) ≡ ltb (counted (is_early B s i) * turn B + first_digit B (is_early B s i) s i) m
    rank_below m = high_digit 256 (key_digits B s i) (m * turn B) i hi ∙ high_digit (turn B) _ m (second_digit B (is_early B s i) s i) (second_lt s (is_early B s i) i)

    -- So an early rank is from the early ones on, any other below them, and each below that of none.
    rank-sort : ltb (slot_rank B s i) (early_ranks B) ≡ not (is_early B s i)
    unfolding counted
    rank-sort = rank_below (turn B) ∙ go (is_early B s i) (first_digit B (is_early B s i) s i) (first-lt s (is_early B s i) i)
      where
        go : (e : Bool) (x : ℕ) → x < turn B → ltb (counted e * turn B + x) (turn B) ≡ not e
        go true x h = le-ltb (1 * turn B + x) (turn B) (omega arith)
        go false x h = lt-ltb (0 * turn B + x) (turn B) (omega arith)

    rank_lt : slot_rank B s i < no_rank B
    unfolding counted
    rank_lt = ltb-true (slot_rank B s i) (no_rank B) (rank_below (2 * turn B) ∙ go (is_early B s i) (first_digit B (is_early B s i) s i) (first-lt s (is_early B s i) i))
      where
        go : (e : Bool) (x : ℕ) → x < turn B → ltb (counted e * turn B + x) (2 * turn B) ≡ true
        go true x h = lt-ltb (1 * turn B + x) (2 * turn B) (omega arith)
        go false x h = lt-ltb (0 * turn B + x) (2 * turn B) (omega arith)

    -- It has the slot in its lowest digit.
    rank-slot : slot_rank B s i % 256 ≡ i
    rank-slot = omega arith

    -- Where it is early it is below the bound exactly if best-effort doesn't wait and the key is at most the horizon.
    rank-bound : is_early B s i ≡ true → (b : Bool) (h : ℕ) → ltb (slot_rank B s i) (bound B b h) ≡ (not b && leb (first_digit B (is_early B s i) s i) h)
    unfolding counted
    rank-bound e true h = rank-sort ∙ rw e
    rank-bound e false h = let m : bound B false h ≡ (turn B + (h + 1)) * turn B * 256 = omega arith in ap (ltb (slot_rank B s i)) m ∙ rank_below (turn B + (h + 1)) ∙ rw e (go _ (dec_le _ h))
      where
        go : (x : ℕ) → Dec (x ≤ h) → ltb (1 * turn B + x) (turn B + (h + 1)) ≡ leb x h
        go x (yes l) = lt-ltb (1 * turn B + x) (turn B + (h + 1)) (omega arith) ∙ sym (le-leb x h l)
        go x (no l) = le-ltb (1 * turn B + x) (turn B + (h + 1)) (omega arith) ∙ sym (lt-leb x h (omega arith))

  -- ---- the least rank of the slots below i

  -- The least, if there is one, is a slot below n and its key.
  abbrev OfSlot : List ℕ → ℕ → Option (ℕ × Key) → Type 0
  OfSlot s n none = Unit
  OfSlot s n (some (i, k)) = (i < n) × (k ≡ slot_key B s i)

  least-of-slot : (s : List ℕ) (p n : ℕ) → OfSlot s n (least comparator (candidate B s p) n)
  unfolding candidate
  least-of-slot s p n = go (least comparator (candidate B s p) n) refl
    where
      keyed : (t : Bool) (i : ℕ) (k : Key) → cond t (some (slot_key B s i)) none ≡ some k → k ≡ slot_key B s i
      keyed true i k e = sym (some_inj e)
      keyed false i k e = none-some e

      go : (v : Option (ℕ × Key)) → least comparator (candidate B s p) n ≡ v → OfSlot s n v
      go none e = tt
      go (some (i, k)) e = let h = least-in comparator (candidate B s p) n i k e in (h.0, keyed (has (get s (Mask, i)) p) i k h.1)

  -- The lesser rank is that of the better key.
  rank-better : (s : List ℕ) (i : ℕ) → i < 256 → (v : Option (ℕ × Key)) → OfSlot s i v → lesser (slot_rank B s i) (rank_of B s v) ≡ rank_of B s (better comparator v i (some (slot_key B s i)))
  unfolding better rank_of
  rank-better s i h none o = rw (lt-ltb (slot_rank B s i) (no_rank B) (rank_lt s i h))
  rank-better s i h (some (j, l)) (hj, q) = rw (rank-higher s i j h hj, q) (go (comparator (slot_key B s i) (slot_key B s j)))
    where
      go : (t : Bool) → cond t (slot_rank B s i) (slot_rank B s j) ≡ rank_of B s (cond t (some (i, slot_key B s i)) (some (j, slot_key B s j)))
      go true = refl
      go false = refl

  -- A slot that the port doesn't look at leaves it.
  best-without : (s : List ℕ) (i p : ℕ) → has (get s (Mask, i)) p ≡ false → best B s i p ≡ best B s (suc i) p
  unfolding best least candidate better
  best-without s i p z = rw z (go (least comparator (candidate B s p) i))
    where
      go : (v : Option (ℕ × Key)) → rank_of B s v ≡ rank_of B s (better comparator v i none)
      go none = refl
      go (some w) = refl

  -- Any other makes it the lesser.
  best-with : (s : List ℕ) (i p : ℕ) → i < 256 → has (get s (Mask, i)) p ≡ true → lesser (slot_rank B s i) (best B s i p) ≡ best B s (suc i) p
  unfolding best least candidate
  best-with s i p h z = rw z (rank-better s i h (least comparator (candidate B s p) i) (least-of-slot s p i))

  -- ---- the least ranks of the five ports

  -- No slot looked at.
  pub bests-start : (s : List ℕ) → EachPort (best B s 0) (replicate 5 (no_rank B))
  unfolding best least rank_of
  bests-start s = record { five = refl; each = λ p h. get_or-replicate 5 p (no_rank B) 0 h }

  -- Slot i looked at, of whose mask m the code tests the five low bits, and offered to the ports there.
  module _ (s : List ℕ) (i : ℕ) (h : i < 256) (m : ℕ) (em : m ≡ get s (Mask, i)) (l : List ℕ) (E : EachPort (best B s i) l) where
    low : (p : ℕ) → p < 5 → (t : Bool) → has (m % 32) p ≡ t → has (get s (Mask, i)) p ≡ t
    low p hp t e = ap (λ (x : ℕ). has x p) (sym em) ∙ sym (has-low m p hp) ∙ e

    pub bests-suc : (r : ℕ) → r ≡ slot_rank B s i → (l' : List ℕ) → EachPort (changed (lesser r) (m % 32) l) l' → EachPort (best B s (suc i)) l'
    bests-suc r er l' O = record { five = O.five; each = λ p hp. O.each p hp ∙ rw (er, E.each p hp) (go p hp (has (m % 32) p) refl) }
      where
        go : (p : ℕ) → p < 5 → (t : Bool) → has (m % 32) p ≡ t → cond t (lesser (slot_rank B s i) (best B s i p)) (best B s i p) ≡ best B s (suc i) p
        go p hp true e = best-with s i p h (low p hp true e)
        go p hp false e = best-without s i p (low p hp false e)

    pub bests-none : m % 32 ≡ 0 → EachPort (best B s (suc i)) l
    bests-none z = record { five = E.five; each = λ p hp. E.each p hp ∙ best-without s i p (low p hp false (rw z (has-zero p hp))) }

  -- An empty slot changes none.
  pub best-empty : (s : List ℕ) (p : ℕ) → p < 5 → (i : ℕ) → i < 256 → get s (Mask, i) ≡ 0 → best B s i p ≡ best B s (suc i) p
  best-empty s p hp i h z = best-without s i p (rw z (has-zero p hp))

  -- ---- whom the least rank grants the port, by the tests of the code

  -- Where best-effort waits if b, and the horizon is h.
  grant_of_rank : Bool → ℕ → ℕ → Grant ℕ
  grant_of_rank b h r = cond (ltb r (early_ranks B)) (on_time (r % 256)) (cond (ltb r (no_rank B) && ltb r (bound B b h)) (early (r % 256)) (cond b best_effort nobody))

  -- By cases of the sort: the tests tell it, and whether an early slot is sent.
  granted-by-rank : (s : List ℕ) (v : Option (ℕ × Key)) → OfSlot s 256 v → (b : Bool) (h : ℕ) → grant_of_rank b h (rank_of B s v) ≡ granted v b h
  unfolding grant_of_rank rank_of granted slot_key
  granted-by-rank s none o b h = rw (le-ltb (no_rank B) (early_ranks B) (omega arith), le-ltb (no_rank B) (no_rank B) (omega arith))
  granted-by-rank s (some (i, k)) (hi, q) b h =
      rw (q, rank-sort s i hi, lt-ltb (slot_rank B s i) (no_rank B) (rank_lt s i hi), rank-slot s i hi) (go (is_early B s i) refl (ltb (slot_rank B s i) (bound B b h)) (λ e. rank-bound s i hi e b h))
    where
      go : (e : Bool) → is_early B s i ≡ e → (t : Bool) → (is_early B s i ≡ true → t ≡ (not b && leb (first_digit B (is_early B s i) s i) h))
          → cond (not e) (on_time i) (cond t (early i) (cond b best_effort nobody)) ≡ cond e (cond b best_effort (cond (leb (first_digit B (is_early B s i) s i) h) (early i) nobody)) (on_time i)
      go false e t f = refl
      go true e t f = rw (f e) (sent b (leb (first_digit B (is_early B s i) s i) h))
        where
          sent : (b a : Bool) → cond (not b && a) (early i) (cond b best_effort nobody) ≡ cond b best_effort (cond a (early i) nobody)
          sent true a = refl
          sent false true = refl
          sent false false = refl

  module _ (s : List ℕ) (waiting p r : ℕ) (er : r ≡ best B s 256 p) where
    -- The horizon is h, and best-effort waits if b.
    by_rank : (b : Bool) → b ≡ has waiting p → (h : ℕ) → h ≡ get s (Horizon, p) → grant_of_rank b h r ≡ grant B s waiting p
    unfolding grant best
    by_rank b eb h eh = rw (er, eb, eh) (granted-by-rank s (least comparator (candidate B s p) 256) (least-of-slot s p 256) (has waiting p) (get s (Horizon, p)))

    pub grants-on-time : r < early_ranks B → on_time (r % 256) ≡ grant B s waiting p
    unfolding grant_of_rank
    grants-on-time l = rw (lt-ltb r (early_ranks B) l) at (by_rank _ refl _ refl)

    module _ (b : Bool) (eb : b ≡ has waiting p) where
      pub grants-none : no_rank B ≤ r → cond b best_effort nobody ≡ grant B s waiting p
      unfolding grant_of_rank
      grants-none l = rw (le-ltb r (early_ranks B) (omega arith), le-ltb r (no_rank B) l) at (by_rank b eb _ refl)

      -- m is the bound of the early ranks that the port sends.
      module _ (h : ℕ) (eh : h ≡ get s (Horizon, p)) (m : ℕ) (em : m ≡ bound B b h) (low : early_ranks B ≤ r) (high : r < no_rank B) where
        bounded : cond (ltb r m) (early (r % 256)) (cond b best_effort nobody) ≡ grant B s waiting p
        unfolding grant_of_rank
        bounded = rw (le-ltb r (early_ranks B) low, lt-ltb r (no_rank B) high, ← em) at (by_rank b eb h eh)

        pub grants-early : r < m → early (r % 256) ≡ grant B s waiting p
        grants-early l = rw (lt-ltb r m l) at bounded

        pub grants-unsent : m ≤ r → cond b best_effort nobody ≡ grant B s waiting p
        grants-unsent l = rw (le-ltb r m l) at bounded
