-- A field of a board given by its table, as code reads and stores it: one byte, or two, high first. Assumes nothing.
use Prim.Native.Nat.{ℕ, zero, suc, ◌+◌, ◌*◌, ◌/◌, ◌%◌, ◌<◌}
use mathlib.Core.Path.{◌≡◌, refl, ap}
use mathlib.Core.List.{List, [], ◌∷◌}
use native.Mathlib.Nat.{add-zero, add-suc, suc-add}
use native.Mathlib.Omega.{arith}
use lib.ListN.{length, take, drop, set}
use lib.Seq.{sets, set-get_or, get_or-take, get_or-drop}
use Rattle.rules.specs.Areas.{value, digits, byte, packet, stamp, payload, packed, half}
use Rattle.rules.specs.Board.{Field, get_at, put_at}

-- ---- numbers of one byte and of two

-- By induction to the place.
value-one : (p : ℕ) (s : List ℕ) → value (take 1 (drop p s)) ≡ byte s p
unfolding value
value-one zero [] = refl
value-one zero (x ∷ s) = omega arith
value-one (suc p) [] = refl
value-one (suc p) (x ∷ s) = value-one p s

value-two : (p : ℕ) (s : List ℕ) → suc p < length s → value (take 2 (drop p s)) ≡ byte s p * 256 + byte s (suc p)
unfolding value
value-two zero [] h = absurd (omega arith)
value-two zero (x ∷ []) h = absurd (omega arith)
value-two zero (x ∷ y ∷ s) h = omega arith
value-two (suc p) [] h = absurd (omega arith)
value-two (suc p) (x ∷ s) h = value-two p s (omega arith)

digits-one : (v : ℕ) → digits 1 v ≡ v ∷ []
unfolding digits
digits-one v = ap (λ (x : ℕ). x ∷ []) (omega arith)

digits-two : (v : ℕ) → digits 2 v ≡ v / 256 ∷ v % 256 ∷ []
unfolding digits
digits-two v = ap (λ (x : ℕ). v / 256 ∷ x ∷ []) (omega arith)

-- ---- fields

module _ (table : Field → ℕ × ℕ) (s : List ℕ) (f : Field) where
  -- A field of one byte is that byte, and its store is the store of it.
  module _ (one : (table f).1 ≡ 1) where
    pub get-one : get_at table s f ≡ byte s (table f).0
    unfolding get_at
    get-one = rw one (value-one (table f).0 s)

    pub put_one : (v : ℕ) → put_at table s f v ≡ set s (table f).0 v
    unfolding put_at
    put_one v = rw (one, digits-one v)

    -- Stored as it reads, it leaves the state.
    pub put_at-own : put_at table s f (get_at table s f) ≡ s
    put_at-own = rw (put_one (get_at table s f), get-one) (set-get_or s (table f).0 0)

  -- A field of two bytes.
  module _ (two : (table f).1 ≡ 2) where
    pub get-two : suc (table f).0 < length s → get_at table s f ≡ byte s (table f).0 * 256 + byte s (suc (table f).0)
    unfolding get_at
    get-two h = rw two (value-two (table f).0 s h)

    pub put_two : (v : ℕ) → put_at table s f v ≡ set (set s (table f).0 (v / 256)) (suc (table f).0) (v % 256)
    unfolding put_at
    put_two v = rw (two, digits-two v)

-- ---- copies and packets

-- One more byte of a run of stores.
pub sets-snoc : (d s : List ℕ) (at j : ℕ) → j < length s → set (sets d at (take j s)) (at + j) (byte s j) ≡ sets d at (take (suc j) s)
sets-snoc d [] at j h = absurd (omega arith)
sets-snoc d (x ∷ s) at zero h = rw add-zero
sets-snoc d (x ∷ s) at (suc j) h = rw (add-suc at j, ← suc-add at j) (sets-snoc (set d at x) s (suc at) j (omega arith))

-- A packet's bytes.
pub packet-byte : (area : List ℕ) (p j : ℕ) → j < 20 → byte (packet area p) j ≡ byte area (20 * p + j)
unfolding packet
packet-byte area p j h = rw (get_or-take 20 (drop (20 * p) area) j 0 h, get_or-drop)

-- A header with a clock reading of one byte.
pub stamp-one : (k : List ℕ) → stamp 1 k ≡ byte k 1
unfolding stamp
stamp-one k = value-one 1 k

pub half-one : half 1 ≡ 128
unfolding half
half-one = refl

pub packed-one : (identifier v : ℕ) (k : List ℕ) → packed 1 identifier v (payload 1 k) ≡ identifier ∷ v ∷ drop 2 k
unfolding packed payload
packed-one identifier v k = rw (digits-one v)
