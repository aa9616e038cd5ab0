-- What the proofs use of a board: its fields, how many and how wide, and the laws of reading and storing them. Assumes nothing.
use Prim.Native.Nat.{ℕ, ◌-◌, ◌^◌, ◌<◌}
use mathlib.Core.Path.{◌≡◌}
use mathlib.Core.Bool.{Bool, false, cond, ◌&&◌}
use mathlib.Core.List.{List}
use lib.ListN.{length}
use lib.Dec.{eqb}
use Rattle.rules.specs.Areas.{Bytes}
use Rattle.rules.specs.Board.{Board, Kind, Clock, Horizon, Latch, Free, Idle, Time, Deadline, Mask, Outgoing, Delay, Routes, Field}

-- A kind's number, to tell two kinds apart.
abbrev pub ordinal : Kind → ℕ
ordinal Clock = 0
ordinal Horizon = 1
ordinal Latch = 2
ordinal Free = 3
ordinal Idle = 4
ordinal Time = 5
ordinal Deadline = 6
ordinal Mask = 7
ordinal Outgoing = 8
ordinal Delay = 9
ordinal Routes = 10

abbrev pub same_kind : Kind → Kind → Bool
same_kind k l = eqb (ordinal k) (ordinal l)

abbrev pub same_field : Field → Field → Bool
same_field f g = same_kind f.0 g.0 && eqb f.1 g.1

-- How many fields a kind has.
abbrev pub extent : Kind → ℕ
extent Clock = 1
extent Horizon = 5
extent Latch = 4
extent Free = 1
extent Idle = 256
extent Time = 256
extent Deadline = 256
extent Mask = 256
extent Outgoing = 256
extent Delay = 256
extent Routes = 256

abbrev pub Valid : Field → Type 0
Valid f = f.1 < extent f.0

-- The bytes of a field where a clock reading has c: times, delays and horizons are as wide as the clock, and so is register 1; the free count has two.
abbrev pub width : ℕ → Field → ℕ
width c (Clock, i) = c
width c (Horizon, p) = c
width c (Latch, r) = cond (eqb r 1) c 1
width c (Free, i) = 2
width c (Idle, i) = 1
width c (Time, i) = c
width c (Deadline, i) = c
width c (Mask, i) = 1
width c (Outgoing, i) = 1
width c (Delay, i) = c
width c (Routes, i) = 1

-- What stands in a field of a fresh router: the clock reading t, n = 256, stack entry i holding 255 - i, zero elsewhere.
abbrev pub fresh_field : ℕ → Field → ℕ
fresh_field t (k, i) = cond (same_kind k Clock) t (cond (same_kind k Free) 256 (cond (same_kind k Idle) (255 - i) 0))

-- A store changes its field and no other; a later store of a field stands, stores of two fields commute, and a field of one byte stored as it reads leaves the state.
-- A state of bytes reads in each field what its bytes can hold.
pub record Laws (B : Board) : Type 0 where
  pub some_bytes : 0 < B.clock_bytes
  pub few_bytes : B.clock_bytes < 20
  pub length-put : (s : List ℕ) (f : Field) (v : ℕ) → length (B.put s f v) ≡ length s
  pub get-put : (s : List ℕ) (f : Field) (v : ℕ) (g : Field) → length s ≡ B.state_length → Valid f → Valid g → B.get (B.put s f v) g ≡ cond (same_field f g) v (B.get s g)
  pub put-put : (s : List ℕ) (f : Field) (v w : ℕ) → B.put (B.put s f v) f w ≡ B.put s f w
  pub put-comm : (s : List ℕ) (f : Field) (v : ℕ) (g : Field) (w : ℕ) → Valid f → Valid g → same_field f g ≡ false → B.put (B.put s f v) g w ≡ B.put (B.put s g w) f v
  pub put-own : (s : List ℕ) (f : Field) → Valid f → width B.clock_bytes f ≡ 1 → B.put s f (B.get s f) ≡ s
  pub get-lt : (s : List ℕ) (f : Field) → Bytes s → length s ≡ B.state_length → Valid f → B.get s f < 256 ^ width B.clock_bytes f
  pub length-fresh : (t : ℕ) → length (B.fresh_state t) ≡ B.state_length
  pub get-fresh : (t : ℕ) (f : Field) → Valid f → B.get (B.fresh_state t) f ≡ fresh_field t f
