-- What a board is to the router over bytes: the width of its clock and the fields of its state; and the board of document 01. Assumes nothing.
use Rattle.std.specs.Prelude.{ℕ, ◌+◌, ◌-◌, ◌*◌, ◌<◌, ◌≡◌, cond, ◌&&◌, List, [], ◌∷◌, ◌++◌, length, take, drop, replicate, leb, ltb, eqb}
use Rattle.std.proofs.lemmas.List.Edits.{sets}
use Rattle.rules.specs.Order.{top_first}
use Rattle.rules.specs.Areas.{byte, value, digits}

-- The kinds of field in the state: for each port a horizon; the registers' last bytes; the free count n and the entries of the idle-address stack;
-- for each slot its logical arrival time, deadline and ports still to serve; for each connection its outgoing identifier, delay and mask.
pub data Kind : Type 0 where
  Clock Horizon Latch Free Idle Time Deadline Mask Outgoing Delay Routes : Kind

-- A field is a kind and an index: a port, the place of a register (3 for register 4), an entry, a slot or a connection.
abbrev pub Field : Type 0
Field = Kind × ℕ

abbrev pub clock : Field
clock = (Clock, 0)

abbrev pub free : Field
free = (Free, 0)

pub record Board : Type 0 where
  -- The bytes of a clock reading, and of the state.
  pub clock_bytes : ℕ
  pub state_length : ℕ
  -- A field of the state, and the state with a field stored.
  pub get : List ℕ → Field → ℕ
  pub put : List ℕ → Field → ℕ → List ℕ
  -- The state of a fresh router at a clock reading.
  pub fresh_state : ℕ → List ℕ

-- ---- a board by its table: where each field stands and its bytes, high first, and the fresh state after the clock

module _ (table : Field → ℕ × ℕ) where
  unfoldable pub get_at : List ℕ → Field → ℕ
  get_at s f = value (take (table f).1 (drop (table f).0 s))

  unfoldable pub put_at : List ℕ → Field → ℕ → List ℕ
  put_at s f v = sets s (table f).0 (digits (table f).1 v)

abbrev pub by_table : ℕ → ℕ → (Field → ℕ × ℕ) → List ℕ → Board
by_table c size table rest = record { clock_bytes = c; state_length = size; get = get_at table; put = put_at table; fresh_state = λ t. digits c t ++ rest }

-- ---- the board of document 01 ("Bytes and areas"): a clock of one byte, a state of 1,804

-- State: each field's offset and its bytes.
abbrev pub table8 : Field → ℕ × ℕ
table8 (Clock, i) = (0, 1)
table8 (Horizon, p) = (1 + p, 1)
table8 (Latch, r) = (6 + r, 1)
table8 (Free, i) = (10, 2)
table8 (Idle, i) = (12 + i, 1)
table8 (Time, i) = (268 + 3 * i, 1)
table8 (Deadline, i) = (269 + 3 * i, 1)
table8 (Mask, i) = (270 + 3 * i, 1)
table8 (Outgoing, i) = (1036 + 3 * i, 1)
table8 (Delay, i) = (1037 + 3 * i, 1)
table8 (Routes, i) = (1038 + 3 * i, 1)

-- After the clock: horizons and registers, the free count 256, the stack, slots and connection table.
unfoldable pub fresh8 : List ℕ
fresh8 = replicate 9 0 ++ (1 ∷ 0 ∷ []) ++ top_first (λ i. i) 256 ++ replicate 1536 0

abbrev pub board8 : Board
board8 = by_table 1 1804 table8 fresh8

-- The same in document 01's numbers: where a reader of the bytes finds each field, and what a fresh state holds, byte by byte.
pub record LaidOut8 : Type 0 where
  pub size : board8.state_length ≡ 1804
  pub settings : (s : List ℕ) (i : ℕ) → (board8.get s clock ≡ byte s 0) × (board8.get s (Horizon, i) ≡ byte s (1 + i)) × (board8.get s (Latch, i) ≡ byte s (6 + i))
  pub stack : (s : List ℕ) (i : ℕ) → 11 < length s → (board8.get s free ≡ 256 * byte s 10 + byte s 11) × (board8.get s (Idle, i) ≡ byte s (12 + i))
  pub slots : (s : List ℕ) (i : ℕ) → (board8.get s (Time, i) ≡ byte s (268 + 3 * i)) × (board8.get s (Deadline, i) ≡ byte s (269 + 3 * i)) × (board8.get s (Mask, i) ≡ byte s (270 + 3 * i))
  pub table : (s : List ℕ) (i : ℕ) → (board8.get s (Outgoing, i) ≡ byte s (1036 + 3 * i)) × (board8.get s (Delay, i) ≡ byte s (1037 + 3 * i)) × (board8.get s (Routes, i) ≡ byte s (1038 + 3 * i))
  pub fresh : (t i : ℕ) → byte (board8.fresh_state t) i ≡ cond (eqb i 0) t (cond (eqb i 10) 1 (cond (leb 12 i && ltb i 268) (267 - i) 0))
