-- What the display software sees of a port, and where it starts; and both in literal places. Assumes nothing.
use Rattle.std.specs.Prelude.{ℕ, ◌+◌, ◌*◌, ◌<◌, ◌≤◌, ◌≡◌, cond, ◌&&◌, List, [], ◌≢◌, ◌⊎◌, length, leb, eqb}
use Rattle.rules.specs.Areas.{byte, packet_length, outgoing_length, packet, payload}

-- The display software's part of the outgoing area: the data of one port, empty exactly if the area isn't 100 bytes or the port is above 4.
unfoldable pub display : ℕ → List ℕ → ℕ → List ℕ
display c area p = cond (eqb (length area) outgoing_length && leb p 4) (payload c (packet area p)) []

-- Where it starts in the outgoing area; the area's length where it is empty.
unfoldable pub display_start : ℕ → List ℕ → ℕ → ℕ
display_start c area p = cond (eqb (length area) outgoing_length && leb p 4) (packet_length * p + (1 + c)) (length area)

-- At a clock of one byte: of an area of 100 bytes and a port of at most 4 the part is the 18 bytes from byte 20 p + 2 on, and starts there; of an area of another length or a port above 4 it is empty, and starts at the area's end.
pub record DisplayShown : Type 0 where
  pub size : (area : List ℕ) (p : ℕ) → length area ≡ 100 → p ≤ 4 → length (display 1 area p) ≡ 18
  pub bytes : (area : List ℕ) (p : ℕ) → length area ≡ 100 → p ≤ 4 → (j : ℕ) → j < 18 → byte (display 1 area p) j ≡ byte area (20 * p + 2 + j)
  pub start : (area : List ℕ) (p : ℕ) → length area ≡ 100 → p ≤ 4 → display_start 1 area p ≡ 20 * p + 2
  pub empty : (area : List ℕ) (p : ℕ) → (length area ≢ 100) ⊎ (4 < p) → (display 1 area p ≡ []) × (display_start 1 area p ≡ length area)
