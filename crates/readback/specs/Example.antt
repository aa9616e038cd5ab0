-- Document 01's example of a tape ("Tape program"): its records, and all that is printed of them. Assumes nothing.
use Rattle.std.specs.Prelude.{ℕ, ◌≡◌, replicate}
use mathlib.Core.List.{List, [], ◌∷◌, flatten}

-- Records of 24 bytes: 43h with a register and its value, 41h with a port and a packet of zero data, 54h with best-effort's mask.
abbrev pub control_record : ℕ → ℕ → List ℕ
control_record register value = 67 ∷ register ∷ value ∷ replicate 21 0

abbrev pub arrival_record : ℕ → ℕ → ℕ → List ℕ
arrival_record port identifier time = 65 ∷ port ∷ 0 ∷ 0 ∷ identifier ∷ time ∷ replicate 18 0

abbrev pub tick_record : ℕ → List ℕ
tick_record mask = 84 ∷ mask ∷ replicate 22 0

unfoldable pub example_tape : List ℕ
example_tape = flatten (
    control_record 0 33 ∷ control_record 1 10 ∷ control_record 2 2 ∷ control_record 3 5
    ∷ arrival_record 0 5 1 ∷ tick_record 0 ∷ tick_record 0 ∷ arrival_record 9 0 0 ∷ [])

-- T 000 --- --- --- --- --- 0000
-- T 001 --- 21N --- --- --- 0000
-- R 000008 11
unfoldable pub example_lines : List ℕ
example_lines =
    84 ∷ 32 ∷ 48 ∷ 48 ∷ 48 ∷ 32 ∷ 45 ∷ 45 ∷ 45 ∷ 32 ∷ 45 ∷ 45 ∷ 45 ∷ 32 ∷ 45 ∷ 45 ∷ 45 ∷ 32 ∷ 45 ∷ 45 ∷ 45 ∷ 32 ∷ 45 ∷ 45 ∷ 45 ∷ 32 ∷ 48 ∷ 48 ∷ 48 ∷ 48 ∷ 10
    ∷ 84 ∷ 32 ∷ 48 ∷ 48 ∷ 49 ∷ 32 ∷ 45 ∷ 45 ∷ 45 ∷ 32 ∷ 50 ∷ 49 ∷ 78 ∷ 32 ∷ 45 ∷ 45 ∷ 45 ∷ 32 ∷ 45 ∷ 45 ∷ 45 ∷ 32 ∷ 45 ∷ 45 ∷ 45 ∷ 32 ∷ 48 ∷ 48 ∷ 48 ∷ 48 ∷ 10
    ∷ 82 ∷ 32 ∷ 48 ∷ 48 ∷ 48 ∷ 48 ∷ 48 ∷ 56 ∷ 32 ∷ 49 ∷ 49 ∷ 10 ∷ []

-- The claim, of what prints a tape.
unfoldable pub PrintsTheExample : (List ℕ → List ℕ) → Type 0
PrintsTheExample print = print example_tape ≡ example_lines
