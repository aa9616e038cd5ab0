-- The characters of a text, as a reader takes them: lines between line feeds, and the number that digits make. Assumes nothing.
use Rattle.std.specs.Prelude.{ℕ, ◌+◌, ◌-◌, ◌*◌, ◌≤◌, ◌<◌, ◌≡◌, cond, List, [], ◌∷◌, ◌++◌, ◌≢◌, length, get_or, replicate, eqb}

-- None of the characters is a line feed.
unfoldable pub NoFeed : List ℕ → Type 0
NoFeed [] = Unit {0}
NoFeed (c ∷ cs) = (c ≢ 10) × NoFeed cs

-- What stands before, between and after the line feeds of a text, of which `line` has been read.
unfoldable pub cut_from : List ℕ → List ℕ → List (List ℕ)
cut_from line [] = line ∷ []
cut_from line (c ∷ cs) = cond (eqb c 10) (line ∷ cut_from [] cs) (cut_from (line ++ (c ∷ [])) cs)

-- Decimal digits, and the number that they make after others that make n.
unfoldable pub Digits : List ℕ → Type 0
Digits [] = Unit {0}
Digits (c ∷ cs) = ((48 ≤ c) × (c ≤ 57)) × Digits cs

unfoldable pub read_from : ℕ → List ℕ → ℕ
read_from n [] = n
read_from n (c ∷ cs) = read_from (10 * n + (c - 48)) cs

-- The characters are v in decimal digits.
pub record Reads (cs : List ℕ) (v : ℕ) : Type 0 where
  pub digits : Digits cs
  pub value : read_from 0 cs ≡ v

-- The characters are v in decimal digits without zeros in front, at the right.
pub record ReadsAtRight (cs : List ℕ) (v : ℕ) : Type 0 where
  pub blanks : ℕ
  pub number : List ℕ
  pub placed : cs ≡ replicate blanks 32 ++ number
  pub reads : Reads number v
  pub some : 0 < length number
  pub unpadded : 1 < length number → get_or number 0 0 ≢ 48
