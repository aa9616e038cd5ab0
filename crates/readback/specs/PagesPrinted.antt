-- What a reader finds on the pages that `page` prints, from the T lines that `tape` prints of the same input (document 02, [3]). Assumes nothing.
use Rattle.std.specs.Prelude.{ℕ, cond, List, [], ◌∷◌, eqb}
use Rattle.rules.specs.Areas.{byte}
use Rattle.text.specs.Characters.{cut_from}
use Rattle.pages.specs.Claims.{PagesRight}

-- The lines that begin with T.
unfoldable pub tick_lines : List (List ℕ) → List (List ℕ)
tick_lines [] = []
tick_lines (l ∷ ls) = cond (eqb (byte l 0) 84) (l ∷ tick_lines ls) (tick_lines ls)

-- The claim, of what prints a tape's lines and what prints its pages.
unfoldable pub PagesPrinted : (List ℕ → List ℕ) → (List ℕ → List ℕ) → Type 0
PagesPrinted tape page = (input : List ℕ) → PagesRight (tick_lines (cut_from [] (tape input))) (page input)
