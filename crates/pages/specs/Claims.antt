-- What a reader finds on the pages of T lines (document 02, [3]), said over the lines' characters; and that text which goes out as the ticks come makes the pages. Assumes nothing.
use Rattle.std.specs.Prelude.{ℕ, ◌+◌, ◌*◌, ◌%◌, ◌≤◌, ◌<◌, ◌≡◌, Bool, true, cond, ◌&&◌, length, get_or, take, drop, replicate, eqb}
use mathlib.Core.List.{List, [], ◌∷◌, ◌++◌, flatten}
use Rattle.events.specs.Tape.{Event}
use Rattle.text.specs.Characters.{cut_from, read_from, Reads, ReadsAtRight}
use Rattle.pages.specs.Pages.{printed_pages}
use Rattle.pages.specs.Printing.{unbegun, with_event, in_order, ending}

-- A line of a page, from 0, and so many spaces.
abbrev pub line : List (List ℕ) → ℕ → List ℕ
line page i = get_or page i []

abbrev pub blanks : ℕ → List ℕ
blanks k = replicate k 32

-- What T lines say was withdrawn, each in its characters 27 to 30, in all.
unfoldable pub said_withdrawn : List (List ℕ) → ℕ
said_withdrawn [] = 0
said_withdrawn (t ∷ ts) = read_from 0 (drop 26 t) + said_withdrawn ts

-- A page that shows number n and the T lines ts, line by line.
pub record Shows (n : ℕ) (ts : List (List ℕ)) (page : List (List ℕ)) : Type 0 where
  pub lines : length page ≡ 64
  pub width : (i : ℕ) → i < 64 → length (line page i) ≡ 72
  -- The first line: characters 69 to 72 are the number.
  pub margin : take 68 (line page 0) ≡ blanks 68
  pub number : ReadsAtRight (drop 68 (line page 0)) n
  -- The 62 lines after it: characters 1 to 30 of the i-th are the i-th T line.
  pub ticks : length ts ≤ 62
  pub tick : (i : ℕ) → i < length ts → (take 30 (line page (1 + i)) ≡ get_or ts i []) × (drop 30 (line page (1 + i)) ≡ blanks 42)
  pub none : (i : ℕ) → length ts ≤ i → i < 62 → line page (1 + i) ≡ blanks 72
  -- The last line: characters 1 to 6 are all that these lines say was withdrawn.
  pub total : Reads (take 6 (line page 63)) (said_withdrawn ts)
  pub rest : drop 6 (line page 63) ≡ blanks 66

-- What stands on lines 2 to 63, cut to 30 characters, where these have more than spaces.
unfoldable pub blank : List ℕ → Bool
blank [] = true
blank (c ∷ cs) = eqb c 32 && blank cs

unfoldable pub texts_on : List (List ℕ) → List (List ℕ)
texts_on [] = []
texts_on (row ∷ rows) = cond (blank row) (texts_on rows) (take 30 row ∷ texts_on rows)

unfoldable pub ticks_on : List (List (List ℕ)) → List (List ℕ)
ticks_on [] = []
ticks_on (page ∷ pages) = texts_on (take 62 (drop 1 page)) ++ ticks_on pages

-- What is printed are pages of the T lines ts.
pub record PagesRight (ts : List (List ℕ)) (printed : List ℕ) : Type 0 where
  pub pages : List (List (List ℕ))
  -- Cut at its line feeds, it is the pages' lines, and nothing after the last.
  pub lines : cut_from [] printed ≡ flatten pages ++ ([] ∷ [])
  -- There are as many pages as the lines need.
  pub count : (length ts ≤ 62 * length pages) × (62 * length pages < length ts + 62)
  -- Page i + 1 shows the lines from 62 * i on.
  pub shows : (i : ℕ) → i < length pages → Shows ((i + 1) % 10000) (take 62 (drop (62 * i) ts)) (get_or pages i [])
  -- Each stands there once, in order.
  pub once : ticks_on pages ≡ ts

unfoldable pub PagesAsTicksCome : Type 0
PagesAsTicksCome = (es : List Event) → let o = in_order with_event (unbegun 1) es in o.text ++ ending o.page ≡ printed_pages es
