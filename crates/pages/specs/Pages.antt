-- The pages of a tape, as the program `page` prints them (document 02, [3]): 64 lines of 72 characters each. Assumes nothing.
use Rattle.std.specs.Prelude.{ℕ, zero, suc, ◌+◌, ◌-◌, ◌/◌, ◌%◌, length, take, drop, replicate}
use mathlib.Core.List.{List, [], ◌∷◌, ◌++◌, map, flatten}
use Rattle.events.specs.Tape.{Event, nothing, refused, ticked}
use Rattle.text.specs.Lines.{decimal, unpadded, withdrawn_sum, tick_text}

-- An accepted tick: the clock before it, the outgoing and the answer bytes.
pub record Tick : Type 0 where
  pub clock : ℕ
  pub outgoing : List ℕ
  pub answers : List ℕ

-- The accepted ticks of events, in order.
unfoldable pub ticks_of : List Event → List Tick
ticks_of [] = []
ticks_of (nothing ∷ es) = ticks_of es
ticks_of (refused k q ∷ es) = ticks_of es
ticks_of (ticked records t out ans ∷ es) = record { clock = t; outgoing = out; answers = ans } ∷ ticks_of es

-- ---- the lines of a page

-- The characters of a line, and the ticks of a full page.
abbrev pub line_length : ℕ
line_length = 72

abbrev pub page_ticks : ℕ
page_ticks = 62

abbrev pub spaces : ℕ → List ℕ
spaces k = replicate k 32

-- A text at the left or at the right of a line.
abbrev pub at_left : List ℕ → List ℕ
at_left text = text ++ spaces (line_length - length text)

abbrev pub at_right : List ℕ → List ℕ
at_right text = spaces (line_length - length text) ++ text

-- Line 1: the page's number.
unfoldable pub number_line : ℕ → List ℕ
number_line n = at_right (unpadded n)

-- Lines 2 to 63: a tick, by the text of the tape's T line; or none.
abbrev pub text_of : Tick → List ℕ
text_of t = tick_text t.clock t.outgoing t.answers

unfoldable pub tick_row : Tick → List ℕ
tick_row t = at_left (text_of t)

abbrev pub empty_row : List ℕ
empty_row = spaces line_length

-- Line 64: how many were withdrawn in all of the page's ticks.
abbrev pub withdrawn_by : Tick → ℕ
withdrawn_by t = withdrawn_sum t.answers

unfoldable pub total_of : List Tick → ℕ
total_of [] = 0
total_of (t ∷ ts) = withdrawn_by t + total_of ts

unfoldable pub total_line : ℕ → List ℕ
total_line total = at_left (decimal 6 total)

-- ---- pages

-- The page of number n with these ticks, at most 62.
unfoldable pub page_of : ℕ → List Tick → List (List ℕ)
page_of n ts = (number_line n ∷ []) ++ map tick_row ts ++ replicate (page_ticks - length ts) empty_row ++ (total_line (total_of ts) ∷ [])

-- The number of the page after page n.
abbrev pub next_number : ℕ → ℕ
next_number n = (n + 1) % 10000

-- So many pages, the first of number n.
unfoldable pub pages_from : ℕ → ℕ → List Tick → List (List (List ℕ))
pages_from zero n ts = []
pages_from (suc k) n ts = page_of n (take page_ticks ts) ∷ pages_from k (next_number n) (drop page_ticks ts)

-- How many pages so many ticks take: a page begins only for a tick after a full one.
abbrev pub page_count : ℕ → ℕ
page_count n = (n + 61) / page_ticks

unfoldable pub pages_of : List Tick → List (List (List ℕ))
pages_of ts = pages_from (page_count (length ts)) 1 ts

-- ---- what is printed

-- Lines, each ended by a line feed.
unfoldable pub ended : List (List ℕ) → List ℕ
ended [] = []
ended (l ∷ ls) = l ++ (10 ∷ []) ++ ended ls

-- All that is printed of events.
unfoldable pub printed_pages : List Event → List ℕ
printed_pages es = ended (flatten (pages_of (ticks_of es)))
