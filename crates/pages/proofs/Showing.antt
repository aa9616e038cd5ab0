-- A page shows its number, its ticks and their total: its lines are the parts that it is made of, and these read back. Assumes nothing.
use Prim.Native.Nat.{ℕ, zero, suc, ◌+◌, ◌-◌, ◌≤◌, ◌<◌}
use mathlib.Core.Path.{◌≡◌, refl, ◌∙◌}
use mathlib.Core.List.{List, [], ◌∷◌, ◌++◌, append_assoc, map}
use native.Mathlib.Omega.{arith}
use lib.ListN.{length, get_or, take, drop, length-append, length-map, replicate, length-replicate, get_or-replicate, replicate-append-replicate, get_or-append}
use lib.Seq.{take_at, drop_at, get_or_at, get_or-append-add}
use Rattle.text.specs.Lines.{decimal, digits_of, unpadded}
use Rattle.text.specs.Characters.{NoFeed}
use Rattle.text.proofs.Numbers.{length-decimal, digits-few, decimal-reads, unpadded-reads}
use Rattle.text.proofs.Characters.{length-tick-text, no-feed-append, no-feed-replicate, no-feed-decimal, no-feed-tick-text}
use Rattle.pages.specs.Pages.{Tick, spaces, text_of, number_line, tick_row, empty_row, total_of, total_line, page_of}
use Rattle.pages.specs.Claims.{line, Shows}
use Rattle.pages.proofs.Withdrawn.{Bounded, total-on-a-page, said-in-all}

-- ---- lines

-- A number below 10,000 has at most four digits, so spaces fill the line up to there.
module _ (n : ℕ) (h : n < 10000) where
  digits_4 : length (unpadded n) ≤ 4
  unfolding unpadded
  digits_4 = rw (length-decimal (digits_of n) n) (digits-few 19 3 n h)

  number-line : number_line n ≡ spaces 68 ++ (spaces (4 - length (unpadded n)) ++ unpadded n)
  unfolding number_line
  number-line =
      let k = length (unpadded n) in
      let parts : 72 - k ≡ 68 + (4 - k) = omega (arith, digits_4) in
      rw (parts, ← replicate-append-replicate {A = ℕ} 68 (4 - k) 32) (append_assoc (spaces 68) (spaces (4 - k)) (unpadded n))

pub tick-row : (t : Tick) → tick_row t ≡ text_of t ++ spaces 42
unfolding tick_row
tick-row t = rw (length-tick-text t.clock t.outgoing t.answers)

total-line : (total : ℕ) → total_line total ≡ decimal 6 total ++ spaces 66
unfolding total_line
total-line total = rw (length-decimal 6 total)

-- The lines between the first and the last.
abbrev pub rows : List Tick → List (List ℕ)
rows ts = map tick_row ts ++ replicate (62 - length ts) empty_row

pub length-rows : (ts : List Tick) → length ts ≤ 62 → length (rows ts) ≡ 62
length-rows ts few = omega (arith, length-append (map tick_row ts) (replicate (62 - length ts) empty_row), length-map ts tick_row, length-replicate (62 - length ts) empty_row)

-- ---- 72 characters, none of them a line feed

abbrev Plain : List ℕ → Type 0
Plain l = (length l ≡ 72) × NoFeed l

unfoldable pub PlainLines : List (List ℕ) → Type 0
PlainLines [] = Unit {0}
PlainLines (l ∷ ls) = Plain l × PlainLines ls

pub plain-append : (a b : List (List ℕ)) → PlainLines a → PlainLines b → PlainLines (a ++ b)
unfolding PlainLines
plain-append [] b x y = y
plain-append (l ∷ a) b x y = (x.0, plain-append a b x.1 y)

plain_at : (ls : List (List ℕ)) (i : ℕ) → PlainLines ls → i < length ls → length (line ls i) ≡ 72
unfolding PlainLines
plain_at [] i x h = absurd (omega arith)
plain_at (l ∷ ls) zero x h = x.0.0
plain_at (l ∷ ls) (suc i) x h = plain_at ls i x.1 (omega arith)

no-feed-spaces : (k : ℕ) → NoFeed (spaces k)
no-feed-spaces k = no-feed-replicate k 32 (λ e. omega arith)

plain-parts : (a b : List ℕ) → length a + length b ≡ 72 → NoFeed a → NoFeed b → Plain (a ++ b)
plain-parts a b h x y = (length-append a b ∙ h, no-feed-append a b x y)

plain-number : (n : ℕ) → n < 10000 → Plain (number_line n)
unfolding number_line unpadded
plain-number n h =
    let k = length (unpadded n) in
    plain-parts (spaces (72 - k)) (unpadded n) (omega (arith, digits_4 n h, length-replicate {A = ℕ} (72 - k) 32)) (no-feed-spaces (72 - k)) (no-feed-decimal (digits_of n) n)

plain_rows : (ts : List Tick) → PlainLines (map tick_row ts)
unfolding PlainLines
plain_rows [] = tt
plain_rows (t ∷ ts) =
    let long = length-tick-text t.clock t.outgoing t.answers in
    (rw (tick-row t) (plain-parts (text_of t) (spaces 42) (omega (arith, long)) (no-feed-tick-text t.clock t.outgoing t.answers) (no-feed-spaces 42)), plain_rows ts)

plain-empty : (k : ℕ) → PlainLines (replicate k empty_row)
unfolding PlainLines
plain-empty zero = tt
plain-empty (suc k) = ((refl, no-feed-spaces 72), plain-empty k)

plain-total : (total : ℕ) → Plain (total_line total)
plain-total total = rw (total-line total) (plain-parts (decimal 6 total) (spaces 66) (omega (arith, length-decimal 6 total)) (no-feed-decimal 6 total) (no-feed-spaces 66))

pub plain-page : (n : ℕ) (ts : List Tick) → n < 10000 → PlainLines (page_of n ts)
unfolding PlainLines page_of
plain-page n ts h =
    let empty = replicate (62 - length ts) empty_row in
    (plain-number n h, plain-append (rows ts) (total_line (total_of ts) ∷ []) (plain-append (map tick_row ts) empty (plain_rows ts) (plain-empty (62 - length ts))) (plain-total (total_of ts), tt))

-- ---- what stands on a page

-- The i-th tick, by its row and its text.
tick-at : (ts : List Tick) (i : ℕ) → i < length ts → (t : Tick) × (get_or (map tick_row ts) i [] ≡ tick_row t) × (get_or (map text_of ts) i [] ≡ text_of t)
tick-at [] i h = absurd (omega arith)
tick-at (t ∷ ts) zero h = (t, refl, refl)
tick-at (t ∷ ts) (suc i) h = tick-at ts i (omega arith)

module _ (n : ℕ) (ts : List Tick) (few : length ts ≤ 62) where
  page-length : length (page_of n ts) ≡ 64
  unfolding page_of
  page-length = omega (arith, length-append (rows ts) (total_line (total_of ts) ∷ []), length-rows ts few)

  last_line : line (page_of n ts) 63 ≡ decimal 6 (total_of ts) ++ spaces 66
  unfolding page_of
  last_line = get_or_at (rows ts) (total_line (total_of ts)) [] [] 62 (length-rows ts few) ∙ total-line (total_of ts)

  tick-line : (i : ℕ) → i < length ts → (take 30 (line (page_of n ts) (1 + i)) ≡ get_or (map text_of ts) i []) × (drop 30 (line (page_of n ts) (1 + i)) ≡ spaces 42)
  unfolding page_of
  tick-line i h =
      let empty = replicate (62 - length ts) empty_row in
      let last : List (List ℕ) = total_line (total_of ts) ∷ [] in
      let place : 1 + i ≡ suc i = omega arith in
      let (t, row, text) = tick-at ts i h in
      let long = length-tick-text t.clock t.outgoing t.answers in
      let inner : i < length (map tick_row ts) = omega (arith, length-map ts tick_row) in
      rw (place, append_assoc (map tick_row ts) empty last, get_or-append (map tick_row ts) (empty ++ last) [] i inner, row, tick-row t, text) (take_at (text_of t) (spaces 42) 30 long, drop_at (text_of t) (spaces 42) 30 long)

  empty-line : (i : ℕ) → length ts ≤ i → i < 62 → line (page_of n ts) (1 + i) ≡ spaces 72
  unfolding page_of
  empty-line i above below =
      let j = i - length ts in
      let empty = replicate (62 - length ts) empty_row in
      let last : List (List ℕ) = total_line (total_of ts) ∷ [] in
      let place : 1 + i ≡ suc (length (map tick_row ts) + j) = omega (arith, length-map ts tick_row) in
      rw (place, append_assoc (map tick_row ts) empty last)
      (get_or-append-add (map tick_row ts) (empty ++ last) j []
      ∙ get_or-append empty last [] j (omega (arith, length-replicate (62 - length ts) empty_row))
      ∙ get_or-replicate (62 - length ts) j empty_row [] (omega arith))

pub page-shows : (n : ℕ) (ts : List Tick) → n < 10000 → length ts ≤ 62 → Bounded ts → Shows n (map text_of ts) (page_of n ts)
unfolding page_of
page-shows n ts small few bounded =
    let right = spaces (4 - length (unpadded n)) ++ unpadded n in
    let total = decimal 6 (total_of ts) in
    let as_many = length-map ts text_of in
    record {
      lines = page-length n ts few;
      width = λ i h. plain_at (page_of n ts) i (plain-page n ts small) (omega (arith, page-length n ts few));
      margin = rw (number-line n small) (take_at (spaces 68) right 68 refl);
      number = rw (number-line n small, drop_at (spaces 68) right 68 refl) (unpadded-reads (4 - length (unpadded n)) n (omega arith));
      ticks = omega arith;
      tick = λ i h. tick-line n ts few i (omega arith);
      none = λ i h l. empty-line n ts few i (omega arith) l;
      total = rw (last_line n ts few, take_at total (spaces 66) 6 (length-decimal 6 (total_of ts)), said-in-all ts bounded) (decimal-reads 6 (total_of ts) (total-on-a-page ts bounded few));
      rest = rw (last_line n ts few) (drop_at total (spaces 66) 6 (length-decimal 6 (total_of ts)));
    }
