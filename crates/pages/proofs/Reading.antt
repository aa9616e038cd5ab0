-- Pages of ticks show their T lines: each line ends at its line feed, each page shows its part of the ticks, and all the parts are all the ticks. Assumes nothing.
use Prim.Native.Nat.{ℕ, zero, suc, ◌+◌, ◌-◌, ◌*◌, ◌%◌, ◌≤◌, ◌<◌}
use mathlib.Core.Path.{◌≡◌, refl, ap}
use mathlib.Core.Bool.{false}
use mathlib.Core.List.{List, [], ◌∷◌, ◌++◌, map, map-append, flatten}
use native.Mathlib.Omega.{arith}
use lib.ListN.{length, length-map, length-take, length-drop, get_or, take, drop, take-append-drop, replicate}
use lib.Seq.{take_at, take-nil, drop-drop}
use Rattle.text.specs.Lines.{tick_text}
use Rattle.text.specs.Characters.{cut_from}
use Rattle.text.proofs.Characters.{length-tick-text, cut_line}
use Rattle.pages.specs.Pages.{Tick, spaces, text_of, tick_row, empty_row, total_of, total_line, page_of, next_number, pages_from, page_count, pages_of, ended}
use Rattle.pages.specs.Claims.{blank, texts_on, ticks_on, PagesRight}
use Rattle.pages.proofs.Withdrawn.{Bounded, bounded-take, bounded-drop}
use Rattle.pages.proofs.Showing.{PlainLines, plain-append, plain-page, tick-row, rows, length-rows, page-shows}

-- ---- lines

cut-lines : (ls : List (List ℕ)) → PlainLines ls → cut_from [] (ended ls) ≡ ls ++ ([] ∷ [])
unfolding PlainLines ended cut_from
cut-lines [] x = refl
cut-lines (l ∷ ls) x = rw (cut_line [] l (ended ls) x.0.1, cut-lines ls x.1)

plain-pages : (count n : ℕ) (ts : List Tick) → n < 10000 → PlainLines (flatten (pages_from count n ts))
unfolding PlainLines flatten pages_from
plain-pages zero n ts h = tt
plain-pages (suc k) n ts h = plain-append (page_of n (take 62 ts)) _ (plain-page n (take 62 ts) h) (plain-pages k (next_number n) (drop 62 ts) (omega arith))

-- ---- pages

pages-count : (count n : ℕ) (ts : List Tick) → length (pages_from count n ts) ≡ count
unfolding pages_from
pages-count zero n ts = refl
pages-count (suc k) n ts = ap suc (pages-count k (next_number n) (drop 62 ts))

page-at : (count n : ℕ) (ts : List Tick) (i : ℕ) → n < 10000 → i < count → get_or (pages_from count n ts) i [] ≡ page_of ((n + i) % 10000) (take 62 (drop (62 * i) ts))
unfolding pages_from
page-at zero n ts i small h = absurd (omega arith)
page-at (suc k) n ts zero small h =
    let number : (n + 0) % 10000 ≡ n = omega arith in
    rw number
page-at (suc k) n ts (suc i) small h =
    let number : (next_number n + i) % 10000 ≡ (n + suc i) % 10000 = omega arith in
    let place : 62 + 62 * i ≡ 62 * suc i = omega arith in
    rw (page-at k (next_number n) (drop 62 ts) i (omega arith) (omega arith), number, drop-drop (62 * i) 62 ts, place)

-- ---- each tick once

-- A tick's row begins with `T`, and cut to 30 characters it is the T line's text.
row-not-blank : (t : Tick) → blank (tick_row t) ≡ false
unfolding blank tick_text
row-not-blank t = rw (tick-row t)

text-of-row : (t : Tick) → take 30 (tick_row t) ≡ text_of t
text-of-row t = rw (tick-row t) (take_at (text_of t) (spaces 42) 30 (length-tick-text t.clock t.outgoing t.answers))

texts-on-rows : (ts : List Tick) (k : ℕ) → texts_on (map tick_row ts ++ replicate k empty_row) ≡ map text_of ts
unfolding texts_on blank
texts-on-rows [] zero = refl
texts-on-rows [] (suc k) = texts-on-rows [] k
texts-on-rows (t ∷ ts) k = rw (row-not-blank t, text-of-row t, texts-on-rows ts k)

texts-on-page : (n : ℕ) (ts : List Tick) → length ts ≤ 62 → texts_on (take 62 (drop 1 (page_of n ts))) ≡ map text_of ts
unfolding page_of
texts-on-page n ts few = rw (take_at (rows ts) (total_line (total_of ts) ∷ []) 62 (length-rows ts few)) (texts-on-rows ts (62 - length ts))

ticks-once : (count n : ℕ) (ts : List Tick) → length ts ≤ 62 * count → ticks_on (pages_from count n ts) ≡ map text_of ts
unfolding ticks_on pages_from
ticks-once zero n [] h = refl
ticks-once zero n (t ∷ ts) h = absurd (omega arith)
ticks-once (suc k) n ts h =
    let a = take 62 ts in
    let b = drop 62 ts in
    rw (texts-on-page n a (omega (arith, length-take 62 ts)), ticks-once k (next_number n) b (omega (arith, length-drop 62 ts)), ← map-append text_of a b, take-append-drop 62 ts)

-- ---- pages of such ticks

-- The lines of a part of the ticks are that part of the lines.
lines-part : (n i : ℕ) (ts : List Tick) → take n (drop i (map text_of ts)) ≡ map text_of (take n (drop i ts))
lines-part zero zero ts = refl
lines-part (suc n) zero [] = refl
lines-part (suc n) zero (t ∷ ts) = ap (λ (l : List (List ℕ)). text_of t ∷ l) (lines-part n zero ts)
lines-part n (suc i) [] = rw (take-nil {A = List ℕ} n, take-nil {A = Tick} n)
lines-part n (suc i) (t ∷ ts) = lines-part n i ts

pub pages-right : (ts : List Tick) → Bounded ts → PagesRight (map text_of ts) (ended (flatten (pages_of ts)))
unfolding pages_of
pages-right ts bounded =
    let count = page_count (length ts) in
    let counted = pages-count count 1 ts in
    let as_many = length-map ts text_of in
    record {
      pages = pages_from count 1 ts;
      lines = cut-lines (flatten (pages_from count 1 ts)) (plain-pages count 1 ts (omega arith));
      count = (omega arith, omega arith);
      shows = λ i h.
          let number : (1 + i) % 10000 ≡ (i + 1) % 10000 = omega arith in
          let page = take 62 (drop (62 * i) ts) in
          rw (page-at count 1 ts i (omega arith) (omega arith), number, lines-part 62 (62 * i) ts)
          (page-shows ((i + 1) % 10000) page (omega arith) (omega (arith, length-take 62 (drop (62 * i) ts))) (bounded-take 62 (drop (62 * i) ts) (bounded-drop (62 * i) ts bounded)));
      once = ticks-once count 1 ts (omega arith);
    }
