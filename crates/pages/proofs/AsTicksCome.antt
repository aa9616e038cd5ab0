-- Text that goes out as the ticks come makes the pages: by one event after the other, with the ticks that stand on the page at hand. Assumes nothing.
use Prim.Native.Nat.{ℕ, suc, ◌+◌, ◌-◌, ◌≤◌, ◌<◌}
use mathlib.Core.Path.{◌≡◌, refl, sym, ◌∙◌}
use mathlib.Core.Bool.{Bool, true, false, cond}
use mathlib.Core.List.{List, [], ◌∷◌, ◌++◌, append-nil, append_assoc, map, map-append, flatten}
use native.Mathlib.Omega.{arith}
use lib.ListN.{length, length-append, replicate}
use lib.Seq.{append_snoc, take_all, take_at, drop_at}
use lib.Dec.{eqb}
use borrow.Author.Tests.{ne_eqb, eqb-true, eqb-false}
use Rattle.events.specs.Tape.{Event, nothing, refused, ticked}
use Rattle.pages.specs.Pages.{Tick, ticks_of, number_line, tick_row, empty_row, withdrawn_by, total_of, total_line, page_of, next_number, pages_from, page_count, pages_of, ended, printed_pages}
use Rattle.pages.specs.Printing.{Page, unbegun, Paged, opening, closed, with_tick, with_event, ending, in_order}
use Rattle.pages.specs.Claims.{PagesAsTicksCome}
use Rattle.pages.proofs.Lines.{ended-append}

-- The page at hand with the ticks that stand on it, what of it is out, and all that goes out after that.
abbrev page_with : ℕ → List Tick → Page
page_with n ts = record { number = n; ticks = length ts; total = total_of ts }

abbrev begun : ℕ → List Tick → List ℕ
begun n [] = []
begun n (t ∷ ts) = ended (number_line n ∷ map tick_row (t ∷ ts))

abbrev goes_out : Page → List Event → List ℕ
goes_out p es = let o = in_order with_event p es in o.text ++ ending o.page

-- The pages of ticks, the first of number n.
abbrev pages_on : ℕ → List Tick → List (List (List ℕ))
pages_on n ts = pages_from (page_count (length ts)) n ts

-- What is out and what goes out after it are the pages of all the ticks.
abbrev MakesPages : ℕ → List Tick → List Event → Type 0
MakesPages n b es = begun n b ++ goes_out (page_with n b) es ≡ ended (flatten (pages_on n (b ++ ticks_of es)))

-- ---- one tick more

total-then : (ts : List Tick) (t : Tick) → total_of (ts ++ (t ∷ [])) ≡ total_of ts + withdrawn_by t
unfolding total_of
total-then [] t = omega arith
total-then (x ∷ ts) t = omega (arith, total-then ts t)

begun-then : (n : ℕ) (ts : List Tick) (t : Tick) → begun n ts ++ (opening (page_with n ts) ++ ended (tick_row t ∷ [])) ≡ begun n (ts ++ (t ∷ []))
unfolding opening
begun-then n [] t = sym (ended-append (number_line n ∷ []) (tick_row t ∷ []))
begun-then n (x ∷ ts) t = rw (ne_eqb (suc (length ts)) 0 (λ e. omega arith), map-append tick_row ts (t ∷ [])) (sym (ended-append (number_line n ∷ map tick_row (x ∷ ts)) (tick_row t ∷ [])))

tick-more : (n : ℕ) (ts : List Tick) (t : Tick)
    → (let c = closed (page_with n (ts ++ (t ∷ []))) in
    with_tick (page_with n ts) t ≡ record { page = c.page; text = opening (page_with n ts) ++ ended (tick_row t ∷ []) ++ c.text })
unfolding with_tick
tick-more n ts t = rw (length-append ts (t ∷ []), total-then ts t)

regroup : (a b c d : List ℕ) → a ++ (b ++ c ++ d) ≡ a ++ b ++ (c ++ d)
regroup a b c d = simp append_assoc

-- ---- whole pages

page-completed : (n : ℕ) (ts : List Tick) → 0 < length ts → begun n ts ++ ended (replicate (62 - length ts) empty_row ++ (total_line (total_of ts) ∷ [])) ≡ ended (page_of n ts)
unfolding page_of
page-completed n [] h = absurd (omega arith)
page-completed n (t ∷ ts) h =
    let rows = replicate (62 - suc (length ts)) empty_row in
    let last : List (List ℕ) = total_line (total_of (t ∷ ts)) ∷ [] in
    rw (append_assoc (map tick_row ts) rows last) (sym (ended-append (number_line n ∷ map tick_row (t ∷ ts)) (rows ++ last)))

last-page : (n : ℕ) (ts : List Tick) → 0 < length ts → length ts ≤ 62 → pages_on n ts ≡ page_of n ts ∷ []
unfolding pages_from
last-page n ts h l =
    let one : page_count (length ts) ≡ 1 = omega arith in
    rw (one, take_all 62 ts l)

full-page : (n : ℕ) (a ts : List Tick) → length a ≡ 62 → pages_on n (a ++ ts) ≡ page_of n a ∷ pages_on (next_number n) ts
unfolding pages_from
full-page n a ts h =
    let more : page_count (length (a ++ ts)) ≡ suc (page_count (length ts)) = omega (arith, length-append a ts) in
    rw (more, take_at a ts 62 h, drop_at a ts 62 h)

-- ---- one event after the other

end-makes-page : (n : ℕ) (b : List Tick) → length b ≤ 62 → begun n b ++ ending (page_with n b) ≡ ended (flatten (pages_on n b))
unfolding ending ended flatten pages_from
end-makes-page n [] h = refl
end-makes-page n (t ∷ ts) h = rw (ne_eqb (suc (length ts)) 0 (λ e. omega arith), last-page n (t ∷ ts) (omega arith) h, append-nil (page_of n (t ∷ ts))) (page-completed n (t ∷ ts) (omega arith))

-- A page that has one tick more is full, or goes on.
after-tick : (n : ℕ) (b : List Tick) (es : List Event) → 0 < length b → length b ≤ 62 → (length b < 62 → MakesPages n b es) → MakesPages (next_number n) [] es
    → (let c = closed (page_with n b) in begun n b ++ (c.text ++ goes_out c.page es) ≡ ended (flatten (pages_on n (b ++ ticks_of es))))
unfolding closed flatten total_of
after-tick n b es some few goes_on next = go (eqb (length b) 62) refl
  where
    go : (f : Bool) → eqb (length b) 62 ≡ f
        → (let c = cond {A = Paged} f (record { page = unbegun (next_number n); text = ended (total_line (total_of b) ∷ []) }) (record { page = page_with n b; text = [] }) in
        begun n b ++ (c.text ++ goes_out c.page es) ≡ ended (flatten (pages_on n (b ++ ticks_of es))))
    go true e =
        let full = eqb-true (length b) 62 e in
        rw (full-page n b (ticks_of es) full, ended-append (page_of n b) (flatten (pages_on (next_number n) (ticks_of es))), ← next, ← page-completed n b some, full)
        (sym (append_assoc (begun n b) (ended (total_line (total_of b) ∷ [])) (goes_out (unbegun (next_number n)) es)))
    go false e = goes_on (omega (arith, eqb-false (length b) 62 e))

first-event : (p : Page) (e : Event) (es : List Event) → (let o = with_event p e in goes_out p (e ∷ es) ≡ o.text ++ goes_out o.page es)
unfolding in_order
first-event p e es =
    let o = with_event p e in
    let rest = in_order with_event o.page es in
    append_assoc o.text rest.text (ending rest.page)

makes-pages : (n : ℕ) (b : List Tick) (es : List Event) → length b < 62 → MakesPages n b es
unfolding in_order with_event ticks_of total_of
makes-pages n b [] h = rw (append-nil b) (end-makes-page n b (omega arith))
makes-pages n b (nothing ∷ es) h = makes-pages n b es h
makes-pages n b (refused k q ∷ es) h = makes-pages n b es h
makes-pages n b (ticked records clock out ans ∷ es) h =
    let t : Tick = record { clock = clock; outgoing = out; answers = ans } in
    let b' = b ++ (t ∷ []) in
    let more = length-append b (t ∷ []) in
    let c = closed (page_with n b') in
    rw (first-event (page_with n b) (ticked records clock out ans) es, tick-more n b t, ← append_snoc b t (ticks_of es))
    (regroup (begun n b) (opening (page_with n b) ++ ended (tick_row t ∷ [])) c.text (goes_out c.page es)
    ∙ rw (begun-then n b t) (after-tick n b' es (omega arith) (omega arith) (λ l. makes-pages n b' es l) (makes-pages (next_number n) [] es (omega arith))))

pub pages_as_ticks_come : PagesAsTicksCome
unfolding PagesAsTicksCome printed_pages pages_of total_of
pages_as_ticks_come es = makes-pages 1 [] es (omega arith)
