-- The board of document 01 is lawful: in its table each byte of the state has one owner, and each fresh field its value, by computed tests (TableLaws); and it is laid out as document 01 has it. Assumes nothing.
use Prim.Native.Nat.{ℕ, zero, suc, ◌+◌, ◌-◌, ◌/◌, ◌%◌, ◌<◌}
use mathlib.Core.Path.{◌≡◌, refl, sym, ap, ◌∙◌}
use mathlib.Core.Bool.{Bool, true, cond, ◌&&◌}
use mathlib.Core.List.{List, [], ◌∷◌, ◌++◌}
use native.Mathlib.Decide.{dec_lt}
use native.Mathlib.Omega.{arith}
use lib.ListN.{length, get_or-eq_default}
use lib.Dec.{leb, ltb, eqb}
use borrow.Author.Tests.{eqb-true, ne_eqb, le-leb, le-ltb}
use Rattle.rules.specs.Areas.{byte, value, digits}
use Rattle.rules.specs.Board.{Horizon, Latch, Idle, Time, Deadline, Mask, Outgoing, Delay, Routes, Field, clock, free, get_at, table8, fresh8, board8, LaidOut8}
use Rattle.rules.specs.Order.{all, top_first}
use Rattle.rules.proofs.BoardLaws.{Laws, fresh_field, width}
use Rattle.rules.proofs.FieldBytes.{get-one, get-two}
use Rattle.rules.proofs.Booleans.{and_left, and_right}
use Rattle.rules.proofs.TableLaws.{kind_of, each, owned, lawful-table}

-- Whose byte stands at offset o.
owner8 : ℕ → Field
owner8 o =
    cond (ltb o 1) clock (cond (ltb o 6) (Horizon, o - 1) (cond (ltb o 10) (Latch, o - 6) (cond (ltb o 12) free (cond (ltb o 268) (Idle, o - 12)
    (cond (ltb o 1036) (kind_of (5 + (o - 268) % 3), (o - 268) / 3) (kind_of (8 + (o - 1036) % 3), (o - 1036) / 3))))))

-- Computed tests over all fields.
owned8 : each (owned table8 1804 owner8) ≡ true
unfolding each owned all owner8
owned8 = refl

blank8 : each (λ f. eqb (get_at table8 (digits 1 0 ++ fresh8) f) (fresh_field 0 f)) ≡ true
unfolding each all get_at value digits fresh8 top_first
blank8 = refl

wide8 : each (λ f. eqb (table8 f).1 (width 1 f)) ≡ true
unfolding each all
wide8 = refl

whole8 : 1 + length fresh8 ≡ 1804
unfolding fresh8 top_first
whole8 = refl

-- By its tests.
pub lawful8 : Laws board8
lawful8 = lawful-table 1 1804 table8 fresh8 (record { some_bytes = omega arith; few_bytes = omega arith; owner = owner8; owners = owned8; first = refl; wide = wide8; whole = whole8; blank = blank8 })

-- ---- in document 01's numbers

-- What a fresh state holds from place 1 on.
abbrev blank_byte : ℕ → ℕ
blank_byte i = cond (eqb i 10) 1 (cond (leb 12 i && ltb i 268) (267 - i) 0)

-- A list holds that from place i on, and so at each of its places.
holds-from : ℕ → List ℕ → Bool
holds-from i [] = true
holds-from i (x ∷ l) = eqb x (blank_byte i) && holds-from (suc i) l

holds_at : (l : List ℕ) (i j : ℕ) → holds-from i l ≡ true → j < length l → byte l j ≡ blank_byte (i + j)
unfolding holds-from
holds_at [] i j e h = absurd (omega arith)
holds_at (x ∷ l) i zero e h = eqb-true x (blank_byte i) (and_left (eqb x (blank_byte i)) (holds-from (suc i) l) e) ∙ ap blank_byte (let k : i ≡ i + 0 = omega arith in k)
holds_at (x ∷ l) i (suc j) e h = holds_at l (suc i) j (and_right (eqb x (blank_byte i)) (holds-from (suc i) l) e) (omega arith) ∙ ap blank_byte (let k : suc i + j ≡ i + suc j = omega arith in k)

-- A computed test over the bytes after the clock.
fresh-bytes : holds-from 1 fresh8 ≡ true
unfolding holds-from fresh8 top_first
fresh-bytes = refl

-- Each field by its line of the table, and past the end of a fresh state nothing.
pub laid-out8 : LaidOut8
unfolding digits
laid-out8 = record {
  size = refl;
  settings = λ s i. (get-one table8 s clock refl, get-one table8 s (Horizon, i) refl, get-one table8 s (Latch, i) refl);
  stack = λ s i l. (get-two table8 s free refl l ∙ omega arith, get-one table8 s (Idle, i) refl);
  slots = λ s i. (get-one table8 s (Time, i) refl, get-one table8 s (Deadline, i) refl, get-one table8 s (Mask, i) refl);
  table = λ s i. (get-one table8 s (Outgoing, i) refl, get-one table8 s (Delay, i) refl, get-one table8 s (Routes, i) refl);
  fresh = fresh;
}
  where
    fresh : (t i : ℕ) → byte (board8.fresh_state t) i ≡ cond (eqb i 0) t (blank_byte i)
    fresh t zero = omega arith
    fresh t (suc i) = rw (ne_eqb (suc i) 0 (λ e. omega arith)) (go (dec_lt i 1803))
      where
        go : Dec (i < 1803) → byte fresh8 i ≡ blank_byte (suc i)
        go (yes l) = holds_at fresh8 1 i fresh-bytes (let e = whole8 in omega arith) ∙ ap blank_byte (let k : 1 + i ≡ suc i = omega arith in k)
        go (no l) = get_or-eq_default fresh8 0 {n = i} (let e = whole8 in omega arith) ∙ sym (rw (ne_eqb (suc i) 10 (λ e. omega arith), le-leb 12 (suc i) (omega arith), le-ltb (suc i) 268 (omega arith)))
