-- A board given by its table is lawful where each byte has one owner: one computed test over the fields. Assumes nothing.
use Prim.Native.Nat.{ℕ, zero, suc, ◌+◌, ◌-◌, ◌^◌, ◌<◌, ◌≤◌}
use mathlib.Core.Path.{◌≡◌, refl, sym, ap, ap₂, subst, ◌∙◌}
use mathlib.Core.Bool.{Bool, true, false, cond, ◌&&◌, true≢false}
use mathlib.Core.Logic.{◌≢◌}
use mathlib.Core.List.{List, ◌++◌}
use native.Mathlib.Decide.{dec_lt}
use native.Mathlib.Omega.{arith}
use lib.ListN.{length, take, drop, length-append}
use lib.Seq.{length-sets, take_at, drop-append-add}
use lib.Dec.{ltb, eqb}
use borrow.Author.Tests.{eqb-true, ltb-true, eq-eqb, ne_eqb}
use Rattle.rules.specs.Areas.{Bytes, value, digits}
use Rattle.rules.specs.Board.{by_table, Kind, Clock, Horizon, Latch, Free, Idle, Time, Deadline, Mask, Outgoing, Delay, Routes, Field, clock, get_at, put_at}
use Rattle.rules.specs.Order.{all}
use Rattle.rules.proofs.Booleans.{and_left, and_right}
use Rattle.rules.proofs.BoardLaws.{Laws, fresh_field, ordinal, extent, width, same_kind, same_field, Valid}
use Rattle.rules.proofs.IndexLaws.{all-at}
use Rattle.rules.proofs.AreaLaws.{sets-comm, sets-sets, part_same, part-other, part-lt, length_digits, value-digits}
use Rattle.rules.proofs.FieldBytes.{put_at-own}

-- ---- tests of every field

-- The kind of a number.
abbrev pub kind_of : ℕ → Kind
kind_of zero = Clock
kind_of (suc zero) = Horizon
kind_of (suc (suc zero)) = Latch
kind_of (suc (suc (suc zero))) = Free
kind_of (suc (suc (suc (suc zero)))) = Idle
kind_of (suc (suc (suc (suc (suc zero))))) = Time
kind_of (suc (suc (suc (suc (suc (suc zero)))))) = Deadline
kind_of (suc (suc (suc (suc (suc (suc (suc zero))))))) = Mask
kind_of (suc (suc (suc (suc (suc (suc (suc (suc zero)))))))) = Outgoing
kind_of (suc (suc (suc (suc (suc (suc (suc (suc (suc zero))))))))) = Delay
kind_of (suc (suc (suc (suc (suc (suc (suc (suc (suc (suc n)))))))))) = Routes

-- The number tells the kind.
kind_of-ordinal : (k : Kind) → (kind_of (ordinal k) ≡ k) × (ordinal k < 11)
kind_of-ordinal Clock = (refl, omega arith)
kind_of-ordinal Horizon = (refl, omega arith)
kind_of-ordinal Latch = (refl, omega arith)
kind_of-ordinal Free = (refl, omega arith)
kind_of-ordinal Idle = (refl, omega arith)
kind_of-ordinal Time = (refl, omega arith)
kind_of-ordinal Deadline = (refl, omega arith)
kind_of-ordinal Mask = (refl, omega arith)
kind_of-ordinal Outgoing = (refl, omega arith)
kind_of-ordinal Delay = (refl, omega arith)
kind_of-ordinal Routes = (refl, omega arith)

-- A test of every field.
unfoldable pub each : (Field → Bool) → Bool
each t = all 11 (λ n. all (extent (kind_of n)) (λ i. t (kind_of n, i)))

-- It holds at each valid one.
each_at : (t : Field → Bool) → each t ≡ true → (f : Field) → Valid f → t f ≡ true
unfolding each
each_at t e (k, i) v =
    let (q, l) = kind_of-ordinal k in
    let below : all (extent k) (λ i. t (k, i)) ≡ true = subst (λ (k : Kind). all (extent k) (λ i. t (k, i)) ≡ true) q (all-at (λ n. all (extent (kind_of n)) (λ i. t (kind_of n, i))) 11 (ordinal k) e l) in
    all-at (λ i. t (k, i)) (extent k) i below v

-- ---- fields told apart

-- Kinds of one number are one.
pub same_kind-equal : (k l : Kind) → same_kind k l ≡ true → k ≡ l
same_kind-equal k l e = sym (kind_of-ordinal k).0 ∙ ap kind_of (eqb-true (ordinal k) (ordinal l) e) ∙ (kind_of-ordinal l).0

pub same_kind-differ : (k l : Kind) → k ≢ l → same_kind k l ≡ false
same_kind-differ k l n = ne_eqb (ordinal k) (ordinal l) (λ e. n (sym (kind_of-ordinal k).0 ∙ ap kind_of e ∙ (kind_of-ordinal l).0))

-- Fields of one kind and index are one.
pub same_field-equal : (f g : Field) → same_field f g ≡ true → f ≡ g
same_field-equal f g e =
    let a = same_kind f.0 g.0 in
    let b = eqb f.1 g.1 in
    ap₂ (λ (k : Kind) (i : ℕ). (k, i)) (same_kind-equal f.0 g.0 (and_left a b e)) (eqb-true f.1 g.1 (and_right a b e))

pub same_field-self : (f : Field) → same_field f f ≡ true
same_field-self f = rw (eq-eqb (ordinal f.0) (ordinal f.0) refl, eq-eqb f.1 f.1 refl)

-- ---- each byte has one owner

module _ (table : Field → ℕ × ℕ) (size : ℕ) (owner : ℕ → Field) where
  -- Byte b of the field f is inside the state, and f's.
  abbrev owns : Field → ℕ → Bool
  owns f b = ltb ((table f).0 + b) size && same_field (owner ((table f).0 + b)) f

  -- f has a byte, and owns all of its bytes.
  unfoldable pub owned : Field → Bool
  owned f = ltb 0 (table f).1 && all (table f).1 (owns f)

  module _ (test : each owned ≡ true) where
    module _ (f : Field) (v : Valid f) where
      -- From the test, as the next.
      nonempty : 0 < (table f).1
      unfolding owned
      nonempty = ltb-true 0 (table f).1 (and_left (ltb 0 (table f).1) (all (table f).1 (owns f)) (each_at owned test f v))

      byte_of : (b : ℕ) → b < (table f).1 → ((table f).0 + b < size) × (owner ((table f).0 + b) ≡ f)
      unfolding owned
      byte_of b l =
          let e = all-at (owns f) (table f).1 b (and_right (ltb 0 (table f).1) (all (table f).1 (owns f)) (each_at owned test f v)) l in
          let o = (table f).0 + b in
          (ltb-true o size (and_left (ltb o size) (same_field (owner o) f) e), same_field-equal (owner o) f (and_right (ltb o size) (same_field (owner o) f) e))

      -- The last byte is inside, so all are.
      fits_in : (table f).0 + (table f).1 ≤ size
      fits_in = go (table f).1 refl
        where
          go : (n : ℕ) → (table f).1 ≡ n → (table f).0 + n ≤ size
          go zero e = let h = nonempty in absurd (omega arith)
          go (suc n) e = let h = (byte_of n (omega arith)).0 in omega arith

    -- Two fields with a common byte are one.
    meet : (f g : Field) → Valid f → Valid g → (k l : ℕ) → k < (table f).1 → l < (table g).1 → (table g).0 + l ≡ (table f).0 + k → f ≡ g
    meet f g vf vg k l hk hl e = sym (byte_of f vf k hk).1 ∙ ap owner (sym e) ∙ (byte_of g vg l hl).1

    -- The same field is read back, and another shares no byte.
    get_at-put_at : (s : List ℕ) (f : Field) (v : ℕ) (g : Field) → length s ≡ size → Valid f → Valid g → get_at table (put_at table s f v) g ≡ cond (same_field f g) v (get_at table s g)
    unfolding put_at get_at
    get_at-put_at s f v g z vf vg = go (same_field f g) refl
      where
        self : get_at table (put_at table s f v) f ≡ v
        self = ap value (part_same s (digits (table f).1 v) (table f).0 (table f).1 (length_digits (table f).1 v) (let h = fits_in f vf in omega arith)) ∙ value-digits (table f).1 v (nonempty f vf)

        go : (t : Bool) → same_field f g ≡ t → get_at table (put_at table s f v) g ≡ cond t v (get_at table s g)
        go true e = subst (λ (g : Field). get_at table (put_at table s f v) g ≡ v) (same_field-equal f g e) self
        go false e = ap value (part-other s (digits (table f).1 v) (table f).0 (table g).0 (table g).1 (λ k l hk hl q.
            let m = meet f g vf vg k l (let h = length_digits (table f).1 v in omega arith) hl q in
            true≢false (sym (subst (λ (g : Field). same_field f g ≡ true) m (same_field-self f)) ∙ e)))

    -- Stores in two fields commute.
    put_at-comm : (s : List ℕ) (f : Field) (v : ℕ) (g : Field) (w : ℕ) → Valid f → Valid g → same_field f g ≡ false → put_at table (put_at table s f v) g w ≡ put_at table (put_at table s g w) f v
    unfolding put_at
    put_at-comm s f v g w vf vg e = sets-comm (digits (table f).1 v) (digits (table g).1 w) s (table f).0 (table g).0 (λ k l hk hl q.
        let m = meet f g vf vg k l (let h = length_digits (table f).1 v in omega arith) (let h = length_digits (table g).1 w in omega arith) q in
        true≢false (sym (subst (λ (g : Field). same_field f g ≡ true) m (same_field-self f)) ∙ e))

-- ---- the fresh state

-- What stands after the first bytes does not depend on them.
drop_past : (a b l : List ℕ) (n : ℕ) → length a ≡ length b → length a ≤ n → drop n (a ++ l) ≡ drop n (b ++ l)
drop_past a b l n e h =
    let k = n - length a in
    let p : n ≡ length a + k = omega arith in
    let q : n ≡ length b + k = omega arith in
    ap (λ (m : ℕ). drop m (a ++ l)) p ∙ drop-append-add a l k ∙ sym (ap (λ (m : ℕ). drop m (b ++ l)) q ∙ drop-append-add b l k)

-- The tests that make a table lawful: each byte has one owner, the clock stands first, every field has its width, and the rest is fresh.
pub record Tested (c size : ℕ) (table : Field → ℕ × ℕ) (rest : List ℕ) : Type 0 where
  pub some_bytes : 0 < c
  pub few_bytes : c < 20
  pub owner : ℕ → Field
  pub owners : each (owned table size owner) ≡ true
  pub first : (table clock).0 ≡ 0
  pub wide : each (λ f. eqb (table f).1 (width c f)) ≡ true
  pub whole : c + length rest ≡ size
  pub blank : each (λ f. eqb (get_at table (digits c 0 ++ rest) f) (fresh_field 0 f)) ≡ true

module _ (c size : ℕ) (table : Field → ℕ × ℕ) (rest : List ℕ) (H : Tested c size table rest) where
  abbrev state : ℕ → List ℕ
  state t = digits c t ++ rest

  -- From the test.
  wide_at : (f : Field) → Valid f → (table f).1 ≡ width c f
  wide_at f v = eqb-true (table f).1 (width c f) (each_at (λ f. eqb (table f).1 (width c f)) H.wide f v)

  -- Every other field stands after the clock: it shares no byte with it.
  after-clock : (f : Field) → Valid f → f.0 ≢ Clock → c ≤ (table f).0
  after-clock f v n = go (dec_lt (table f).0 c)
    where
      go : Dec ((table f).0 < c) → c ≤ (table f).0
      go (yes l) =
          let h = nonempty table size H.owner H.owners f v in
          let a = H.first in
          let b = wide_at clock (omega arith) in
          absurd (n (sym (ap (λ (f : Field). f.0) (meet table size H.owner H.owners clock f (omega arith) v (table f).0 0 (omega arith) h (omega arith)))))
      go (no l) = omega arith

  -- The clock's bytes stand first.
  get-clock : (t : ℕ) → get_at table (state t) clock ≡ t
  unfolding get_at
  get-clock t = rw (wide_at clock (omega arith), H.first, take_at (digits c t) rest c (length_digits c t)) (value-digits c t H.some_bytes)

  -- A later field reads as it does at the clock 0.
  get-later : (t : ℕ) (f : Field) → Valid f → f.0 ≢ Clock → get_at table (state t) f ≡ fresh_field t f
  unfolding get_at
  get-later t f v n =
      let l = after-clock f v n in
      let a = length_digits c t in
      ap (λ (l : List ℕ). value (take (table f).1 l)) (drop_past (digits c t) (digits c 0) rest (table f).0 (a ∙ sym (length_digits c 0)) (omega arith))
      ∙ eqb-true (get_at table (state 0) f) (fresh_field 0 f) (each_at (λ f. eqb (get_at table (state 0) f) (fresh_field 0 f)) H.blank f v)
      ∙ rw (same_kind-differ f.0 Clock n)

  -- The clock, or a later field.
  get-fresh : (t : ℕ) (f : Field) → Valid f → get_at table (state t) f ≡ fresh_field t f
  get-fresh t (k, i) v = go (same_kind k Clock) refl
    where
      go : (b : Bool) → same_kind k Clock ≡ b → get_at table (state t) (k, i) ≡ fresh_field t (k, i)
      go true e =
          let q = same_kind-equal k Clock e in
          let z : i ≡ 0 = let l : i < extent Clock = subst (λ (k : Kind). i < extent k) q v in omega arith in
          subst (λ (f : Field). get_at table (state t) f ≡ fresh_field t f) (sym (ap₂ (λ (k : Kind) (i : ℕ). (k, i)) q z)) (get-clock t)
      go false e = get-later t (k, i) v (λ q. true≢false (sym (eq-eqb (ordinal k) (ordinal Clock) (ap ordinal q)) ∙ e))

  -- A field stands inside the state.
  get_at-lt : (s : List ℕ) (f : Field) → Bytes s → length s ≡ size → Valid f → get_at table s f < 256 ^ width c f
  unfolding get_at
  get_at-lt s f b e v = subst (λ (n : ℕ). get_at table s f < 256 ^ n) (wide_at f v) (part-lt (table f).1 (table f).0 s b (let h = fits_in table size H.owner H.owners f v in omega arith))

  -- All laws, from the tests.
  pub lawful-table : Laws (by_table c size table rest)
  unfolding put_at
  lawful-table = record {
    some_bytes = H.some_bytes;
    few_bytes = H.few_bytes;
    length-put = λ s f v. length-sets s (table f).0 (digits (table f).1 v);
    get-put = get_at-put_at table size H.owner H.owners;
    put-put = λ s f v w. sets-sets (digits (table f).1 v) (digits (table f).1 w) s (table f).0 (length_digits (table f).1 v ∙ sym (length_digits (table f).1 w));
    put-comm = put_at-comm table size H.owner H.owners;
    put-own = λ s f v one. put_at-own table s f (wide_at f v ∙ one);
    get-lt = get_at-lt;
    length-fresh = λ t. length-append (digits c t) rest ∙ ap (λ (n : ℕ). n + length rest) (length_digits c t) ∙ H.whole;
    get-fresh = get-fresh;
  }
