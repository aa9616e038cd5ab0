-- The lines of a tape are fixed by what a reader finds in them: digits by the number that they make, a text by its lines. Assumes nothing.
use Prim.Native.Nat.{ℕ, zero, suc, ◌+◌, ◌-◌, ◌*◌, ◌/◌, ◌%◌, ◌^◌, ◌≤◌, ◌<◌}
use mathlib.Core.Path.{◌≡◌, refl, sym, ap, ap₂, ◌∙◌}
use mathlib.Core.Bool.{Bool, true, false, cond}
use mathlib.Core.Logic.{◌≢◌, inl, inr}
use mathlib.Core.List.{List, [], ◌∷◌, ◌++◌}
use native.Mathlib.Decide.{dec_lt, ℕ_discrete}
use native.Mathlib.Nat.{pow-suc, pow-le-pow_right, mul-le-mul_right}
use native.Mathlib.Omega.{arith}
use lib.ListN.{length, length-drop, take, drop}
use lib.Seq.{append_snoc, ext_get_or, get_or-take, get_or-drop, length-take-le}
use lib.Dec.{eqb}
use borrow.Author.Tests.{eqb-true, lt-ltb, le-ltb}
use Rattle.rules.proofs.Booleans.{cons-first, cons-rest, nil-cons}
use Rattle.rules.specs.Areas.{byte}
use Rattle.text.specs.Lines.{decimal, hex, field, tick_text, tick_line, refused_line}
use Rattle.text.specs.Characters.{cut_from, Digits, read_from, Reads}
use Rattle.text.proofs.Numbers.{length-decimal, decimal-reads}
use Rattle.text.proofs.Characters.{length-tick-text}
use Rattle.text.proofs.TickText.{port-field, count-part, all-spaces, clock-part}
use Rattle.pages.specs.Pages.{ended}
use Rattle.pages.proofs.Lines.{ended-one}
use Rattle.readback.specs.TapePrinted.{RefusedLine, HexDigit, Identifier, PortField, TickLine}
use Rattle.readback.proofs.LinesRead.{refused-line, refused-reads, sum}

-- ---- a text by its lines

cut-some : (line text : List ℕ) → cut_from line text ≢ []
unfolding cut_from
cut-some line [] e = nil-cons (sym e)
cut-some line (c ∷ cs) e = go (eqb c 10) (cut-some (line ++ (c ∷ [])) cs) e
  where
    go : (b : Bool) → cut_from (line ++ (c ∷ [])) cs ≢ [] → cond b (line ∷ cut_from [] cs) (cut_from (line ++ (c ∷ [])) cs) ≡ [] → ⊥
    go true later f = nil-cons (sym f)
    go false later f = later f

-- What is cut into lines and nothing after the last is these lines, each with its line feed.
pub uncut : (line text : List ℕ) (ls : List (List ℕ)) → cut_from line text ≡ ls ++ ([] ∷ []) → line ++ text ≡ ended ls
unfolding cut_from ended
uncut line [] [] e = rw (cons-first e)
uncut line [] (l ∷ []) e = nil-cons (cons-rest e)
uncut line [] (l ∷ m ∷ ls) e = nil-cons (cons-rest e)
uncut line (c ∷ cs) ls e = go (eqb c 10) refl ls (λ read ms. uncut read cs ms) e
  where
    go : (b : Bool) → eqb c 10 ≡ b → (ls : List (List ℕ)) → ((read : List ℕ) (ms : List (List ℕ)) → cut_from read cs ≡ ms ++ ([] ∷ []) → read ++ cs ≡ ended ms)
        → cond b (line ∷ cut_from [] cs) (cut_from (line ++ (c ∷ [])) cs) ≡ ls ++ ([] ∷ []) → line ++ (c ∷ cs) ≡ ended ls
    go true f [] later h = absurd (cut-some [] cs (cons-rest h))
    go true f (l ∷ ls) later h = rw (eqb-true c 10 f, cons-first h, append_snoc l 10 (ended ls), later [] ls (cons-rest h))
    go false f ls later h = sym (append_snoc line c cs) ∙ later (line ++ (c ∷ [])) ls h

-- ---- digits

-- Digits after others that make n: the number lies between n and the next number, each with as many zeros behind.
read-within : (cs : List ℕ) (n : ℕ) → Digits cs → (n * 10 ^ length cs ≤ read_from n cs) × (read_from n cs < suc n * 10 ^ length cs)
unfolding Digits read_from
read-within [] n d = (omega arith, omega arith)
read-within (c ∷ cs) n (d, ds) =
    let m = 10 * n + (c - 48) in
    let (low, high) = read-within cs m ds in
    let p = 10 ^ length cs in
    let above : 10 * n * p ≤ m * p = mul-le-mul_right p (omega arith) in
    let below : suc m * p ≤ 10 * suc n * p = mul-le-mul_right p (omega arith) in
    rw (pow-suc 10 (length cs)) (omega arith, omega arith)

-- As many digits of one number are the same digits.
digits_same : (a b : List ℕ) (m n : ℕ) → length a ≡ length b → Digits a → Digits b → read_from m a ≡ read_from n b → (m ≡ n) × (a ≡ b)
unfolding Digits read_from
digits_same [] [] m n l x y e = (e, refl)
digits_same [] (d ∷ b) m n l x y e = absurd (omega arith)
digits_same (c ∷ a) [] m n l x y e = absurd (omega arith)
digits_same (c ∷ a) (d ∷ b) m n l (x, xs) (y, ys) e =
    let (f, g) = digits_same a b (10 * m + (c - 48)) (10 * n + (d - 48)) (omega arith) xs ys e in
    (omega arith, ap₂ (λ (i : ℕ) (t : List ℕ). i ∷ t) (omega arith) g)

module _ {cs : List ℕ} {v : ℕ} (R : Reads cs v) where
  reads-below : v < 10 ^ length cs
  reads-below = let h = (read-within cs 0 R.digits).1 in omega arith

  reads-fixed : (n : ℕ) → length cs ≡ n → cs ≡ decimal n v
  reads-fixed n e =
      let ours = decimal-reads n v (rw e at reads-below) in
      (digits_same cs (decimal n v) 0 0 (omega (arith, length-decimal n v)) R.digits ours.digits (omega arith)).1

-- A number of more than six digits has no zero in front, so of two for one value neither has more digits.
no_longer : (a b : List ℕ) {v : ℕ} → Reads a v → Reads b v → 6 ≤ length a → (6 < length b → byte b 0 ≢ 48) → length b ≤ length a
unfolding Digits read_from
no_longer a [] x y six first = omega arith
no_longer a (c ∷ cs) {v} x y six first = go (dec_lt (length cs) (length a)) (dec_lt 48 c)
  where
    go : Dec (length cs < length a) → Dec (48 < c) → suc (length cs) ≤ length a
    go (yes h) d = h
    go (no h) (no m) = absurd (first (omega arith) (let d = y.digits.0 in omega arith))
    go (no h) (yes m) =
        let low = (read-within cs (10 * 0 + (c - 48)) y.digits.1).0 in
        let some : 1 * 10 ^ length cs ≤ (10 * 0 + (c - 48)) * 10 ^ length cs = mul-le-mul_right (10 ^ length cs) (omega arith) in
        absurd (omega (arith, y.value, reads-below x, pow-le-pow_right {n = 10} (omega arith) {i = length a} {j = length cs} (omega arith)))

-- ---- R lines

-- Lines with the same number and refusal are the same.
refused-same : {k q : ℕ} {l m : List ℕ} → RefusedLine k q l → RefusedLine k q m → l ≡ m
refused-same R S =
    let x = R.number_reads in
    let y = S.number_reads in
    let long = no_longer R.number S.number x y R.six S.unpadded in
    let short = no_longer S.number R.number y x S.six R.unpadded in
    let number = (digits_same R.number S.number 0 0 (omega arith) x.digits y.digits (x.value ∙ sym y.value)).1 in
    let refusal = reads-fixed R.refusal_reads 2 R.two ∙ sym (reads-fixed S.refusal_reads 2 S.two) in
    R.parts ∙ ap₂ (λ (n r : List ℕ). 82 ∷ 32 ∷ n ++ (32 ∷ r)) number refusal ∙ sym S.parts

pub refused-ended : {k q : ℕ} {l : List ℕ} → RefusedLine k q l → k < 10 ^ 20 → refused_line k q ≡ ended (l ∷ [])
refused-ended {k} {q} {l} R few =
    let small : q < 100 = rw R.two at (reads-below R.refusal_reads) in
    rw (ended-one l, refused-same R (refused-reads k q few small)) (refused-line k q)

-- ---- T lines

hex-fixed : (d c : ℕ) → HexDigit d c → (d < 16) × (c ≡ hex d)
hex-fixed d c (inl (h, e)) = (omega arith, rw (lt-ltb d 10 h) e)
hex-fixed d c (inr (h, m, e)) = (m, rw (le-ltb d 10 h) e)

-- Three characters by their bytes.
three : (f : List ℕ) (a b c : ℕ) → length f ≡ 3 → byte f 0 ≡ a → byte f 1 ≡ b → byte f 2 ≡ c → f ≡ a ∷ b ∷ c ∷ []
three [] a b c l x y z = absurd (omega arith)
three (d ∷ []) a b c l x y z = absurd (omega arith)
three (d ∷ e ∷ []) a b c l x y z = absurd (omega arith)
three (d ∷ e ∷ g ∷ []) a b c l x y z = rw (x, y, z)
three (d ∷ e ∷ g ∷ h ∷ f) a b c l x y z = absurd (omega arith)

identifier-fixed : (i letter : ℕ) (f : List ℕ) → length f ≡ 3 → Identifier i letter f → f ≡ hex (i / 16) ∷ hex (i % 16) ∷ letter ∷ []
identifier-fixed i letter f l I =
    let (a, x) = hex-fixed I.high (byte f 0) I.first in
    let (b, y) = hex-fixed I.low (byte f 1) I.second in
    let high : I.high ≡ i / 16 = omega arith in
    let low : I.low ≡ i % 16 = omega arith in
    three f (hex (i / 16)) (hex (i % 16)) letter l (x ∙ ap hex high) (y ∙ ap hex low) I.third

field_fixed : (code i : ℕ) (f : List ℕ) → length f ≡ 3 → PortField code i f → f ≡ field code i
unfolding field
field_fixed zero i f l P = P.nobody refl
field_fixed (suc zero) i f l P = identifier-fixed i 78 f l (P.on_time refl)
field_fixed (suc (suc zero)) i f l P = P.when_best_effort refl
field_fixed (suc (suc (suc zero))) i f l P = identifier-fixed i 69 f l (P.early refl)
field_fixed (suc (suc (suc (suc n)))) i f l P = absurd (omega (arith, P.known))

-- Two texts with the same part at i, and a place inside it.
part-byte : (l m : List ℕ) (n i x : ℕ) → take n (drop i l) ≡ take n (drop i m) → i ≤ x → x < i + n → byte l x ≡ byte m x
part-byte l m n i x e a b =
    let place : i + (x - i) ≡ x = omega arith in
    let at : (k : List ℕ) → byte (take n (drop i k)) (x - i) ≡ byte k x = λ k. get_or-take n (drop i k) (x - i) 0 (omega arith) ∙ get_or-drop i k (x - i) 0 ∙ ap (byte k) place in
    sym (at l) ∙ ap (λ (k : List ℕ). byte k (x - i)) e ∙ at m

module _ {t : ℕ} {out ans l : List ℕ} (T : TickLine t out ans l) where
  abbrev ours : List ℕ
  ours = tick_text t out ans

  length_three : (i : ℕ) → i ≤ 27 → length (take 3 (drop i l)) ≡ 3
  length_three i h = length-take-le 3 (drop i l) (omega (arith, length-drop i l, T.width))

  clock-same : take 3 (drop 2 l) ≡ take 3 (drop 2 ours)
  clock-same = reads-fixed T.clock_reads 3 (length_three 2 (omega arith)) ∙ sym (clock-part t out ans)

  port-same : (p : ℕ) → p < 5 → take 3 (drop (6 + 4 * p) l) ≡ take 3 (drop (6 + 4 * p) ours)
  port-same p h = field_fixed (byte ans p) (byte out (20 * p)) (take 3 (drop (6 + 4 * p) l)) (length_three (6 + 4 * p) (omega arith)) (T.ports p h) ∙ sym (port-field t out ans p h)

  count_same : drop 26 l ≡ drop 26 ours
  count_same = reads-fixed T.withdrawn_reads 4 (omega (arith, length-drop 26 l, T.width)) ∙ ap (decimal 4) (sym (sum t out ans)) ∙ sym (count-part t out ans)

  -- By the places: the number withdrawn, the letter, the spaces, the clock and the ports' fields.
  tick-fixed : l ≡ ours
  unfolding tick_text
  tick-fixed = ext_get_or 0 l ours (T.width ∙ sym (length-tick-text t out ans)) (λ i h. go i (omega (arith, T.width)) (dec_lt i 26) (dec_lt 0 i) (ℕ_discrete (i % 4) 1) (dec_lt i 5))
    where
      go : (i : ℕ) → i < 30 → Dec (i < 26) → Dec (0 < i) → Dec (i % 4 ≡ 1) → Dec (i < 5) → byte l i ≡ byte ours i
      go i h (no a) b c d = part-byte l ours 4 26 i (ap (take 4) count_same) (omega arith) (omega arith)
      go i h (yes a) (no b) c d = let e : i ≡ 0 = omega arith in rw e T.letter
      go i h (yes a) (yes b) (yes c) d = let e : i ≡ 1 + 4 * (i / 4) = omega arith in rw e (T.spaces (i / 4) (omega arith) ∙ sym (all-spaces t out ans (i / 4) (omega arith)))
      go i h (yes a) (yes b) (no c) (yes d) = part-byte l ours 3 2 i clock-same (omega arith) (omega arith)
      go i h (yes a) (yes b) (no c) (no d) = part-byte l ours 3 (6 + 4 * ((i - 6) / 4)) i (port-same ((i - 6) / 4) (omega arith)) (omega arith) (omega arith)

  pub tick-ended : tick_line t out ans ≡ ended (l ∷ [])
  unfolding tick_line
  tick-ended = rw (ended-one l, tick-fixed)
