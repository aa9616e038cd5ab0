-- The lines of a tape read back: a number by its digits, a tick's fields by the places in which they stand. Assumes nothing.
use Prim.Native.Nat.{ℕ, zero, suc, max, ◌+◌, ◌*◌, ◌/◌, ◌%◌, ◌^◌, ◌≤◌, ◌<◌}
use mathlib.Core.Path.{◌≡◌, refl, subst}
use mathlib.Core.Logic.{◌≢◌, inl, inr}
use mathlib.Core.List.{List, [], ◌∷◌, ◌++◌}
use native.Mathlib.Decide.{dec_lt, dec_le}
use native.Mathlib.Nat.{pow-le-pow_right}
use native.Mathlib.Omega.{arith}
use borrow.Author.Tests.{lt-ltb, le-ltb}
use Rattle.rules.specs.Areas.{byte}
use Rattle.text.specs.Lines.{decimal, digits_of, record_number, hex, field, withdrawn_below, withdrawn_sum, refused_line, tick_text}
use Rattle.text.specs.Characters.{NoFeed, Reads}
use Rattle.text.proofs.Numbers.{length-decimal, decimal-reads, digits-short, digits-hold, first-no-zero}
use Rattle.text.proofs.Characters.{length-tick-text, no-feed-append, no-feed-decimal}
use Rattle.text.proofs.TickText.{port-field, count-part, all-spaces, clock-part}
use Rattle.readback.specs.TapePrinted.{RefusedLine, HexDigit, Identifier, PortField, withdrawn_on, TickLine}

-- ---- R lines

-- The line without its line feed.
abbrev pub refused_text : ℕ → ℕ → List ℕ
refused_text k q = 82 ∷ 32 ∷ record_number k ++ (32 ∷ decimal 2 q)

pub refused-line : (k q : ℕ) → refused_line k q ≡ refused_text k q ++ (10 ∷ [])
unfolding refused_line
refused-line k q = refl

pub no-feed-refused : (k q : ℕ) → NoFeed (refused_text k q)
unfolding NoFeed
no-feed-refused k q = ((λ e. omega arith), ((λ e. omega arith), no-feed-append (record_number k) (32 ∷ decimal 2 q) (no-feed-decimal _ k) ((λ e. omega arith), no-feed-decimal 2 q)))

-- Six digits or more hold the number; where there are more than six, they are its own.
number-held : (k : ℕ) → k < 10 ^ 20 → k < 10 ^ max 6 (digits_of k)
number-held k h = let own = digits-hold 19 k h in go (dec_le 6 (digits_of k)) own
  where
    go : Dec (6 ≤ digits_of k) → k < 10 ^ digits_of k → k < 10 ^ max 6 (digits_of k)
    go (yes l) own = let e : max 6 (digits_of k) ≡ digits_of k = omega arith in rw e own
    go (no l) own = let e : max 6 (digits_of k) ≡ 6 = omega arith in rw e (omega (arith, pow-le-pow_right {n = 10} (omega arith) {i = digits_of k} {j = 6} (omega arith)))

long-unpadded : (k : ℕ) → k < 10 ^ 20 → 6 < max 6 (digits_of k) → byte (record_number k) 0 ≢ 48
long-unpadded k h l =
    let e : max 6 (digits_of k) ≡ digits_of k = omega arith in
    rw e (first-no-zero 19 k (positive k (omega arith)) h)
  where
    positive : (v : ℕ) → 6 < digits_of v → 0 < v
    positive zero m = absurd (omega (arith, digits-short 19 0 (omega arith)))
    positive (suc v) m = omega arith

pub refused-reads : (k q : ℕ) → k < 10 ^ 20 → q < 100 → RefusedLine k q (refused_text k q)
refused-reads k q hk hq =
    let long = length-decimal (max 6 (digits_of k)) k in
    record {
      number = record_number k;
      refusal = decimal 2 q;
      parts = refl;
      number_reads = decimal-reads (max 6 (digits_of k)) k (number-held k hk);
      six = omega arith;
      unpadded = λ l. long-unpadded k hk (omega arith);
      refusal_reads = decimal-reads 2 q hq;
      two = length-decimal 2 q;
    }

-- ---- T lines

hex-digit : (d : ℕ) → d < 16 → HexDigit d (hex d)
hex-digit d h = go (dec_lt d 10)
  where
    go : Dec (d < 10) → HexDigit d (hex d)
    go (yes l) = inl (l, rw (lt-ltb d 10 l))
    go (no l) = inr (omega arith, h, rw (le-ltb d 10 (omega arith)))

identifier-reads : (i letter : ℕ) → i < 256 → Identifier i letter (hex (i / 16) ∷ hex (i % 16) ∷ letter ∷ [])
identifier-reads i letter h = record { high = i / 16; low = i % 16; value = omega arith; first = hex-digit (i / 16) (omega arith); second = hex-digit (i % 16) (omega arith); third = refl }

port-reads : (code i : ℕ) → code ≤ 3 → i < 256 → PortField code i (field code i)
unfolding field
port-reads code i known small = record {
  known = known;
  nobody = λ e. rw e;
  on_time = λ e. rw e (identifier-reads i 78 small);
  when_best_effort = λ e. rw e;
  early = λ e. rw e (identifier-reads i 69 small);
}

module _ (t : ℕ) (out ans : List ℕ) where
  pub sum : withdrawn_sum ans ≡ withdrawn_on ans 0 + withdrawn_on ans 1 + withdrawn_on ans 2 + withdrawn_on ans 3 + withdrawn_on ans 4
  unfolding withdrawn_below
  sum = omega arith

  pub tick-reads : t < 1000 → ((p : ℕ) → p < 5 → (byte ans p ≤ 3) × (byte out (20 * p) < 256)) → withdrawn_sum ans < 10000 → TickLine t out ans (tick_text t out ans)
  unfolding tick_text
  tick-reads small known few = record {
    width = length-tick-text t out ans;
    letter = refl;
    spaces = all-spaces t out ans;
    clock_reads = rw (clock-part t out ans) (decimal-reads 3 t small);
    ports = λ p h. rw (port-field t out ans p h) (port-reads (byte ans p) (byte out (20 * p)) (known p h).0 (known p h).1);
    withdrawn_reads = rw (count-part t out ans) (subst (Reads (decimal 4 (withdrawn_sum ans))) sum (decimal-reads 4 (withdrawn_sum ans) few));
  }
