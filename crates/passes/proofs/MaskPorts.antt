-- Ports of any mask: a mask has those of its five low bits, and the numbers of its ports, changed, are those of a definition. Assumes nothing.
use Prim.Native.Nat.{ℕ, zero, suc, ◌+◌, ◌-◌, ◌*◌, ◌/◌, ◌%◌, ◌^◌, ◌<◌, ◌≤◌}
use mathlib.Core.Path.{◌≡◌, refl, sym, ap, ◌∙◌}
use mathlib.Core.Bool.{Bool, true, false, cond}
use mathlib.Core.List.{List, [], ◌∷◌}
use mathlib.Core.Logic.{◌≢◌}
use native.Mathlib.Decide.{dec_lt}
use native.Mathlib.Nat.{div-eq_of_lt}
use native.Mathlib.Omega.{arith}
use lib.Dec.{eqb}
use lib.ListN.{length, get_or}
use lib.Seq.{ext_get_or}
use borrow.Author.Tests.{eqb-true}
use Rattle.rules.specs.Areas.{has, without, ports_below, per_port}
use Rattle.rules.proofs.AreaLaws.{length-ports_below}
use Rattle.rules.proofs.Masks.{has-without-other}
use Rattle.passes.specs.Ports.{EachPort, changed}

-- ---- the five low bits

-- By the port.
pub has-low : (m p : ℕ) → p < 5 → has (m % 32) p ≡ has m p
unfolding has
has-low m p h = ap (λ (x : ℕ). eqb x 1) (bit p h)
  where
    bit : (p : ℕ) → p < 5 → m % 32 / 2 ^ p % 2 ≡ m / 2 ^ p % 2
    bit zero h = omega arith
    bit (suc zero) h = omega arith
    bit (suc (suc zero)) h = omega arith
    bit (suc (suc (suc zero))) h = omega arith
    bit (suc (suc (suc (suc zero)))) h = omega arith
    bit (suc (suc (suc (suc (suc p))))) h = absurd (omega arith)

-- A mask that has a port is at least the port's bit.
has-bit : (m p : ℕ) → has m p ≡ true → 2 ^ p ≤ m
unfolding has
has-bit m p h = go (dec_lt m (2 ^ p))
  where
    go : Dec (m < 2 ^ p) → 2 ^ p ≤ m
    go (yes l) = let z : ◌≡◌ {A = ℕ} (m / 2 ^ p) 0 = div-eq_of_lt l in let e = eqb-true (m / 2 ^ p % 2) 1 h in absurd (omega arith)
    go (no n) = omega arith

-- A port that it has leaves the mask by its bit.
pub without-bit : (m p : ℕ) → has m p ≡ true → without m p + 2 ^ p ≡ m
unfolding without
without-bit m p h = rw h (let l = has-bit m p h in omega arith)

-- A port leaves the five low bits, and the others stay as they are.
without-low : (m p : ℕ) → p < 5 → without m p ≡ 32 * (m / 32) + without (m % 32) p
unfolding without
without-low m p h = rw (← has-low m p h) (go (has (m % 32) p) refl)
  where
    go : (t : Bool) → has (m % 32) p ≡ t → cond t (m - 2 ^ p) m ≡ 32 * (m / 32) + cond t (m % 32 - 2 ^ p) (m % 32)
    go true e = let l = has-bit (m % 32) p e in omega arith
    go false e = omega arith

-- A port that leaves a mask leaves the others there.
pub has-without : (m p q : ℕ) → p < 5 → q < 5 → q ≢ p → has (without m p) q ≡ has m q
has-without m p q hp hq n =
    let x = without (m % 32) p in
    let k = 32 * (m / 32) in
    let l : (k + x) % 32 ≡ x % 32 = omega arith in
    sym (has-low (without m p) q hq) ∙ ap (λ (y : ℕ). has (y % 32) q) (without-low m p hp) ∙ ap (λ (y : ℕ). has y q) l
    ∙ has-low x q hq ∙ has-without-other (m % 32) p q (omega arith) hp hq n ∙ has-low m q hq

-- A port's bit, as a byte shifts to it.
pub bit_le : (p : ℕ) → p < 5 → 2 ^ p ≤ 16
bit_le zero h = omega arith
bit_le (suc zero) h = omega arith
bit_le (suc (suc zero)) h = omega arith
bit_le (suc (suc (suc zero))) h = omega arith
bit_le (suc (suc (suc (suc zero)))) h = omega arith
bit_le (suc (suc (suc (suc (suc p))))) h = absurd (omega arith)

pub bit_shifted : (p : ℕ) → p < 5 → 1 * 2 ^ p % 256 ≡ 2 ^ p
bit_shifted p h = let l = bit_le p h in omega arith

-- ---- five numbers

-- Those of the ports in a mask are changed, and the others stay.
pub each-changed : (h : ℕ → ℕ) (m : ℕ) (old new : List ℕ) → length new ≡ 5 → ((p x : ℕ) → p < 5 → has m p ≡ true → get_or new p x ≡ h (get_or old p x))
    → ((p x : ℕ) → p < 5 → has m p ≡ false → get_or new p x ≡ get_or old p x) → EachPort (changed h m old) new
each-changed h m old new five on off = record { five = five; each = λ p l. go p l (has m p) refl }
  where
    go : (p : ℕ) → p < 5 → (t : Bool) → has m p ≡ t → get_or new p 0 ≡ changed h m old p
    go p l true e = rw e (on p 0 l e)
    go p l false e = rw e (off p 0 l e)

-- Numbers that agree.
pub each-as : {f g : ℕ → ℕ} {l : List ℕ} → EachPort f l → ((p : ℕ) → p < 5 → f p ≡ g p) → EachPort g l
each-as E h = record { five = E.five; each = λ p l. E.each p l ∙ h p l }

-- One after the other they are the list.
pub each-per_port : (f : ℕ → ℕ) (l : List ℕ) → EachPort f l → l ≡ per_port (λ p. f p ∷ [])
unfolding ports_below
each-per_port f l E =
    ext_get_or 0 l (per_port (λ p. f p ∷ [])) (E.five ∙ sym (length-ports_below 1 (λ p. f p ∷ []) 5 (λ p h. refl)))
    (λ p h. E.each p (omega (arith, E.five)) ∙ sym (part p (omega (arith, E.five))))
  where
    part : (p : ℕ) → p < 5 → get_or (per_port (λ p. f p ∷ [])) p 0 ≡ f p
    part zero h = refl
    part (suc zero) h = refl
    part (suc (suc zero)) h = refl
    part (suc (suc (suc zero))) h = refl
    part (suc (suc (suc (suc zero)))) h = refl
    part (suc (suc (suc (suc (suc p))))) h = absurd (omega arith)
