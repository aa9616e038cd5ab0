-- The answers area from its three parts: what the ports answer and what their arrivals met as they stand, and the counts, two bytes a port. Assumes nothing.
use Prim.Native.Nat.{ℕ, zero, suc, ◌+◌, ◌*◌, ◌/◌, ◌%◌, ◌<◌, ◌≤◌}
use mathlib.Core.Path.{◌≡◌, refl, sym, ap, ◌∙◌}
use mathlib.Core.List.{List, [], ◌∷◌, ◌++◌, append-nil}
use native.Mathlib.Numerals.{add-one}
use native.Mathlib.Omega.{arith}
use lib.ListN.{length, take, drop, set, length-append}
use lib.Seq.{sets, sets-eq, take_at, take_all, take-suc, length-sets}
use Rattle.rules.specs.Areas.{byte, ports_below, per_port, answers_area}
use Rattle.rules.proofs.AreaLaws.{filled, filled_next}

-- The two bytes of a port's count.
abbrev pub withdrawn : List ℕ → ℕ → List ℕ
withdrawn counts p = byte counts p / 256 ∷ byte counts p % 256 ∷ []

-- Port p's two bytes stored.
pub counts-next : (counts part : List ℕ) (p : ℕ) → length part ≡ 10 → p < 5
    → set (set (filled 2 (withdrawn counts) part p) (2 * p) (byte counts p / 256)) (2 * p + 1) (byte counts p % 256) ≡ filled 2 (withdrawn counts) part (p + 1)
counts-next counts part p e m = rw (add-one (2 * p), add-one p) (filled_next 2 (withdrawn counts) part p (λ q i. refl) (omega arith))

-- The numbers of a list, one after the other, are its beginning.
ports_below-bytes : (l : List ℕ) (n : ℕ) → n ≤ length l → ports_below (λ p. byte l p ∷ []) n ≡ take n l
unfolding ports_below
ports_below-bytes l zero h = refl
ports_below-bytes l (suc n) h = rw (ports_below-bytes l n (omega arith)) (sym (take-suc l n 0 (omega arith)))

-- Two parts of five stored from the area's start on, and the counts in the place of the rest.
pub laid : (area codes met counts l₁ l₂ w : List ℕ) → length area ≡ 20 → length codes ≡ 5 → length met ≡ 5 → l₁ ≡ sets area 0 codes → l₂ ≡ sets l₁ 5 met → w ≡ per_port (withdrawn counts)
    → (r : List ℕ) → length r ≡ 0 → take 10 l₂ ++ (w ++ r) ≡ answers_area (byte codes) (byte met) (byte counts)
unfolding answers_area
laid area codes met counts l₁ l₂ w n a b e f g (x ∷ r) z = absurd (omega arith)
laid area codes met counts l₁ l₂ w n a b e f g [] z =
    rw (append-nil w, g, ports_below-bytes codes 5 (omega arith), ports_below-bytes met 5 (omega arith), take_all 5 codes (omega arith), take_all 5 met (omega arith)) (ap (λ (l : List ℕ). l ++ per_port (withdrawn counts)) parts)
  where
    first : l₁ ≡ codes ++ drop 5 area
    first = e ∙ sets-eq codes area 0 (omega arith) ∙ rw a

    second : l₂ ≡ (codes ++ met) ++ drop (5 + 5) l₁
    second =
        let k = length-sets area 0 codes in
        let s = ap length e in
        f ∙ sets-eq met l₁ 5 (omega arith) ∙ rw (b) (ap (λ (l : List ℕ). (l ++ met) ++ drop (5 + 5) l₁) (ap (take 5) first ∙ take_at codes (drop 5 area) 5 a))

    parts : take 10 l₂ ≡ codes ++ met
    parts = ap (take 10) second ∙ take_at (codes ++ met) (drop (5 + 5) l₁) 10 (length-append codes met ∙ omega arith)
