-- A text in the part of a lent area that it fills. Assumes nothing.
use Prim.Native.Nat.{ℕ, ◌+◌, ◌-◌, ◌≤◌}
use mathlib.Core.Path.{◌≡◌, ◌∙◌}
use mathlib.Core.List.{List, ◌∷◌, ◌++◌}
use native.Mathlib.Omega.{arith}
use native.Mathlib.Numerals.{add-one}
use lib.ListN.{length, length-drop, length-set, set, take, drop, replicate, length-replicate}
use lib.Seq.{length-take-le}
use Rattle.layout.proofs.Parts.{part-stored}
use Rattle.text.specs.Lines.{decimal}
use Rattle.text.specs.Put.{Put}
use Rattle.text.proofs.Numbers.{length-decimal}

-- The part of k places from a on.
abbrev part : List ℕ → ℕ → ℕ → List ℕ
part q a k = take (a + k - a) (drop a q)

length-part : (q : List ℕ) (a k : ℕ) → a + k ≤ length q → length (part q a k) ≡ k
length-part q a k b = length-take-le (a + k - a) (drop a q) (omega (arith, length-drop a q)) ∙ omega arith

-- A character so many times.
pub put-repeated : (q y : List ℕ) (a k b : ℕ) → a + k ≤ length q → y ≡ replicate (length (part q a k)) b
    → Put (replicate k b) a q (take a q ++ (y ++ drop (a + k - a) (drop a q))) (a + k)
put-repeated q y a k b fits filled =
    let e : y ≡ replicate k b = rw (length-part q a k fits) at filled in
    let n : length (replicate k b) ≡ k = length-replicate k b in
    record { stored = rw e (part-stored q (replicate k b) a (a + k) (omega (arith, n)) (omega arith) fits); ends = rw n }

-- A character, and a number's last digits behind it.
pub put-digits : (c : ℕ) (q y : List ℕ) (a k v : ℕ) → a + 1 + k ≤ length q → y ≡ decimal (length (part (set q a c) (a + 1) k)) v
    → (let s = set q a c in Put (c ∷ decimal k v) a q (take (a + 1) s ++ (y ++ drop (a + 1 + k - (a + 1)) (drop (a + 1) s))) (a + 1 + k))
put-digits c q y a k v fits filled =
    let s = set q a c in
    let room : a + 1 + k ≤ length s = omega (arith, length-set q a c) in
    let e : y ≡ decimal k v = rw (length-part s (a + 1) k room) at filled in
    let n = length-decimal k v in
    let p = part-stored s (decimal k v) (a + 1) (a + 1 + k) (omega (arith, n)) (omega arith) room in
    record { stored = rw (e, add-one a) (rw (add-one a) at p); ends = omega (arith, n) }
