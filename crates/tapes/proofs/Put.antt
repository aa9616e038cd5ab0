-- Texts one after the other in a lent area: `sets` of a text after a text is `sets` of both, so `Put` after `Put` is `Put`. Assumes nothing.
use Prim.Native.Nat.{ℕ, suc, ◌+◌}
use mathlib.Core.Path.{◌≡◌, ◌∙◌}
use mathlib.Core.List.{List, [], ◌∷◌, ◌++◌}
use native.Mathlib.Nat.{add-zero, add-suc, suc-add}
use native.Mathlib.Omega.{arith}
use lib.ListN.{length, length-append, set}
use lib.Seq.{sets}
use Rattle.text.specs.Put.{Put}

sets-append : (l : List ℕ) (at : ℕ) (a b : List ℕ) → sets (sets l at a) (at + length a) b ≡ sets l at (a ++ b)
sets-append l at [] b = rw add-zero
sets-append l at (x ∷ a) b = rw (add-suc at (length a), ← suc-add at (length a)) (sets-append (set l at x) (suc at) a b)

pub put_then : {a b : List ℕ} {at m r : ℕ} {l l' l'' : List ℕ} → Put a at l l' m → Put b m l' l'' r → Put (a ++ b) at l l'' r
put_then {a} {b} {at} {m} {r} {l} p q = record { stored = q.stored ∙ rw (p.stored, p.ends) (sets-append l at a b); ends = rw (q.ends, p.ends, length-append) (omega arith) }
