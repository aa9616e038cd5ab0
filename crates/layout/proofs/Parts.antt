-- A part of an area replaced by as many bytes is the area with those bytes stored. Assumes nothing.
use Prim.Native.Nat.{ℕ, ◌+◌, ◌-◌, ◌≤◌}
use mathlib.Core.Path.{◌≡◌, sym}
use mathlib.Core.List.{List, ◌++◌, append_assoc}
use native.Mathlib.Omega.{arith}
use lib.ListN.{length, take, drop}
use lib.Seq.{sets, sets-eq, drop-drop}

-- The part goes from a to e, where the code has e as a sum.
pub part-stored : (q y : List ℕ) (a e : ℕ) → length y ≡ e - a → a ≤ e → e ≤ length q → take a q ++ (y ++ drop (e - a) (drop a q)) ≡ sets q a y
part-stored q y a e l o b =
    let n : a + length y ≡ e = omega arith in
    let k : a + (e - a) ≡ e = omega arith in
    let s = sets-eq y q a (omega arith) in
    rw (drop-drop (e - a) a q, k, ← append_assoc (take a q) y (drop e q)) (sym (rw n at s))
