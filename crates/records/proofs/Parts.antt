-- The records of two inputs that are joined. Assumes nothing.
use Prim.Native.Nat.{ℕ, suc, ◌+◌, ◌*◌, ◌≤◌}
use mathlib.Core.Path.{◌≡◌}
use mathlib.Core.List.{List, ◌++◌}
use native.Mathlib.Omega.{arith}
use lib.ListN.{length, drop, length-drop}
use lib.Seq.{take-append-le, drop-append-le, drop-append-add}
use Rattle.records.specs.Records.{record_length, record_at}

module _ (a b : List ℕ) where
  pub record-of-first : (i : ℕ) → record_length * suc i ≤ length a → record_at (a ++ b) i ≡ record_at a i
  record-of-first i h =
      let rest = drop (record_length * i) a in
      rw (drop-append-le (record_length * i) a b (omega arith)) (take-append-le record_length rest b (rw (length-drop (record_length * i) a) (omega arith)))

  pub record-of-second : (n i : ℕ) → length a ≡ record_length * n → record_at (a ++ b) (n + i) ≡ record_at b i
  record-of-second n i whole =
      let e : record_length * (n + i) ≡ length a + record_length * i = omega arith in
      rw (e, drop-append-add a b (record_length * i))
