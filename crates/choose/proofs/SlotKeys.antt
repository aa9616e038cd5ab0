-- A slot's rank and its key, from the key of its time and deadline: both go by whether the slot is early. Assumes nothing.
use Prim.Native.Nat.{ℕ, ◌+◌, ◌*◌}
use mathlib.Core.Path.{◌≡◌, refl}
use mathlib.Core.Bool.{Bool, true, false}
use mathlib.Core.List.{List}
use native.Mathlib.Omega.{arith}
use lib.IntN.{pos}
use Rattle.rules.specs.Areas.{bits, half}
use Rattle.rules.specs.Board.{Time, Deadline, clock, board8}
use Rattle.rules.specs.Order.{counted}
use Rattle.rules.specs.Tick.{is_early, slot_key_of, slot_key}
use Rattle.passes.specs.Ranks.{key_digits_of, slot_rank}
use Rattle.clock.specs.Cases.{key_if, key_of}
use Rattle.choose.specs.Lines.{rank_by}
use Rattle.clock.specs.declared.Key.{Key}
use Rattle.clock.specs.declared.Key.TheVariants.{OnTime, Early}

-- What the code makes of a key beside its rank: the key alone.
abbrev pub first_by : Key → ℕ
first_by (OnTime k q) = k
first_by (Early k q) = k

-- Of slot i, whose time is u and deadline d at the clock reading t, they are the slot's.
module _ (s : List ℕ) (i t u d : ℕ) (et : t ≡ board8.get s clock) (eu : u ≡ board8.get s (Time, i)) (ed : d ≡ board8.get s (Deadline, i)) (k : Key) (ek : k ≡ key_of (bits 1) u d t) where
  pub rank-by-key : rank_by k i ≡ slot_rank board8 s i
  unfolding bits half counted
  rank-by-key = rw (ek, et, eu, ed) (go (is_early board8 s i))
    where
      go : (e : Bool) → rank_by (key_if (bits 1) e (board8.get s (Time, i)) (board8.get s (Deadline, i)) (board8.get s clock)) i ≡ key_digits_of board8 e s i * 256 + i
      go true = omega arith
      go false = omega arith

  pub first-by-key : pos (first_by k) ≡ (slot_key board8 s i).key
  unfolding bits slot_key
  first-by-key = rw (ek, et, eu, ed) (go (is_early board8 s i))
    where
      go : (e : Bool) → pos (first_by (key_if (bits 1) e (board8.get s (Time, i)) (board8.get s (Deadline, i)) (board8.get s clock))) ≡ (slot_key_of board8 e s i).key
      go true = refl
      go false = refl
