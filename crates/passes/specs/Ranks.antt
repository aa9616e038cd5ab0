-- A slot's keys and address as one number, the least of them for a port, and whom it grants the port. Assumes nothing.
use Rattle.std.specs.Prelude.{ℕ, ◌+◌, ◌*◌, ◌^◌, Bool, cond, List, ltb}
use Rattle.std.proofs.Math.Option.{Option, none, some}
use Rattle.rules.specs.Clock.{plus, minus}
use Rattle.rules.specs.Order.{Key, comparator, least, counted}
use Rattle.rules.specs.Areas.{bits, half}
use Rattle.rules.specs.Board.{Board, Time, Deadline, clock}
use Rattle.rules.specs.Tick.{is_early, candidate}

-- The lesser of two.
abbrev pub lesser : ℕ → ℕ → ℕ
lesser r b = cond (ltb r b) r b

module _ (B : Board) where
  open B use {clock_bytes as c, get}

  -- A turn of the clock, which both keys are below.
  abbrev pub turn : ℕ
  turn = 2 ^ bits c

  -- The key of slot i of either sort, and its second key from 0 on: an offset counts from half a turn before the clock.
  abbrev pub first_digit : Bool → List ℕ → ℕ → ℕ
  first_digit e s i = minus (bits c) (cond e (get s (Time, i)) (get s (Deadline, i))) (get s clock)

  abbrev pub second_digit : Bool → List ℕ → ℕ → ℕ
  second_digit e s i = cond e (minus (bits c) (get s (Deadline, i)) (get s clock)) (plus (bits c) (minus (bits c) (get s (Time, i)) (get s clock)) (half c))

  -- What the comparator sees of slot i, early if e, as the digits of a number: first whether it is early, then the key, then the second key.
  abbrev pub key_digits_of : Bool → List ℕ → ℕ → ℕ
  key_digits_of e s i = (counted e * turn + first_digit e s i) * turn + second_digit e s i

  abbrev pub key_digits : List ℕ → ℕ → ℕ
  key_digits s i = key_digits_of (is_early B s i) s i

  -- The rank of slot i, for each port in its mask: with the slot as the lowest digit.
  abbrev pub slot_rank : List ℕ → ℕ → ℕ
  slot_rank s i = key_digits s i * 256 + i

  -- What is above all ranks.
  abbrev pub no_rank : ℕ
  no_rank = 2 * turn * turn * 256

  -- The rank of the least slot, if there is one.
  unfoldable pub rank_of : List ℕ → Option (ℕ × Key) → ℕ
  rank_of s (some (i, k)) = slot_rank s i
  rank_of s none = no_rank

  -- The least rank for port p of the slots below i.
  unfoldable pub best : List ℕ → ℕ → ℕ → ℕ
  best s i p = rank_of s (least comparator (candidate B s p) i)
