-- Fig. 7 of document 001 where the ports choose: the line that a port sees of a slot, what it makes of the line, and what the comparator gets. Assumes nothing.
use Rattle.std.specs.Prelude.{ℕ, ◌+◌, ◌*◌, ◌<◌, ◌≡◌, true, false, List, length, get_or, pos}
use Rattle.std.proofs.Math.Option.{Option, none, some}
use Rattle.rules.specs.Areas.{Bytes, bits, has}
use Rattle.rules.specs.Board.{Time, Deadline, Mask, clock, board8}
use Rattle.rules.specs.Order as Order
use Rattle.rules.specs.Tick.{candidate}
use Rattle.passes.specs.Ranks.{lesser}
use Rattle.clock.specs.Cases.{Fig7}
use Rattle.clock.specs.declared.Key.{Key}
use Rattle.clock.specs.declared.Key.TheVariants.{OnTime, Early}

-- Port p sees the line o of slot i: ineligible, if the slot's mask has not the port.
abbrev pub Sees : List ℕ → ℕ → ℕ → Option Key → Type 0
Sees s p i o = Fig7 (bits 1) (has (board8.get s (Mask, i)) p) (board8.get s (Time, i)) (board8.get s (Deadline, i)) (board8.get s clock) o

-- ---- ranks

-- A key and the slot that has it as one number.
abbrev pub rank_by : Key → ℕ → ℕ
rank_by (OnTime k q) i = (k * 256 + q) * 256 + i
rank_by (Early k q) i = 16777216 + ((k * 256 + q) * 256 + i)

-- r is that of the line of slot i, for a port of its mask.
unfoldable pub RankOf : List ℕ → ℕ → ℕ → Type 0
RankOf s i r = (k : Key) × Fig7 (bits 1) true (board8.get s (Time, i)) (board8.get s (Deadline, i)) (board8.get s clock) (some k) × (r ≡ rank_by k i)

-- What a port's least rank n becomes by the line of slot i: it stays, if the slot is ineligible.
abbrev pub offered : Option Key → ℕ → ℕ → ℕ
offered none i n = n
offered (some k) i n = lesser (rank_by k i) n

-- Of the five least ranks l slot i makes l', each by the line that its port sees.
pub record Offered (s : List ℕ) (i : ℕ) (l l' : List ℕ) : Type 0 where
  pub each : (p : ℕ) → p < 5 → (o : Option Key) × Sees s p i o × (get_or l' p 0 ≡ offered o i (get_or l p 0))

-- ---- the comparator

-- It gets the line's bit and number, and of an ineligible slot nothing.
abbrev pub Gets : Option Key → Option Order.Key → Type 0
Gets none none = Unit {0}
Gets none (some c) = ⊥
Gets (some k) none = ⊥
Gets (some (OnTime k q)) (some c) = (c.early ≡ false) × (c.key ≡ pos k)
Gets (some (Early k q)) (some c) = (c.early ≡ true) × (c.key ≡ pos k)

-- Of every slot, on every port.
unfoldable pub CandidatesAreLines : Type 0
CandidatesAreLines = (s : List ℕ) → Bytes s → length s ≡ 1804 → (p i : ℕ) → i < 256 → (o : Option Key) × Sees s p i o × Gets o (candidate board8 s p i)
