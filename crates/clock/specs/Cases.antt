-- Fig. 7 of document 001 for a clock of b bits: its cases, its three lines in plain sums and differences of a case, and the key. Assumes nothing.
use Rattle.std.specs.Prelude.{◌≡◌, ℕ, pred, ◌+◌, ◌-◌, ◌^◌, ◌<◌, ◌≤◌, Bool, cond, pos, ◌==◌, int_lt}
use Rattle.std.proofs.Math.Option.{Option, none, some}
use Rattle.rules.specs.Clock.{plus, minus, offset}
use Rattle.clock.specs.declared.Case.{Case}
use Rattle.clock.specs.declared.Case.TheVariants.{Behind, BehindAcross, Ahead, AheadAcross}
use Rattle.clock.specs.declared.Key.{Key}
use Rattle.clock.specs.declared.Key.TheVariants.{OnTime, Early}

-- When a case holds of the time x at the clock reading t: x is t or behind it by at most half a turn, or ahead of it by less, in the same turn of the clock or across it.
abbrev pub Holds : ℕ → Case → ℕ → ℕ → Type 0
Holds b Behind x t = (x ≤ t) × (t ≤ x + 2 ^ pred b)
Holds b BehindAcross x t = t + 2 ^ pred b ≤ x
Holds b Ahead x t = (t < x) × (x < t + 2 ^ pred b)
Holds b AheadAcross x t = x + 2 ^ pred b < t

-- It holds, and no other does.
pub record TheCase (b : ℕ) (c : Case) (x t : ℕ) : Type 0 where
  pub holds : Holds b c x t
  pub only : (d : Case) → Holds b d x t → d ≡ c

-- Of each time at each reading exactly one case holds.
abbrev pub ExactlyOne : ℕ → Type 0
ExactlyOne b = (x t : ℕ) → (c : Case) × TheCase b c x t

-- How many ticks n is short of a turn; 0 is short of none.
abbrev pub rest_of : ℕ → ℕ → ℕ
rest_of b n = cond (n == 0) 0 (2 ^ b - n)

-- ---- the figure's lines

-- How far a time x is ahead of t, by its case: x - t.
abbrev pub ahead_by : ℕ → Case → ℕ → ℕ → ℕ
ahead_by b Behind x t = rest_of b (t - x)
ahead_by b BehindAcross x t = x - t
ahead_by b Ahead x t = x - t
ahead_by b AheadAcross x t = rest_of b (t - x)

-- "On-time: 0 0 l(m) + d - t", "Early: 0 1 l(m) - t": the line of a packet by the case of its time x, where l is deadline - t. The constructor is the figure's second bit, the first number the figure's.
-- The second number decides among equal ones (document 02, [4]): how far x is after half a turn before t, and for an early one l.
abbrev pub key_by : ℕ → Case → ℕ → ℕ → ℕ → Key
key_by b Behind x t l = OnTime l (2 ^ pred b - (t - x))
key_by b BehindAcross x t l = OnTime l (x - t - 2 ^ pred b)
key_by b Ahead x t l = Early (x - t) l
key_by b AheadAcross x t l = Early (rest_of b (t - x)) l

-- "Ineligible: 1 - -": a packet that is not destined to the port has no key there.
abbrev pub ineligible : Option Key
ineligible = none

-- What a port sees at t of a packet of time x and deadline d, by their cases; the packet is destined to the port if `eligible`.
abbrev pub line : ℕ → Bool → Case → Case → ℕ → ℕ → ℕ → Option Key
line b eligible c e x d t = cond eligible (some (key_by b c x t (ahead_by b e d t))) ineligible

-- It sees o: the line of the cases that hold.
pub record Fig7 (b : ℕ) (eligible : Bool) (x d t : ℕ) (o : Option Key) : Type 0 where
  pub time_case : Case
  pub deadline_case : Case
  pub time_holds : TheCase b time_case x t
  pub deadline_holds : TheCase b deadline_case d t
  pub seen : o ≡ line b eligible time_case deadline_case x d t

-- n is how far x is ahead of t, by the case that holds.
abbrev pub AheadBy : ℕ → ℕ → ℕ → ℕ → Type 0
AheadBy b x t n = (c : Case) × TheCase b c x t × (n ≡ ahead_by b c x t)

-- ---- the key

-- The key at t of a packet of time x and deadline d, early if e (document 01, "A tick", step 2, and document 02, [4]); an offset counts from half a turn before t.
abbrev pub key_if : ℕ → Bool → ℕ → ℕ → ℕ → Key
key_if b e x d t = cond e (Early (minus b x t) (minus b d t)) (OnTime (minus b d t) (plus b (minus b x t) (2 ^ pred b)))

abbrev pub key_of : ℕ → ℕ → ℕ → ℕ → Key
key_of b x d t = key_if b (int_lt (pos 0) (offset b x t)) x d t
