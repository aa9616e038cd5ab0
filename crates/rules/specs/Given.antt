-- What is said of a list of calls from the calls alone, at a clock reading of c bytes: the number due to each, what they wrote, its accepted ticks, and what is asked of it (document 01). No router is looked at. Assumes nothing.
use Rattle.std.specs.Prelude.{ℕ, zero, suc, ◌+◌, ◌*◌, ◌^◌, ◌<◌, ◌≡◌, Bool, true, false, cond, ◌&&◌, ◌||◌, length, ltb, eqb, ℤ, pos, neg_ℤ, ◌+ℤ◌, ◌-ℤ◌, ◌≤ℤ◌, ◌<ℤ◌}
use mathlib.Core.List.{List, [], ◌∷◌, map, Memᴰ}
use Rattle.std.proofs.Math.IntN.{suc_ℤ}
use Rattle.rules.specs.Clock.{cut}
use Rattle.rules.specs.Order.{counted}
use Rattle.rules.specs.Areas.{byte, Bytes, bits, half, has}
use Rattle.rules.specs.Whole.{Entry, Router, TickCall}
use Rattle.rules.specs.Calls.{Call, control, tick}

-- The number in the n bytes of an area from place i on, high byte first.
unfoldable pub number : ℕ → List ℕ → ℕ → ℕ
number zero area i = 0
number (suc n) area i = byte area i * 256 ^ n + number n area (suc i)

-- What the words that the claims share with the routers mean, at one byte of clock: a mask is the sum of its ports' values, a whole number cut is its remainder by 256, and half of the clock's turn is 128.
pub record Words : Type 0 where
  pub ports : (m : ℕ) → m < 32 → counted (has m 0) + 2 * counted (has m 1) + 4 * counted (has m 2) + 8 * counted (has m 3) + 16 * counted (has m 4) ≡ m
  pub remainder : (z : ℤ) → (cut (bits 1) z < 256) × (k : ℕ) × (q : ℕ) × (z +ℤ pos (256 * q) ≡ pos (cut (bits 1) z + 256 * k))
  pub turn : (2 ^ bits 1 ≡ 256) × (half 1 ≡ 128)

module _ (c : ℕ) where
  -- ---- each call's number

  -- A register takes the values below this: d (1) and a horizon (5), masks (2, 4), identifiers (0, 3).
  unfoldable pub limit : ℕ → ℕ
  limit register = cond (eqb register 1 || eqb register 5) (half c) (cond (eqb register 2 || eqb register 4) 32 256)

  -- The number due to a call of a sound router, from register and value, or from lengths and masks.
  unfoldable pub number_due : Call → ℕ
  number_due (control register v) = cond (ltb 5 register) 4 (cond (ltb v (limit register)) 0 5)
  number_due (tick k out ans) =
      cond (eqb (length k.arrivals) 100 && eqb (length out) 100 && eqb (length ans) 20) (cond (ltb k.arriving 32 && ltb k.best_effort 32) 0 3) 1

  -- ---- what was written

  -- The call is an accepted write of the register q, and the value that a call writes.
  unfoldable pub writes : ℕ → Call → Bool
  writes q (control register v) = eqb (number_due (control register v)) 0 && eqb register q
  writes q (tick k out ans) = false

  unfoldable pub value : Call → ℕ
  value (control register v) = v
  value (tick k out ans) = 0

  -- Of the calls so far the latest stands first. The register q holds what was last written to it, 0 at first.
  unfoldable pub last_written : ℕ → List Call → ℕ
  last_written q [] = 0
  last_written q (k ∷ past) = cond (writes q k) (value k) (last_written q past)

  -- Entry i was last committed by register 3 with the value i, from what registers 0, 1 and 2 held then.
  unfoldable pub last_entry : ℕ → List Call → Entry
  last_entry i [] = record { identifier = 0; delay = 0; mask = 0 }
  last_entry i (k ∷ past) = cond (writes 3 k && eqb (value k) i) (record { identifier = last_written 0 past; delay = last_written 1 past; mask = last_written 2 past }) (last_entry i past)

  -- Port p's horizon was last committed by register 5, p being in the mask that register 4 held then.
  unfoldable pub last_horizon : ℕ → List Call → ℕ
  last_horizon p [] = 0
  last_horizon p (k ∷ past) = cond (writes 5 k && has (last_written 4 past) p) (value k) (last_horizon p past)

  -- The router w has exactly these settings and registers, the calls so far being `past`.
  pub record AsWritten (past : List Call) (w : Router) : Type 0 where
    pub entry : (i : ℕ) → w.entry i ≡ last_entry i past
    pub horizon : (p : ℕ) → w.horizon p ≡ last_horizon p past
    pub register_0 : w.latch 0 ≡ last_written 0 past
    pub register_1 : w.latch 1 ≡ last_written 1 past
    pub register_2 : w.latch 2 ≡ last_written 2 past
    pub register_4 : w.latch 3 ≡ last_written 4 past

  -- ---- the accepted ticks

  unfoldable pub is_tick : Call → Bool
  is_tick (control register v) = false
  is_tick (tick k out ans) = eqb (number_due (tick k out ans)) 0

  -- Each with the calls before it, which begin with `past`.
  unfoldable pub accepted_ticks : List Call → List Call → List (List Call × TickCall)
  accepted_ticks past [] = []
  accepted_ticks past (control register v ∷ ks) = accepted_ticks (control register v ∷ past) ks
  accepted_ticks past (tick k out ans ∷ ks) = let l = accepted_ticks (tick k out ans ∷ past) ks in cond (is_tick (tick k out ans)) ((past, k) ∷ l) l

  -- ---- what is asked of a list

  -- Masks, registers and what the areas hold are bytes; a value is as wide as a clock reading.
  unfoldable pub ByteCall : Call → Type 0
  ByteCall (control register v) = (register < 256) × (v < 2 ^ bits c)
  ByteCall (tick k out ans) = (k.arriving < 256) × (k.best_effort < 256) × Bytes k.arrivals × Bytes out × Bytes ans

  -- At the clock T the packet on port p has a true time from half the clock's turn before T to less than that after it (T - 128 to T + 127 at one byte), and this time cut in its header.
  pub record TrueTime (T : ℤ) (k : TickCall) (p : ℕ) : Type 0 where
    pub from : neg_ℤ (pos (half c)) ≤ℤ (k.times p -ℤ T)
    pub to : (k.times p -ℤ T) <ℤ pos (half c)
    pub header : number c k.arrivals (20 * p + 1) ≡ cut (bits c) (k.times p)

  -- Each packet that an accepted tick brings.
  unfoldable pub TrueTimes : ℤ → Call → Type 0
  TrueTimes T (control register v) = Unit {0}
  TrueTimes T (tick k out ans) = is_tick (tick k out ans) ≡ true → (p : ℕ) → p < 5 → has k.arriving p ≡ true → TrueTime T k p

  -- The clock after a call: T rises by 1 in each accepted tick.
  unfoldable pub clock_after : ℤ → Call → ℤ
  clock_after T k = cond (is_tick k) (suc_ℤ T) T

  -- From the clock T on.
  unfoldable pub Proper : ℤ → List Call → Type 0
  Proper T [] = Unit {0}
  Proper T (k ∷ ks) = ByteCall k × TrueTimes T k × Proper (clock_after T k) ks

-- A call without its true times: what the router over bytes is handed.
unfoldable pub untimed : Call → Call
untimed (control register v) = control register v
untimed (tick k out ans) = tick (record { arriving = k.arriving; best_effort = k.best_effort; arrivals = k.arrivals; times = λ p. pos 0 }) out ans

-- What is asked can always be met: any bytes have true times, at any clock, and nothing but these is chosen.
unfoldable pub Feedable : ℕ → Type 0
Feedable c = (T : ℤ) (ks : List Call) → ((k : Call) → Memᴰ k ks → ByteCall c k) → (fed : List Call) × (map untimed fed ≡ map untimed ks) × Proper c T fed
