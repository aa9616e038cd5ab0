-- The figure's cases of a clock of b bits: of each time at each reading exactly one holds, since comparisons part the readings; and the figure's line of a case, a plain sum or difference, is the key. Assumes nothing.
use Rattle.std.proofs.Common.{◌≡◌, ℕ, suc, pred, ◌+◌, ◌-◌, ◌*◌, ◌/◌, ◌%◌, ◌^◌, ◌<◌, ◌≤◌, Bool, true, false, cond, not, ◌||◌, eqb, ltb, leb, pos, sym, refl, ap, ◌∙◌, subst, mod-lt, div-add-mod', arith, pow_pos, le-ltb, lt-ltb, eq-eqb, ne_eqb, le-leb}
use mathlib.Core.Bool.{or-true}
use native.Mathlib.Decide.{dec_lt, dec_le}
use mathlib.Core.Option.{some}
use lib.Signed.{lt_z}
use borrow.Author.Tests.{lt-leb}
use Rattle.rules.specs.Areas.{bits}
use Rattle.rules.specs.Clock.{plus, minus, signed, offset}
use Rattle.rules.proofs.Booleans.{some_inj}
use Rattle.rules.proofs.ClockLaws.{turns, pow-double, minus-view, minus-lt}
use Rattle.rules.proofs.Offsets.{at-most-0, above}
use Rattle.clock.specs.declared.Case.{Case}
use Rattle.clock.specs.declared.Case.TheVariants.{Behind, BehindAcross, Ahead, AheadAcross}
use Rattle.clock.specs.declared.Key.{Key}
use Rattle.clock.specs.declared.Key.TheVariants.{OnTime, Early}
use Rattle.clock.specs.Cases.{Holds, TheCase, ExactlyOne, rest_of, ahead_by, AheadBy, key_by, ineligible, Fig7, key_of}

-- ---- exactly one case

module _ (b x t : ℕ) where
  -- The case by comparisons.
  found : Case
  found = cond (leb x t) (cond (leb t (x + 2 ^ pred b)) Behind AheadAcross) (cond (ltb x (t + 2 ^ pred b)) Ahead BehindAcross)

  found-holds : Holds b found x t
  unfolding found
  found-holds = go (dec_le x t) (dec_le t (x + 2 ^ pred b)) (dec_lt x (t + 2 ^ pred b))
    where
      go : Dec (x ≤ t) → Dec (t ≤ x + 2 ^ pred b) → Dec (x < t + 2 ^ pred b) → Holds b found x t
      go (yes l) (yes m) n = rw (le-leb x t l, le-leb t (x + 2 ^ pred b) m) (l, omega arith)
      go (yes l) (no m) n = rw (le-leb x t l, lt-leb t (x + 2 ^ pred b) (omega arith)) (omega arith)
      go (no l) m (yes n) = rw (lt-leb x t (omega arith), lt-ltb x (t + 2 ^ pred b) n) (omega arith, omega arith)
      go (no l) m (no n) = rw (lt-leb x t (omega arith), le-ltb x (t + 2 ^ pred b) (omega arith)) (omega arith)

  -- Any that holds is this one.
  holds-found : (c : Case) → Holds b c x t → c ≡ found
  unfolding found
  holds-found Behind (l, m) = rw (le-leb x t l, le-leb t (x + 2 ^ pred b) m)
  holds-found BehindAcross l = rw (lt-leb x t (omega (arith, pow_pos (pred b))), le-ltb x (t + 2 ^ pred b) l)
  holds-found Ahead (l, m) = rw (lt-leb x t l, lt-ltb x (t + 2 ^ pred b) m)
  holds-found AheadAcross l = rw (le-leb x t (omega arith), lt-leb t (x + 2 ^ pred b) l)

pub exactly-one : (b : ℕ) → ExactlyOne b
exactly-one b x t = (found b x t, record { holds = found-holds b x t; only = holds-found b x t })

-- So one that holds is the one,
pub the-case : (b x t : ℕ) {c : Case} → Holds b c x t → TheCase b c x t
the-case b x t {c} h = let (e, k) = exactly-one b x t in subst (λ (c : Case). TheCase b c x t) (sym (k.only c h)) k

-- and, for one byte, it is the one in the arm of a `match` that it leads to.
pub told : {x t : ℕ} {c d : Case} → TheCase (bits 1) c x t → c ≡ d → TheCase 8 d x t
unfolding bits
told {x} {t} h e = subst (λ (c : Case). TheCase 8 c x t) e h

-- ---- how far a time is ahead

-- What any number but 0 is short of a turn.
rest-of : (b n : ℕ) → 0 < n → rest_of b n ≡ 2 ^ b - n
rest-of b n h = rw (ne_eqb n 0 (λ e. omega arith))

module _ (b x t : ℕ) (hx : x < 2 ^ b) (ht : t < 2 ^ b) where
  -- The difference is the number below a turn that makes x of t, but for turns.
  minus_is : (r q : ℕ) → r < 2 ^ b → r + t ≡ x + q * 2 ^ b → r ≡ minus b x t
  minus_is r q h e = let (p, f, l) = minus-view b x t hx ht in turns (2 ^ b) r (minus b x t) p q (omega arith) (omega arith) (omega arith)

  -- From t on it is the plain difference, and up to t what t - x is short of a turn.
  from : t ≤ x → x - t ≡ minus b x t
  from l = minus_is (x - t) 0 (omega arith) (omega arith)

  back : x ≤ t → rest_of b (t - x) ≡ minus b x t
  back l = go (dec_lt x t)
    where
      go : Dec (x < t) → rest_of b (t - x) ≡ minus b x t
      go (yes m) = rest-of b (t - x) (omega arith) ∙ minus_is (2 ^ b - (t - x)) 1 (omega arith) (omega arith)
      go (no m) = rw (eq-eqb (t - x) 0 (omega arith)) (minus_is 0 0 (omega arith) (omega arith))

  ahead-by-case : (c : Case) → Holds b c x t → ahead_by b c x t ≡ minus b x t
  ahead-by-case Behind (l, m) = back l
  ahead-by-case BehindAcross l = from (omega arith)
  ahead-by-case Ahead (l, m) = from (omega arith)
  ahead-by-case AheadAcross l = back (omega arith)

  -- So by the case that holds.
  ahead-minus : {n : ℕ} → AheadBy b x t n → n ≡ minus b x t
  ahead-minus (c, h, e) = e ∙ ahead-by-case c h.holds

  pub ahead-told : {n : ℕ} (c : Case) → TheCase b c x t → n ≡ ahead_by b c x t → AheadBy b x t n × (n ≡ minus b x t)
  ahead-told c h e = ((c, h, e), ahead-minus (c, h, e))

-- ---- the key

-- Whether x is early, by the case.
abbrev early_by : Case → Bool
early_by Behind = false
early_by BehindAcross = false
early_by Ahead = true
early_by AheadAcross = true

module _ (k x t : ℕ) (hx : x < 2 ^ suc k) (ht : t < 2 ^ suc k) where
  -- A time is early where it is ahead by more than none and less than half a turn.
  early-by-case : (c : Case) → Holds (suc k) c x t → lt_z (pos 0) (offset (suc k) x t) ≡ early_by c
  unfolding offset
  early-by-case c h =
      above (pos 0) (signed (suc k) (minus (suc k) x t))
      ∙ ap not (at-most-0 k (minus (suc k) x t) (minus-lt (suc k) x t) ∙ ap (λ (n : ℕ). eqb n 0 || leb (2 ^ k) n) (sym (ahead-by-case (suc k) x t hx ht c h)))
      ∙ go c h
    where
      late : (n : ℕ) → 2 ^ k ≤ n → not (eqb n 0 || leb (2 ^ k) n) ≡ false
      late n h = rw (le-leb (2 ^ k) n h, or-true (eqb n 0))

      soon : (n : ℕ) → 0 < n → n < 2 ^ k → not (eqb n 0 || leb (2 ^ k) n) ≡ true
      soon n p h = rw (ne_eqb n 0 (λ e. omega arith), lt-leb (2 ^ k) n h)

      here : Dec (x < t) → x ≤ t → t ≤ x + 2 ^ k → not (eqb (rest_of (suc k) (t - x)) 0 || leb (2 ^ k) (rest_of (suc k) (t - x))) ≡ false
      here (yes l) h m = rw (rest-of (suc k) (t - x) (omega arith)) (late (2 ^ suc k - (t - x)) (omega (arith, pow-double k)))
      here (no l) h m = rw (eq-eqb (t - x) 0 (omega arith))

      go : (c : Case) → Holds (suc k) c x t → not (eqb (ahead_by (suc k) c x t) 0 || leb (2 ^ k) (ahead_by (suc k) c x t)) ≡ early_by c
      go Behind (l, m) = here (dec_lt x t) l m
      go BehindAcross l = late (x - t) (omega arith)
      go Ahead (l, m) = soon (x - t) (omega arith) (omega arith)
      go AheadAcross l = rw (rest-of (suc k) (t - x) (omega arith)) (soon (2 ^ suc k - (t - x)) (omega arith) (omega (arith, pow-double k)))

  -- Half a turn more than the difference is the number below a turn that makes it, but for turns.
  raised_is : (r p : ℕ) → r < 2 ^ suc k → r + t + p * 2 ^ suc k ≡ x + 2 ^ k → r ≡ plus (suc k) (minus (suc k) x t) (2 ^ k)
  unfolding plus
  raised_is r p h e =
      let (s, f, l) = minus-view (suc k) x t hx ht in
      let n = minus (suc k) x t + 2 ^ k in
      let d = div-add-mod' n (2 ^ suc k) in
      let m = mod-lt n (pow_pos (suc k)) in
      turns (2 ^ suc k) r (n % 2 ^ suc k) (p + s) (n / 2 ^ suc k) (omega arith) (omega arith) (omega arith)

  key-by-case : (c : Case) → Holds (suc k) c x t → (d l : ℕ) → l ≡ minus (suc k) d t → key_by (suc k) c x t l ≡ key_of (suc k) x d t
  key-by-case c h d l e = rw (early-by-case c h, ← e) (go c h)
    where
      go : (c : Case) → Holds (suc k) c x t → key_by (suc k) c x t l ≡ cond (early_by c) (Early (minus (suc k) x t) l) (OnTime l (plus (suc k) (minus (suc k) x t) (2 ^ k)))
      go Behind (a, b) = ap (OnTime l) (raised_is (2 ^ k - (t - x)) 0 (omega (arith, pow-double k, pow_pos k)) (omega arith))
      go BehindAcross a = ap (OnTime l) (raised_is (x - t - 2 ^ k) 1 (omega (arith, pow-double k)) (omega (arith, pow-double k)))
      go Ahead h = ap (λ (n : ℕ). Early n l) (ahead-by-case (suc k) x t hx ht Ahead h)
      go AheadAcross h = ap (λ (n : ℕ). Early n l) (ahead-by-case (suc k) x t hx ht AheadAcross h)

-- ---- the figure's lines

-- What an eligible packet's line is: by the case that holds of its time, with deadline - t by the case that holds of its deadline.
pub key-line : {b x d t l : ℕ} {c : Case} → TheCase b c x t → AheadBy b d t l → Fig7 b true x d t (some (key_by b c x t l))
key-line {b} {x} {d} {t} {l} {c} h (e, k, n) = record { time_case = c; deadline_case = e; time_holds = h; deadline_holds = k; seen = ap (λ (l : ℕ). some (key_by b c x t l)) n }

-- It has the key.
pub line-key : (k x d t : ℕ) → x < 2 ^ suc k → d < 2 ^ suc k → t < 2 ^ suc k → {r : Key} → Fig7 (suc k) true x d t (some r) → r ≡ key_of (suc k) x d t
line-key k x d t hx hd ht F =
    some_inj F.seen ∙ key-by-case k x t hx ht F.time_case F.time_holds.holds d _ (ahead-minus (suc k) d t hd ht (F.deadline_case, F.deadline_holds, refl))

-- An eligible packet sees its key, and any other is ineligible.
pub key-seen : (k x d t : ℕ) → x < 2 ^ suc k → d < 2 ^ suc k → t < 2 ^ suc k → Fig7 (suc k) true x d t (some (key_of (suc k) x d t))
key-seen k x d t hx hd ht =
    let (c, h) = exactly-one (suc k) x t in
    let (e, g) = exactly-one (suc k) d t in
    let F = key-line h (e, g, refl) in
    subst (λ (r : Key). Fig7 (suc k) true x d t (some r)) (line-key k x d t hx hd ht F) F

pub ineligible-seen : (b x d t : ℕ) → Fig7 b false x d t ineligible
ineligible-seen b x d t =
    let (c, h) = exactly-one b x t in
    let (e, g) = exactly-one b d t in
    record { time_case = c; deadline_case = e; time_holds = h; deadline_holds = g; seen = refl }
