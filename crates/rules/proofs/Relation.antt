-- The relation of store and router, which each step of a call keeps: state and memory show settings, places and free list. Assumes nothing.
use Prim.Native.Nat.{ℕ, zero, suc, ◌<◌, ◌≤◌}
use mathlib.Core.Path.{◌≡◌, refl, sym, ap, subst, ◌∙◌}
use mathlib.Core.Bool.{Bool, true, false, not, true≢false}
use mathlib.Core.Logic.{◌≢◌}
use mathlib.Core.List.{List}
use mathlib.Core.Option.{Option, none, some}
use native.Mathlib.Decide.{ℕ_discrete}
use native.Mathlib.Omega.{arith}
use lib.ListN.{length}
use Rattle.rules.specs.Account.{Kept}
use Rattle.rules.specs.Areas.{bits, packet, Store}
use Rattle.rules.specs.Board.{Board, Kind, Clock, Horizon, Latch, Free, Idle, Time, Deadline, Mask, Outgoing, Delay, Routes, Field, clock, free}
use Rattle.rules.specs.Clock.{cut}
use Rattle.rules.specs.Questions.{stack}
use Rattle.rules.specs.Whole.{Held, Router, with_places, put, packet_bytes}
use Rattle.rules.proofs.BoardLaws.{Laws, Valid}
use Rattle.rules.proofs.StateLaws.{Reads, reads_as, stack_same, length-stack}
use Rattle.rules.proofs.WholeLaws.{put_same, put_other}

-- ---- settings

-- What a tick changes before the clock, free count, stack and slots, and what it leaves: the settings.
abbrev pub inner : Kind → Bool
inner Clock = false
inner Horizon = false
inner Latch = false
inner Free = true
inner Idle = true
inner Time = true
inner Deadline = true
inner Mask = true
inner Outgoing = false
inner Delay = false
inner Routes = false

abbrev pub outer : Kind → Bool
outer k = not (inner k)

-- What the settings read, at a clock reading of c bytes.
abbrev pub shown : ℕ → Router → Field → ℕ
shown c w (Clock, i) = cut (bits c) w.clock
shown c w (Horizon, p) = w.horizon p
shown c w (Latch, q) = w.latch q
shown c w (Free, i) = 0
shown c w (Idle, i) = 0
shown c w (Time, i) = 0
shown c w (Deadline, i) = 0
shown c w (Mask, i) = 0
shown c w (Outgoing, i) = (w.entry i).identifier
shown c w (Delay, i) = (w.entry i).delay
shown c w (Routes, i) = (w.entry i).mask

-- Two readings agree on the settings where they do so kind by kind.
pub on-settings : (σ τ : Field → ℕ) → σ clock ≡ τ clock → ((p : ℕ) → p < 5 → σ (Horizon, p) ≡ τ (Horizon, p)) → ((q : ℕ) → q < 4 → σ (Latch, q) ≡ τ (Latch, q))
    → ((i : ℕ) → i < 256 → (σ (Outgoing, i) ≡ τ (Outgoing, i)) × (σ (Delay, i) ≡ τ (Delay, i)) × (σ (Routes, i) ≡ τ (Routes, i))) → (f : Field) → inner f.0 ≡ false → Valid f → σ f ≡ τ f
on-settings σ τ t h q n (Clock, zero) e v = t
on-settings σ τ t h q n (Clock, suc i) e v = absurd (omega arith)
on-settings σ τ t h q n (Horizon, p) e v = h p v
on-settings σ τ t h q n (Latch, r) e v = q r v
on-settings σ τ t h q n (Free, i) e v = absurd (true≢false e)
on-settings σ τ t h q n (Idle, i) e v = absurd (true≢false e)
on-settings σ τ t h q n (Time, i) e v = absurd (true≢false e)
on-settings σ τ t h q n (Deadline, i) e v = absurd (true≢false e)
on-settings σ τ t h q n (Mask, i) e v = absurd (true≢false e)
on-settings σ τ t h q n (Outgoing, i) e v = (n i v).0
on-settings σ τ t h q n (Delay, i) e v = (n i v).1
on-settings σ τ t h q n (Routes, i) e v = (n i v).2

-- There are 256 places.
pub kept-room : {f : ℕ → Option Held} {l : List ℕ} → Kept f l → length l ≤ 256
kept-room K = let e = K.all in omega arith

module _ (B : Board) where
  open B use {clock_bytes as c, get}

  -- Slot i and its memory show a packet with its ports left.
  pub record HeldShown (r : Store) (i : ℕ) (x : Held) : Type 0 where
    pub time : get r.state (Time, i) ≡ cut (bits c) x.packet.time
    pub deadline : get r.state (Deadline, i) ≡ cut (bits c) x.packet.deadline
    pub left : get r.state (Mask, i) ≡ x.left
    pub bytes : packet r.memory i ≡ packet_bytes c x.packet

module _ (B : Board) (L : Laws B) where
  open B use {clock_bytes as c, get}

  -- The state shows the settings of the router.
  abbrev pub SettingsShown : List ℕ → Router → Type 0
  SettingsShown s w = Reads B L inner s (shown c w)

  -- Places and free list are no settings.
  pub settings-places : {s : List ℕ} (w : Router) (f : ℕ → Option Held) (l : List ℕ) → SettingsShown s w → SettingsShown s (with_places w f l)
  settings-places {s} w f l S = reads_as B L S (on-settings (shown c w) (shown c (with_places w f l)) refl (λ p h. refl) (λ q h. refl) (λ i h. (refl, refl, refl)))

  -- ---- places

  -- A slot shows a place; it may hold a packet with no port left.
  abbrev pub SlotShows : Store → ℕ → Option Held → Type 0
  SlotShows r i none = get r.state (Mask, i) ≡ 0
  SlotShows r i (some x) = HeldShown B r i x

  -- Slot i and its memory are in r' as in r.
  pub record Untouched (r r' : Store) (i : ℕ) : Type 0 where
    pub time : get r'.state (Time, i) ≡ get r.state (Time, i)
    pub deadline : get r'.state (Deadline, i) ≡ get r.state (Deadline, i)
    pub mask : get r'.state (Mask, i) ≡ get r.state (Mask, i)
    pub bytes : packet r'.memory i ≡ packet r.memory i

  -- Such a slot shows what it did.
  shows_same : {r r' : Store} {i : ℕ} (v : Option Held) → Untouched r r' i → SlotShows r i v → SlotShows r' i v
  shows_same none U h = U.mask ∙ h
  shows_same (some x) U h = record { time = U.time ∙ h.time; deadline = U.deadline ∙ h.deadline; left = U.mask ∙ h.left; bytes = U.bytes ∙ h.bytes }

  -- ---- the relation

  -- State and memory show the router.
  pub record Rel (r : Store) (w : Router) : Type 0 where
    pub settings : SettingsShown r.state w
    pub whole : length r.memory ≡ 5120
    pub place : (i : ℕ) → i < 256 → SlotShows r i (w.place i)
    pub stack : stack B r.state ≡ w.free

  -- The store with another state.
  abbrev pub with-state : Store → List ℕ → Store
  with-state r s = record { state = s; memory = r.memory }

  module _ {r : Store} {w : Router} (R : Rel r w) where
    -- The free count is the length of the free list.
    pub rel-free : get r.state free ≡ length w.free
    rel-free = sym (length-stack B L r.state) ∙ ap length R.stack

    -- It is at most 256.
    pub rel-room : Kept w.place w.free → get r.state free ≤ 256
    rel-room K = let e = rel-free in let k = kept-room K in omega arith

    -- Where slot j alone changed, and shows v, each slot shows its place.
    pub shows-put : {r' : Store} (j : ℕ) (v : Option Held) → SlotShows r' j v → ((q : ℕ) → q < 256 → q ≢ j → Untouched r r' q) → (q : ℕ) → q < 256 → SlotShows r' q (put w.place j v q)
    shows-put {r'} j v h U q l = go (ℕ_discrete q j)
      where
        go : Dec (q ≡ j) → SlotShows r' q (put w.place j v q)
        go (yes e) = subst (λ (q : ℕ). SlotShows r' q (put w.place j v q)) (sym e) (subst (SlotShows r' j) (sym (put_same w.place j v)) h)
        go (no n) = subst (SlotShows r' q) (sym (put_other w.place j v q n)) (shows_same (w.place q) (U q l n) (R.place q l))

    -- Where only settings change, places and stack stay.
    pub rel-settings : {s' : List ℕ} {w' : Router} → Kept w.place w.free → SettingsShown s' w' → Reads B L outer s' (get r.state) → w'.place ≡ w.place → w'.free ≡ w.free → Rel (with-state r s') w'
    rel-settings {s'} {w'} K S O ep ef = record {
      settings = S;
      whole = R.whole;
      place = λ i l.
          shows_same (w'.place i) (record { time = O.reads (Time, i) refl l; deadline = O.reads (Deadline, i) refl l; mask = O.reads (Mask, i) refl l; bytes = refl })
          (subst (λ f. SlotShows r i (f i)) (sym ep) (R.place i l));
      stack = stack_same B L r.state s' (rel-room K) (O.reads free refl (omega arith)) (λ i l. O.reads (Idle, i) refl l) ∙ R.stack ∙ sym ef;
    }
