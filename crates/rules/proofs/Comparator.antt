-- Slots go in the order of the packets that they show: what the comparator sees of a slot is what it sees of the packet, both keys less the clock. So while two packets stay of their
-- sorts, the clock does not change their order. Assumes nothing.
use Prim.Native.Nat.{ℕ}
use mathlib.Core.Path.{◌≡◌, refl, sym, ap, ap₂, ◌∙◌}
use mathlib.Core.Bool.{Bool, true, false}
use mathlib.Core.List.{List}
use lib.IntN.{ℤ, pos, ◌-ℤ◌}
use lib.Signed.{lt_z}
use Rattle.rules.specs.Areas.{bits, half}
use Rattle.rules.specs.Board.{Board, Time, Deadline, clock}
use Rattle.rules.specs.Clock.{cut, minus}
use Rattle.rules.specs.Order.{by, then, Key, comparator}
use Rattle.rules.specs.Tick.{is_early, slot_key_of, slot_key}
use Rattle.rules.specs.Whole.{Packet, packet_key_of, packet_key}
use Rattle.rules.proofs.Booleans.{true→T}
use Rattle.rules.proofs.Integers.{diff-gt, diff-lt}
use Rattle.rules.proofs.Good.{InWindow}
use Rattle.rules.proofs.TimeLaws.{window-offset, window-early, window-deadline}

-- Both keys less the clock.
abbrev pub less_clock : ℤ → Key → Key
less_clock t k = record { early = k.early; key = k.key -ℤ t; second = k.second -ℤ t }

-- Keys go in the same order then.
pub comparator-less-clock : (t : ℤ) (k l : Key) → comparator (less_clock t k) (less_clock t l) ≡ comparator k l
unfolding comparator then by
comparator-less-clock t k l = simp diff-lt

-- What the comparator sees of a slot that shows the packet.
abbrev pub shown_key : ℤ → Packet → Key
shown_key t x = less_clock t (packet_key t x)

-- While both stay of one sort, their order is the same at another clock.
pub comparator-still : (t u : ℤ) (x y : Packet) → lt_z t x.time ≡ lt_z u x.time → lt_z t y.time ≡ lt_z u y.time → comparator (shown_key t x) (shown_key t y) ≡ comparator (shown_key u x) (shown_key u y)
comparator-still t u x y p q =
    comparator-less-clock t (packet_key t x) (packet_key t y)
    ∙ ap₂ (λ (d e : Bool). comparator (packet_key_of d x) (packet_key_of e y)) p q
    ∙ sym (comparator-less-clock u (packet_key u x) (packet_key u y))

module _ (B : Board) where
  open B use {clock_bytes as c, get}

  -- A slot that shows the packet x at the clock t.
  pub slot-key : (s : List ℕ) (i : ℕ) (t : ℤ) (x : Packet) → get s clock ≡ cut (bits c) t → get s (Time, i) ≡ cut (bits c) x.time → get s (Deadline, i) ≡ cut (bits c) x.deadline
      → InWindow c t (half c) x → slot_key B s i ≡ shown_key t x
  unfolding slot_key
  slot-key s i t x et eu ed F = ap (λ (e : Bool). slot_key_of B e s i) sort ∙ go (lt_z t x.time) refl
    where
      sort : is_early B s i ≡ lt_z t x.time
      sort = rw (et, eu) (ap (lt_z (pos 0)) (window-offset c t x F) ∙ diff-gt x.time t)

      -- The slot's own deadline tells the packet's.
      deadline : pos (minus (bits c) (get s (Deadline, i)) (cut (bits c) t)) ≡ x.deadline -ℤ t
      deadline = ap (λ (d : ℕ). pos (minus (bits c) d (cut (bits c) t))) ed ∙ window-deadline c t x F

      go : (e : Bool) → lt_z t x.time ≡ e → slot_key_of B e s i ≡ less_clock t (packet_key_of e x)
      go true q = rw (et, eu) (ap₂ (λ (k l : ℤ). record { early = true; key = k; second = l }) (window-early c t x F (true→T (lt_z t x.time) q)) deadline)
      go false q = rw (et, eu) (ap₂ (λ (k l : ℤ). record { early = false; key = k; second = l }) deadline (window-offset c t x F))
