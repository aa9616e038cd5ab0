-- The lines that ports see of a slot: a port of the slot's mask sees the key, which the slot's rank is made of, and the slot is ineligible on any other; so the comparator has it too. Assumes nothing.
use Prim.Native.Nat.{ℕ, ◌%◌, ◌<◌}
use mathlib.Core.Path.{◌≡◌, refl, sym, ◌∙◌}
use mathlib.Core.Bool.{Bool, true, false, cond}
use mathlib.Core.List.{List}
use mathlib.Core.Option.{Option, none, some}
use native.Mathlib.Omega.{arith}
use lib.ListN.{get_or}
use Rattle.rules.specs.Areas.{bits, has}
use Rattle.rules.specs.Board.{Time, Deadline, Mask, clock, board8}
use Rattle.rules.specs.Tick.{is_early, slot_key_of, slot_key, candidate}
use Rattle.rules.proofs.Board8Laws.{lawful8}
use Rattle.rules.proofs.Masks.{has-zero}
use Rattle.passes.specs.Ports.{EachPort, changed}
use Rattle.passes.specs.Ranks.{lesser}
use Rattle.passes.proofs.MaskPorts.{has-low}
use Rattle.clock.specs.Cases.{Fig7, key_if}
use Rattle.clock.specs.declared.Key.{Key}
use Rattle.clock.proofs.Cases.{key-seen, ineligible-seen}
use Rattle.choose.specs.Lines.{Sees, rank_by, RankOf, offered, Offered, Gets, CandidatesAreLines}

-- Of slot i, whose time is u and deadline d at the clock reading t, the key that key_of gives is its line.
pub rank-of-line : (s : List ℕ) (i t u d : ℕ) → t ≡ board8.get s clock → u ≡ board8.get s (Time, i) → d ≡ board8.get s (Deadline, i) → (k : Key) → Fig7 (bits 1) true u d t (some k) → {r : ℕ} → r ≡ rank_by k i → RankOf s i r
unfolding RankOf
rank-of-line s i t u d et eu ed k F e = (k, rw (et, eu, ed) at F, e)

-- ---- slot i, whose mask is m, is offered

module _ (s : List ℕ) (i m : ℕ) (em : m ≡ board8.get s (Mask, i)) where
  -- On a port of its mask by its key, on any other not.
  sees : (p : ℕ) (e : Bool) → has m p ≡ e → (o : Option Key) → Fig7 (bits 1) e (board8.get s (Time, i)) (board8.get s (Deadline, i)) (board8.get s clock) o → Sees s p i o
  sees p e h o F = rw (← em, h) F

  pub offered-some : (l : List ℕ) (r : ℕ) → RankOf s i r → (l' : List ℕ) → EachPort (changed (lesser r) (m % 32) l) l' → Offered s i l l'
  unfolding RankOf
  offered-some l r (k, F, e) l' O = record { each = λ p h. go p h (has m p) refl }
    where
      go : (p : ℕ) → p < 5 → (t : Bool) → has m p ≡ t → (o : Option Key) × Sees s p i o × (get_or l' p 0 ≡ offered o i (get_or l p 0))
      go p h true z = (some k, sees p true z (some k) F, O.each p h ∙ rw (has-low m p h, z, e))
      go p h false z = (none, sees p false z none (ineligible-seen (bits 1) _ _ _), O.each p h ∙ rw (has-low m p h, z) refl)

  -- Without a port.
  pub offered-none : (l : List ℕ) → m % 32 ≡ 0 → Offered s i l l
  offered-none l z = record { each = λ p h. (none, sees p false (sym (has-low m p h) ∙ rw z (has-zero p h)) none (ineligible-seen (bits 1) _ _ _), refl) }

-- ---- what the comparator gets

pub candidates-are-lines : CandidatesAreLines
unfolding CandidatesAreLines bits candidate slot_key
candidates-are-lines s b n p i h = go (has (board8.get s (Mask, i)) p) refl
  where
    u : ℕ
    u = board8.get s (Time, i)

    d : ℕ
    d = board8.get s (Deadline, i)

    t : ℕ
    t = board8.get s clock

    same : (e : Bool) → Gets (some (key_if 8 e u d t)) (some (slot_key_of board8 e s i))
    same true = (refl, refl)
    same false = (refl, refl)

    go : (e : Bool) → has (board8.get s (Mask, i)) p ≡ e → (o : Option Key) × Sees s p i o × Gets o (cond e (some (slot_key board8 s i)) none)
    go true z = (some (key_if 8 (is_early board8 s i) u d t), sees s i _ refl p true z _ (key-seen 7 u d t (lawful8.get-lt s (Time, i) b n h) (lawful8.get-lt s (Deadline, i) b n h) (lawful8.get-lt s clock b n (omega arith))), same (is_early board8 s i))
    go false z = (none, sees s i _ refl p false z none (ineligible-seen 8 u d t), tt)
