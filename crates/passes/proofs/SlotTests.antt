-- The test of one slot by what it reads, for any board: the reads are the values of its fields, so the code's tests are those of the definition; and together with whether it is idle. Assumes nothing.
use Prim.Native.Nat.{ℕ, ◌-◌}
use mathlib.Core.Path.{◌≡◌, refl, ◌∙◌}
use mathlib.Core.Bool.{Bool, true, false, not, ◌&&◌, ◌||◌, beq, and_assoc}
use lib.Dec.{leb, ltb, eqb}
use lib.IntN.{pos, neg_ℤ}
use lib.Signed.{le_z}
use Rattle.rules.specs.Clock.{minus, offset}
use Rattle.rules.specs.Areas.{Store, bits, half, packet, stamp}
use Rattle.rules.specs.Board.{Board, Time, Deadline, Mask, clock}
use Rattle.rules.specs.Questions.{slot_sound}

module _ (B : Board) (r : Store) (i : ℕ) where
  open B use {clock_bytes as c, get}

  -- A stored packet, from the mask m, time x, deadline y, clock t, d = y - x, v for the offset's bounds and the header h.
  pub tests-stored-sound : {m x y t d h : ℕ} {v w : Bool} → m ≡ get r.state (Mask, i) → x ≡ get r.state (Time, i) → y ≡ get r.state (Deadline, i) → t ≡ get r.state clock
      → d ≡ minus (bits c) y x → v ≡ (le_z (neg_ℤ (pos d)) (offset (bits c) x t) && le_z (offset (bits c) x t) (pos (half c - 2))) → h ≡ stamp c (packet r.memory i)
      → w ≡ (not (eqb m 0) && (leb m 31 && ltb d (half c) && v && eqb h y)) → w ≡ (not (eqb (get r.state (Mask, i)) 0) && slot_sound B r i)
  unfolding slot_sound
  tests-stored-sound {m} em ex ey et ed ev eh e = e ∙ stored (eqb m 0) _ ∙ rw (ev, eh, ed, em, ex, ey, et) (simp and_assoc)
    where
      stored : (b x : Bool) → (not b && x) ≡ (not b && (b || x))
      stored true x = refl
      stored false x = refl

  -- The slot is marked as idle or not; by the mask m.
  abbrev passes : Bool → ℕ → Bool
  passes idle m = beq idle (eqb m 0) && slot_sound B r i

  -- An idle one passes if it is empty, and then it is sound.
  pub passes-idle : {m : ℕ} → m ≡ get r.state (Mask, i) → eqb m 0 ≡ passes true (get r.state (Mask, i))
  unfolding slot_sound
  passes-idle e = rw e (go (eqb (get r.state (Mask, i)) 0) _)
    where
      go : (b x : Bool) → b ≡ (beq true b && (b || x))
      go true x = refl
      go false x = refl
