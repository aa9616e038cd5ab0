-- What the display software sees of a port, and where it starts: past the two bytes of the header. Assumes nothing.
use Prim.Native.Nat.{ℕ, ◌+◌, ◌-◌, ◌*◌}
use mathlib.Core.Path.{◌≡◌, refl, sym, ap, ◌∙◌}
use mathlib.Core.Bool.{Bool, true, false, cond, ◌&&◌}
use mathlib.Core.List.{List, [], ◌∷◌}
use native.Mathlib.Omega.{arith}
use lib.ListN.{length, take, drop}
use lib.Seq.{drop-drop, drop-length}
use lib.Dec.{leb, eqb}
use Rattle.std.proofs.Common.{Option, Some, None}
use Rattle.std.specs.Option.{unwrap_or}
use Rattle.rules.specs.Areas.{outgoing_length, packet, payload}
use Rattle.display.specs.Display.{display, display_start}

-- The data of a packet are 18 bytes, past identifier and time.
data-part : (l : List ℕ) → drop 2 (take 20 l) ≡ take 18 (drop 2 l)
data-part [] = refl
data-part (x ∷ []) = refl
data-part (x ∷ y ∷ l) = refl

module _ (s : List ℕ) (p : ℕ) where
  -- There is a part.
  abbrev shown : Bool
  shown = eqb (length s) outgoing_length && leb p 4

  pub empty : shown ≡ false → [] ≡ display 1 s p
  unfolding display
  empty e = rw e

  -- Where its packet starts.
  abbrev packet_start : ℕ
  packet_start = 20 * p

  -- It starts at n.
  abbrev StartsAt : ℕ → Type 0
  StartsAt n = (n ≡ display_start 1 s p) × (take 18 (drop n s) ≡ display 1 s p)

  at-the-end : shown ≡ false → StartsAt (length s)
  unfolding display_start
  at-the-end e = (rw e, ap (take 18) (drop-length s) ∙ empty e)

  at-the-data : shown ≡ true → StartsAt (packet_start + 2)
  unfolding display display_start payload packet
  at-the-data e = (rw e, rw e (sym (data-part (drop packet_start s) ∙ rw (drop-drop 2 packet_start s))))

  -- ---- what the code finds

  -- Where the data start, if there is a part.
  abbrev found : Option ℕ
  found = cond shown (Some (packet_start + 2)) None

  -- By the two cases, as all that follows.
  pub none-found : None ≡ found → shown ≡ false
  none-found h = go shown h
    where
      go : (b : Bool) → None ≡ cond b (Some (packet_start + 2)) None → b ≡ false
      go true h = cc
      go false h = refl

  pub some-found : (n : ℕ) → Some n ≡ found → (shown ≡ true) × (n ≡ packet_start + 2)
  some-found n h = go shown h
    where
      go : (b : Bool) → Some n ≡ cond b (Some (packet_start + 2)) None → (b ≡ true) × (n ≡ packet_start + 2)
      go true h = (refl, cc)
      go false h = cc

  pub starts : StartsAt (unwrap_or found (length s))
  starts = go shown refl
    where
      go : (b : Bool) → shown ≡ b → StartsAt (unwrap_or (cond b (Some (packet_start + 2)) None) (length s))
      go true e = at-the-data e
      go false e = at-the-end e

  -- The 18 bytes from there are the part.
  pub data-shown : (n : ℕ) → Some n ≡ found → take (n + 18 - n) (drop n s) ≡ display 1 s p
  data-shown n h = let f = some-found n h in let k : n + 18 - n ≡ 18 = omega arith in rw (k, f.1) (at-the-data f.0).1
