-- What the display software sees of a port, in literal places. Assumes nothing.
use Prim.Native.Nat.{ℕ, ◌<◌, ◌≤◌}
use mathlib.Core.Path.{◌≡◌, refl, ap, ◌∙◌}
use mathlib.Core.Bool.{true, false, ◌&&◌, and-false}
use mathlib.Core.List.{List}
use mathlib.Core.Logic.{◌≢◌, ◌⊎◌, inl, inr}
use native.Mathlib.Omega.{arith}
use lib.ListN.{length}
use lib.Dec.{leb, eqb}
use borrow.Author.Tests.{eq-eqb, ne_eqb, le-leb, lt-leb}
use Rattle.rules.specs.Areas.{byte}
use Rattle.rules.proofs.AreaLaws.{length-packet, length-payload}
use Rattle.rules.proofs.ByteLaws.{payload-byte}
use Rattle.display.specs.Display.{display, display_start, DisplayShown}

module _ (area : List ℕ) (p : ℕ) where
  -- The area has its length, and the port is one of the five.
  shown : length area ≡ 100 → p ≤ 4 → (eqb (length area) 100 && leb p 4) ≡ true
  shown e h = rw (eq-eqb (length area) 100 e, le-leb p 4 h)

  -- It hasn't, or it isn't.
  not-shown : (length area ≢ 100) ⊎ (4 < p) → (eqb (length area) 100 && leb p 4) ≡ false
  not-shown (inl h) = rw (ne_eqb (length area) 100 h)
  not-shown (inr h) = rw (lt-leb p 4 h) (and-false (eqb (length area) 100))

-- The data of packet p begin two bytes after it, and are 18.
pub display-shown : DisplayShown
unfolding display display_start
display-shown = record {
  size = λ area p e h. rw (shown area p e h) (length-payload 1 _ (length-packet area _ (omega arith)));
  bytes = λ area p e h j l. rw (shown area p e h) (payload-byte 1 area _ j (omega arith) ∙ ap (byte area) (omega arith));
  start = λ area p e h. rw (shown area p e h);
  empty = λ area p h. rw (not-shown area p h) (refl, refl);
}
