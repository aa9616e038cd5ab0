-- `sound::lowest_bad` meets its contract: it seeks the first slot that isn't sound. Assumes nothing.
use Prim.Native.Nat.{ℕ}
use mathlib.Core.Path.{◌≡◌, refl}
use mathlib.Core.Bool.{Bool, true, false}
use native.Mathlib.Omega.{arith}
use borrow.Author.Rules.{rules}
use borrow.Author.Tests.{tests}
use Rattle.std.proofs.lemmas.Iterator.{first_from_find, YieldsList-from_range, YieldsList-from_map}
use Rattle.rules.specs.Board.{board8}
use Rattle.rules.specs.Questions.{slot_sound, lowest_bad}
use Rattle.layout.specs.declared.SlotAddress.{SlotAddress}
use Rattle.passes.specs.Stores.{store}
use Rattle.passes.proofs.Ranges.{first-by_find}
use Rattle.sound.specs.Lowest.{slot_or_256}
use Rattle.sound.proofs.lowest_bad.Goals as goal

abbrev slot : ℕ → SlotAddress
slot i = record { 0 = i }

pub returns : goal.returns
unfolding lowest_bad
returns c = first-by_find 256 test slot (λ s. s.0) slot_or_256 (λ i l. refl) refl (λ s. refl) c.find.result
    (first_from_find _ _ c.find.result (λ (s : SlotAddress). test s.0 ≡ false) (λ (s : SlotAddress). test s.0 ≡ true) c.find.ensures.ran
    (YieldsList-from_map _ slot (YieldsList-from_range 0 256 256 c.map.ensures.source (omega arith)) c.map.ensures.closure (λ x r q k. search rules)) (λ x q k. search (rules, tests)) (λ x q k. search (rules, tests)))
  where
    test : ℕ → Bool
    test = slot_sound board8 (store c.args.state.now c.args.memory.now)
