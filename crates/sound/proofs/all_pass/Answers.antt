-- `sound::all_pass` meets its contract: each slot is listed and sound just if it passes, and both hold of all just if each does. Assumes nothing.
use Prim.Native.Nat.{ℕ}
use mathlib.Core.Bool.{◌&&◌}
use mathlib.Core.Path.{refl, ◌∙◌}
use borrow.Author.Rules.{rules}
use Rattle.rules.specs.Board.{board8}
use Rattle.rules.specs.Questions.{listed, slot_sound, slots_sound}
use Rattle.passes.specs.Stores.{store}
use Rattle.passes.proofs.Ranges.{all-by_range, all-both}
use Rattle.sound.proofs.all_pass.Goals as goal

pub returns : goal.returns
unfolding slots_sound
returns c = all-by_range 256 (λ (i : ℕ). listed board8 c.args.state.now i && slot_sound board8 (store c.args.state.now c.args.memory.now) i) c.all.ensures.ran refl (λ x b q k. search (rules, c.requires)) ∙ all-both _ _ 256
