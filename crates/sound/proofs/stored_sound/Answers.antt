-- `sound::stored_sound` meets its contract: the tests are those of the definition, by what is read (SlotTests). Assumes nothing.
use mathlib.Core.Path.{refl, sym, ◌∙◌}
use native.Mathlib.Omega.{arith}
use Rattle.std.proofs.lemmas.Bool.Decides.{nat_tests}
use Rattle.rules.specs.Areas.{half}
use Rattle.rules.specs.Board.{board8}
use Rattle.rules.proofs.FieldBytes.{stamp-one, packet-byte}
use Rattle.passes.proofs.SlotTests.{tests-stored-sound}
use Rattle.sound.proofs.stored_sound.Goals as goal

pub returns-then-offset_sound : goal.returns-then-offset_sound
unfolding half
returns-then-offset_sound c = tests-stored-sound board8 _ _ c.get-mask.ensures c.get.ensures c.get-2.ensures c.get-3.ensures c.since-d.ensures refl (sym (stamp-one _ ∙ packet-byte _ _ 1 (omega arith))) (grind (arith, nat_tests))

pub returns-else-offset_sound : goal.returns-else-offset_sound
unfolding half
returns-else-offset_sound c = tests-stored-sound board8 _ _ c.get-mask.ensures c.get.ensures c.get-2.ensures c.get-3.ensures c.since-d.ensures refl refl (grind (arith, nat_tests))
