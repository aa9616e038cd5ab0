-- `sound::slot_sound` meets its contract: an empty slot is sound, and another where its packet is in order. Assumes nothing.
use native.Mathlib.Omega.{arith}
use Rattle.std.proofs.lemmas.Bool.Decides.{nat_tests}
use Rattle.rules.specs.Questions.{slot_sound}
use Rattle.sound.proofs.slot_sound.Goals as goal

pub returns-then-get-eq0 : goal.returns-then-get-eq0
unfolding slot_sound
returns-then-get-eq0 c = grind (arith, nat_tests)
