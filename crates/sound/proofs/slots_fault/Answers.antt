-- `sound::slots_fault` meets its contract: the questions come to what the tests say. Assumes nothing.
use native.Mathlib.Omega.{arith}
use Rattle.std.proofs.lemmas.Bool.Decides.{nat_tests}
use Rattle.rules.specs.Areas.{asked}
use Rattle.sound.proofs.slots_fault.Goals as goal

pub returns-then-all_pass : goal.returns-then-all_pass
unfolding asked
returns-then-all_pass c = grind (arith, nat_tests)

pub returns-then-all_listed : goal.returns-then-all_listed
unfolding asked
returns-then-all_listed c = grind (arith, nat_tests)

pub returns-else-all_listed : goal.returns-else-all_listed
unfolding asked
returns-else-all_listed c = grind (arith, nat_tests)
