-- `clock::case_of` meets its contract: its tests are the bounds of the case that it gives, and no other case holds beside it. Assumes nothing.
use Rattle.rules.specs.Areas.{bits}
use Rattle.clock.proofs.Cases.{the-case}
use Rattle.std.proofs.Common.{rules}
use Rattle.clock.proofs.case_of.Goals as goal

pub returns-then-now-x : goal.returns-then-now-x
unfolding bits
returns-then-now-x c = the-case 8 _ _ (search rules, search rules)

pub returns-then-x-now : goal.returns-then-x-now
unfolding bits
returns-then-x-now c = the-case 8 _ _ (search rules)

pub returns-then-x-now-2 : goal.returns-then-x-now-2
unfolding bits
returns-then-x-now-2 c = the-case 8 _ _ (search rules, search rules)

pub returns : goal.returns
unfolding bits
returns c = the-case 8 _ _ (search rules)
