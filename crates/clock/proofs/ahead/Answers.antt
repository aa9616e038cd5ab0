-- `clock::ahead` meets its contract: what holds in a case says which of t and the time is subtracted from the other, and by each case it is the difference. Assumes nothing.
use Rattle.rules.specs.Areas.{bits}
use Rattle.std.proofs.Common.{refl, rules}
use Rattle.clock.specs.declared.Case.TheVariants.{Behind, BehindAcross, Ahead, AheadAcross}
use Rattle.clock.proofs.Cases.{told, ahead-told}
use Rattle.clock.proofs.ahead.Goals as goal

pub returns-in-Behind-clause-difference : goal.returns-in-Behind-clause-difference
unfolding bits
returns-in-Behind-clause-difference c = (ahead-told 8 _ _ (search rules) (search rules) Behind (told c.case_of.ensures c.in-Behind.is) c.rest.ensures).1

pub returns-in-BehindAcross-clause-difference : goal.returns-in-BehindAcross-clause-difference
unfolding bits
returns-in-BehindAcross-clause-difference c = (ahead-told 8 _ _ (search rules) (search rules) BehindAcross (told c.case_of.ensures c.in-BehindAcross.is) refl).1

pub returns-in-Ahead-clause-difference : goal.returns-in-Ahead-clause-difference
unfolding bits
returns-in-Ahead-clause-difference c = (ahead-told 8 _ _ (search rules) (search rules) Ahead (told c.case_of.ensures c.in-Ahead.is) refl).1

pub returns-in-AheadAcross-clause-difference : goal.returns-in-AheadAcross-clause-difference
unfolding bits
returns-in-AheadAcross-clause-difference c = (ahead-told 8 _ _ (search rules) (search rules) AheadAcross (told c.case_of.ensures c.in-AheadAcross.is) c.rest-in-AheadAcross.ensures).1
