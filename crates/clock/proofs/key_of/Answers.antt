-- `clock::key_of` meets its contract: what holds in a case keeps its sums and differences from 0 to 255, they are the figure's line, and that is the key. Assumes nothing.
use Rattle.rules.specs.Areas.{bits}
use Rattle.std.proofs.Common.{arith, rules}
use Rattle.clock.specs.declared.Case.TheVariants.{Behind, BehindAcross, Ahead, AheadAcross}
use Rattle.clock.proofs.Cases.{told, key-line, line-key}
use Rattle.clock.proofs.key_of.Goals as goal

pub overflow_sub-result-in-Behind : goal.overflow_sub-result-in-Behind
overflow_sub-result-in-Behind c = let h = (told c.case_of.ensures c.in-Behind.is).holds in omega arith

pub overflow_sub-result-in-BehindAcross-2 : goal.overflow_sub-result-in-BehindAcross-2
overflow_sub-result-in-BehindAcross-2 c = let h = (told c.case_of.ensures c.in-BehindAcross.is).holds in omega arith

pub returns-in-Behind-clause-line : goal.returns-in-Behind-clause-line
unfolding bits
returns-in-Behind-clause-line c =
    let f = key-line {c = Behind} (told c.case_of.ensures c.in-Behind.is) c.ahead-laxity.ensures.by_case in
    f

pub returns-in-Behind-clause-key : goal.returns-in-Behind-clause-key
unfolding bits
returns-in-Behind-clause-key c =
    let f = key-line {c = Behind} (told c.case_of.ensures c.in-Behind.is) c.ahead-laxity.ensures.by_case in
    line-key 7 _ _ _ (search rules) (search rules) (search rules) f

pub returns-in-BehindAcross-clause-key : goal.returns-in-BehindAcross-clause-key
unfolding bits
returns-in-BehindAcross-clause-key c =
    let f = key-line {c = BehindAcross} (told c.case_of.ensures c.in-BehindAcross.is) c.ahead-laxity.ensures.by_case in
    line-key 7 _ _ _ (search rules) (search rules) (search rules) f

pub returns-in-BehindAcross-clause-line : goal.returns-in-BehindAcross-clause-line
unfolding bits
returns-in-BehindAcross-clause-line c =
    let f = key-line {c = BehindAcross} (told c.case_of.ensures c.in-BehindAcross.is) c.ahead-laxity.ensures.by_case in
    f

pub returns-in-Ahead-clause-key : goal.returns-in-Ahead-clause-key
unfolding bits
returns-in-Ahead-clause-key c =
    let f = key-line {c = Ahead} (told c.case_of.ensures c.in-Ahead.is) c.ahead-laxity.ensures.by_case in
    line-key 7 _ _ _ (search rules) (search rules) (search rules) f

pub returns-in-AheadAcross-clause-key : goal.returns-in-AheadAcross-clause-key
unfolding bits
returns-in-AheadAcross-clause-key c =
    let f = key-line {c = AheadAcross} (told c.case_of.ensures c.in-AheadAcross.is) c.ahead-laxity.ensures.by_case in
    let g = rw (← c.rest.ensures) at f in
    line-key 7 _ _ _ (search rules) (search rules) (search rules) g
