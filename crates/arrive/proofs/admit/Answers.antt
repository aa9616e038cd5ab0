-- `arrive::admit` meets its contract: the answer is that of the refusal, and only what no question refuses is placed. Assumes nothing.
use mathlib.Core.Bool.{cond}
use mathlib.Core.Path.{◌≡◌, refl}
use lib.Dec.{eqb}
use Rattle.std.specs.Prelude.{Some, Result, Ok, Err, OnOk, OnErr}
use Rattle.rules.specs.Areas.{Store, arrival_answer}
use Rattle.rules.specs.Tick.{arrival}
use Rattle.arrive.specs.declared.Refused.{Refused}
use Rattle.arrive.specs.declared.Refused.TheVariants.{Closed, Late, Full}
use Rattle.arrive.specs.Numbers.{refusal_of, number}
use Rattle.arrive.proofs.admit.Goals as goal

-- A packet is answered by 1, or its refusal.
answered : (met : Result (Unit {0}) Refused) → number (Some met) ≡ arrival_answer (refusal_of met)
unfolding arrival_answer
answered (Ok x) = refl
answered (Err Closed) = refl
answered (Err Late) = refl
answered (Err Full) = refl

-- It is stored if it is answered by 1.
stored : (met : Result (Unit {0}) Refused) {x : Store} (placed r : Store) → OnOk met (x ≡ placed) → OnErr met (x ≡ r) → x ≡ cond (eqb (number (Some met)) 1) placed r
stored (Ok x) _ _ p r = p
stored (Err Closed) _ _ p r = r
stored (Err Late) _ _ p r = r
stored (Err Full) _ _ p r = r

pub returns-then-has_port-clause-number : goal.returns-then-has_port-clause-number
unfolding arrival
returns-then-has_port-clause-number c = rw (← c.has_port.ensures, c.if-has_port.true, ← c.take.ensures.number) (answered c.take.result)

pub returns-then-has_port-clause-after : goal.returns-then-has_port-clause-after
unfolding arrival
returns-then-has_port-clause-after c = rw (← c.has_port.ensures, c.if-has_port.true, ← c.take.ensures.number, ← answered c.take.result) (stored c.take.result _ _ c.take.ensures.ok c.take.ensures.err)

pub returns-else-has_port-clause-number : goal.returns-else-has_port-clause-number
unfolding arrival
returns-else-has_port-clause-number c = rw (← c.has_port.ensures, c.if-has_port.false)

pub returns-else-has_port-clause-after : goal.returns-else-has_port-clause-after
unfolding arrival
returns-else-has_port-clause-after c = rw (← c.has_port.ensures, c.if-has_port.false)
