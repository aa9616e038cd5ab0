-- `fitting::waits` meets its contract: a slot address is below 256, and the two tests are the code's. Assumes nothing.
use mathlib.Core.Path.{◌≡◌, refl, ◌∙◌}
use mathlib.Core.Bool.{beq}
use native.Mathlib.Omega.{arith}
use borrow.Author.Tests.{lt-ltb}
use denote.Enum.Bare.{sameb}
use Rattle.queues.specs.Table1.{waits}
use Rattle.table1.specs.declared.Sort.{Sort}
use Rattle.table1.specs.declared.Sort.TheVariants.{OnTime, Early}
use Rattle.table1.specs.contracts.Sort.{the_type}
use Rattle.table1.specs.Sorts.{early_of}
use Rattle.fitting.proofs.waits.Goals as goal

-- Two sorts are the same just if both are early or neither is.
same-sort : (a b : Sort) → sameb the_type a b ≡ beq (early_of a) (early_of b)
same-sort OnTime OnTime = refl
same-sort OnTime Early = refl
same-sort Early OnTime = refl
same-sort Early Early = refl

pub returns-then-has_port : goal.returns-then-has_port
unfolding waits
returns-then-has_port c = rw (lt-ltb c.args.s.0 256 (omega arith), ← c.get.ensures, ← c.if-has_port.ensures, ← c.of.ensures) (c.eq.ensures ∙ same-sort _ _)

pub returns-else-has_port : goal.returns-else-has_port
unfolding waits
returns-else-has_port c = rw (lt-ltb c.args.s.0 256 (omega arith), ← c.get.ensures, ← c.if-has_port.ensures) c.if-has_port.false
