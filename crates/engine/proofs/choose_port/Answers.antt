-- `engine::choose_port` meets its contract: at each return a law of `Headings` says whom these first ones grant the port. Assumes nothing.
use mathlib.Core.Path.{sym}
use native.Mathlib.Omega.{arith}
use Rattle.engine.proofs.Headings.{head-wins, grants-on-time, grants-best-effort, grants-early, grants-nobody}
use borrow.Author.Tests.{le-leb, lt-leb}
use Rattle.engine.proofs.choose_port.Goals as goal

pub returns-in-Some-clause-wins : goal.returns-in-Some-clause-wins
returns-in-Some-clause-wins c = head-wins _ _ (omega arith) _ c.in-Some.ensures

pub returns-in-Some-clause-choice : goal.returns-in-Some-clause-choice
returns-in-Some-clause-choice c = grants-on-time _ _ _ _ c.in-Some.ensures

pub returns-then-has_port-clause-choice : goal.returns-then-has_port-clause-choice
returns-then-has_port-clause-choice c = grants-best-effort _ _ _ _ c.in_default.ensures (sym c.if-has_port.ensures)

pub returns-in-Some-heading-clause-wins : goal.returns-in-Some-heading-clause-wins
returns-in-Some-heading-clause-wins c = head-wins _ _ (omega arith) _ c.in-Some-heading.ensures

-- In what follows neither a slot on time nor best-effort has the port.
pub returns-in-Some-heading-clause-choice : goal.returns-in-Some-heading-clause-choice
returns-in-Some-heading-clause-choice c =
    grants-early _ _ _ _ (c.in_default.ensures, sym c.if-has_port.ensures) c.in-Some-heading.ensures c.key.ensures c.get-horizon.ensures (le-leb c.key.result c.get-horizon.result (omega arith))

pub returns-in_default-heading-clause-choice : goal.returns-in_default-heading-clause-choice
returns-in_default-heading-clause-choice c =
    grants-early _ _ _ _ (c.in_default.ensures, sym c.if-has_port.ensures) c.in-Some-heading.ensures c.key.ensures c.get-horizon.ensures (lt-leb c.key.result c.get-horizon.result (omega arith))

pub returns-in_default-heading-2-clause-choice : goal.returns-in_default-heading-2-clause-choice
returns-in_default-heading-2-clause-choice c =
    grants-nobody _ _ _ _ (c.in_default.ensures, sym c.if-has_port.ensures) c.in_default-heading.ensures
