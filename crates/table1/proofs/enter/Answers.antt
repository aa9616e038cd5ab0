-- `table1::enter` meets its contract: an empty slot enters no queue. Assumes nothing.
use mathlib.Core.Path.{sym, ◌∙◌}
use Rattle.rules.specs.Board.{board8}
use Rattle.table1.proofs.Turns.{entered-empty}
use Rattle.table1.proofs.enter.Goals as goal

pub returns-then-mask-eq0 : goal.returns-then-mask-eq0
returns-then-mask-eq0 c = entered-empty board8 _ _ _ (sym c.get-mask.ensures ∙ c.if-mask-eq0.true)
