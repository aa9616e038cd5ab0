-- `table1::move_port` meets its contract. The loop's invariant: what the last `j` of the early queue come to is what all of them come to at the start. Assumes nothing.
use native.Mathlib.Omega.{arith}
use mathlib.Core.Path.{sym, ◌∙◌}
use Rattle.rules.specs.Board.{board8}
use Rattle.table1.proofs.Turns.{moved-more, moved-done, moved-none}
use Rattle.table1.proofs.move_port.Goals as goal

pub returns-then-is_early : goal.returns-then-is_early
returns-then-is_early c =
    moved-done board8 _ _ _ _ _ _ (omega arith) (rw c.part-in-loop-j.ensures at c.entry-s.ensures) (sym c.if-is_early.ensures) ∙ c.loop-j.invariant

pub loop-j-preserved : goal.loop-j-preserved
loop-j-preserved c =
    moved-more board8 _ _ _ _ _ _ (omega arith) (rw c.part-in-loop-j.ensures at c.entry-s.ensures) (sym c.if-is_early.ensures) _ _ c.shorten.ensures c.shorten.array_long (omega arith) c.insert.ensures ∙ c.loop-j.invariant

pub returns : goal.returns
returns c = moved-none board8 _ _ _ _ (omega arith) ∙ c.loop-j.invariant
