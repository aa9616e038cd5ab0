-- `settle::give_back` meets its contract: the stores are those of the definition, and emptying the mask leaves n. Assumes nothing.
use Rattle.passes.proofs.GivingBack.{free-emptied}
use Rattle.rules.proofs.Board8Laws.{lawful8}
use Rattle.rules.specs.Board.{board8}
use native.Mathlib.Omega.{arith}
use Rattle.settle.proofs.give_back.Goals as goal

pub overflow_add-n : goal.overflow_add-n
overflow_add-n c = omega (arith, free-emptied board8 lawful8 _ _ c.told-state (omega arith) _ c.put.ensures _ c.free_count-n.ensures, c.requires)
