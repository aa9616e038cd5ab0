-- `control::commit_horizon` meets its contract: the state has the horizon for the ports of the mask below `index`. Assumes nothing.
use mathlib.Core.Path.{◌≡◌}
use Rattle.rules.specs.Board.{board8}
use Rattle.rules.specs.Questions.{commit_horizon}
use Rattle.control.proofs.commit_horizon.Given as goal

abbrev pub invariant-loop-index : goal.invariant-loop-index
invariant-loop-index l = l.state ≡ commit_horizon board8 l.index l.mask l.horizon l.initial.state
