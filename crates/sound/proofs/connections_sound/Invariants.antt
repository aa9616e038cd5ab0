-- `sound::connections_sound` meets its contract. The loop's invariant: the connections passed are sound. Assumes nothing.
use mathlib.Core.Path.{◌≡◌}
use mathlib.Core.Bool.{true}
use Rattle.rules.specs.Order.{all}
use Rattle.rules.specs.Board.{board8}
use Rattle.rules.specs.Questions.{connection_sound}
use Rattle.sound.proofs.connections_sound.Given as goal

abbrev pub invariant-loop-c : goal.invariant-loop-c
invariant-loop-c l = all l.c (connection_sound board8 l.state) ≡ true
