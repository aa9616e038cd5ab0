-- `table1::receive` meets its contract. The loop's invariant: the slots of the stack's entries from `n` - 1 down to `m` are in the queues, and these are at most the packets stored. Assumes nothing.
use Prim.Native.Nat.{◌-◌, ◌≤◌}
use mathlib.Core.Path.{◌≡◌}
use Rattle.rules.specs.Board.{board8}
use Rattle.queues.specs.Engine.{received}
use Rattle.table1.proofs.receive.Given as goal

abbrev pub invariant-loop-m : goal.invariant-loop-m
invariant-loop-m l = record { count : l.n - l.m ≤ l.n - l.m-start; queues : l.queues ≡ received board8 l.state l.n (l.n - l.m) l.initial.queues }
