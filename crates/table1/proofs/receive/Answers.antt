-- `table1::receive` meets its contract. The loop's invariant: the slots of the stack's entries from `n` - 1 down to `m` are in the queues, and these are at most the packets stored. Assumes nothing.
use Prim.Native.Nat.{◌-◌}
use mathlib.Core.Path.{◌≡◌}
use native.Mathlib.Omega.{arith}
use Rattle.rules.specs.Board.{board8, free}
use Rattle.table1.proofs.Turns.{received-none, received-next}
use Rattle.table1.proofs.receive.Goals as goal

pub loop-m-init : goal.loop-m-init
loop-m-init c = record { count = omega arith; queues = received-none board8 _ _ _ _ (omega arith) }

pub loop-m-preserved : goal.loop-m-preserved
loop-m-preserved c = record {
  count = omega arith;
  queues = received-next board8 _ _ (c.loop-m.m - 1) _ _ _ _ _ (omega arith) (omega arith) c.loop-m.invariant.queues (rw (← c.get.ensures) c.enter.ensures);
}

pub returns : goal.returns
returns c =
    let e : c.args.n - c.loop-m.m ≡ c.args.n - board8.get c.args.state.now free = omega (arith, c.loop-m.invariant.count, c.free_count-m-start.ensures) in
    rw e at c.loop-m.invariant.queues
