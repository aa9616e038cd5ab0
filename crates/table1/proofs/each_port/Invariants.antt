-- `table1::each_port` meets its contract. The loop's invariant: the ports below `index` are done. Assumes nothing.
use Prim.Native.Nat.{ℕ}
use mathlib.Core.Path.{◌≡◌}
use mathlib.Core.List.{List}
use Rattle.std.specs.Borrow.{MutBor}
use Rattle.layout.specs.declared.Port.{Port}
use Rattle.queues.specs.Engine.{each_port}
use Rattle.table1.proofs.each_port.Given as goal

abbrev pub invariant-loop-index : goal.invariant-loop-index
invariant-loop-index g l = (f : ℕ → List ℕ → List ℕ) → ((x y : MutBor (List ℕ)) (p : Port) → goal.F-post g l.step x p tt y → y.now ≡ f p.index x.now) → l.queues ≡ each_port f l.index l.initial.queues
