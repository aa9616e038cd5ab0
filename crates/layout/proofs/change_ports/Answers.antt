-- `layout::change_ports` meets its contract. The loop's invariant: the ports that aren't left have their cells changed. The measure is the mask of the ports left. Assumes nothing.
use Prim.Native.Nat.{◌<◌}
use lib.Count.{count_trailing_zeros}
use lib.ListN.{length}
use Rattle.std.proofs.Common.{of_calls}
use Rattle.std.proofs.lemmas.List.{get_or_default}
use Rattle.layout.proofs.LowestPort.{lowest-port, has-lowest, changed-none, changed-lowest, changed-all, lowest-waits}
use Rattle.layout.proofs.change_ports.Goals as goal

pub loop-left-init : goal.loop-left-init
loop-left-init g c = changed-none _ _ _ c.requires.ports c.told-cells

pub listed : goal.listed
listed g c = rw c.loop-left.invariant.five (lowest-port _ c.loop-left.invariant.fits c.loop-left-test.true)

pub bounds-cells-p : goal.bounds-cells-p
bounds-cells-p g c = lowest-port _ c.loop-left.invariant.fits c.loop-left-test.true

pub f-requires : goal.f-requires
f-requires g c =
    let I = c.loop-left.invariant in
    let n = c.loop-left-test.true in
    let h = rw (← lowest-waits n I c.index-cells-p.result) at (c.requires.callable _ c.index-cells-p.result (lowest-port _ I.fits n) (I.among _ (lowest-port _ I.fits n) (has-lowest _ I.fits n))) in
    search (of_calls, h)

pub listed-in-loop-left : goal.listed-in-loop-left
listed-in-loop-left g c = rw c.loop-left.invariant.five (lowest-port _ c.loop-left.invariant.fits c.loop-left-test.true)

pub bounds-cells-p-in-loop-left : goal.bounds-cells-p-in-loop-left
bounds-cells-p-in-loop-left g c = lowest-port _ c.loop-left.invariant.fits c.loop-left-test.true

pub loop-left-preserved : goal.loop-left-preserved
loop-left-preserved g c =
    let I = c.loop-left.invariant in
    let h : count_trailing_zeros 8 c.loop-left.left < length c.loop-left.cells = rw I.five (lowest-port _ I.fits c.loop-left-test.true) in
    changed-lowest _ _ _ _ _ c.loop-left-test.true I _ (λ d. rw (get_or_default c.loop-left.cells (count_trailing_zeros 8 c.loop-left.left) d c.index-cells-p.result h) c.f.ensures)

pub returns-clause-changed : goal.returns-clause-changed
returns-clause-changed g c = changed-all c.loop-left.invariant c.loop-left-test.false
