-- `queue::make_room` meets its contract. The loop's invariant: what the slot with this rank makes of the last `j` entries is what it makes of all `n` at the start. Assumes nothing.
use Prim.Native.Nat.{◌<◌}
use mathlib.Core.Path.{◌∙◌}
use native.Mathlib.Omega.{arith}
use Rattle.rules.specs.Board.{board8}
use Rattle.queue.proofs.Steps.{placed-below, placed-here, placed-last}
use Rattle.queue.proofs.RankTests.{lower-before, higher-after}
use Rattle.queue.proofs.make_room.Goals as goal

pub returns-then-rank : goal.returns-then-rank
returns-then-rank c =
    let h : c.args.s.0 < 256 = omega (arith, c.well_formed) in (
      omega arith,
      placed-here _ _ _ _ (omega arith) c.slot-other.ensures _ _ (higher-after board8 _ _ c.args.s.0 (omega arith) h _ _ c.rank.ensures.rank c.rank-rank.ensures.rank (omega (arith, c.if-rank.true)))
          ∙ c.loop-j.invariant c.args.s.0 h c.rank-rank.ensures.rank,
    )

pub loop-j-preserved : goal.loop-j-preserved
loop-j-preserved c i h k =
    rw c.put_slot.ensures
    (placed-below _ _ _ _ (omega arith) c.slot-other.ensures _ _ (lower-before board8 _ _ _ (omega arith) h _ _ c.rank.ensures.rank k (omega (arith, c.if-rank.false))) ∙ c.loop-j.invariant i h k)

pub returns : goal.returns
returns c =
    (omega arith, placed-last _ _ _ _ (omega arith) ∙ c.loop-j.invariant c.args.s.0 (omega arith) c.rank-rank.ensures.rank)
