-- `choose::scan` meets its contract. The loop's invariant: `bests` has the least ranks of the slots below `i`; those past `end` change none. Assumes nothing.
use Rattle.passes.specs.Ranks.{best}
use Rattle.passes.proofs.EmptySlots.{to_end}
use Rattle.passes.proofs.MaskPorts.{each-as}
use Rattle.passes.proofs.Ranks.{bests-start, best-empty}
use Rattle.rules.specs.Areas.{bits}
use Rattle.rules.specs.Board.{board8}
use mathlib.Core.Path.{◌≡◌}
use Prim.Native.Nat.{ℕ}
use native.Mathlib.Omega.{arith}
use Rattle.choose.proofs.scan.Goals as goal

pub loop-i-init : goal.loop-i-init
unfolding bits
loop-i-init c = bests-start board8 _

pub returns : goal.returns
returns c = let e : c.loop-i.i ≡ c.args.end = omega arith in
    each-as c.loop-i.invariant (λ p h. rw e (to_end board8 _ (λ (i : ℕ). best board8 _ i p) (best-empty board8 _ p h) _ c.requires))
