-- `fitting::fitting` meets its contract. The loop's invariant: the ports below `index` fit, and `left` has the counts of the others. Assumes nothing.
use Prim.Native.Nat.{ℕ, ◌<◌}
use mathlib.Core.Bool.{Bool, true, false, true≢false}
use mathlib.Core.Path.{◌≡◌, refl, sym, ◌∙◌}
use native.Mathlib.Numerals.{add-one}
use native.Mathlib.Omega.{arith}
use Rattle.rules.specs.Order.{all}
use Rattle.rules.proofs.IndexLaws.{all-at}
use Rattle.queues.specs.Engine as Engine
use Rattle.fitting.proofs.PackedCounts.{packed-count, packed_above}
use Rattle.fitting.proofs.fitting.Goals as goal

pub loop-index-init : goal.loop-index-init
unfolding all
loop-index-init c = record { counts = rw c.waiting-left.ensures (omega arith); fit = refl }

pub port_fits-requires : goal.port_fits-requires
port_fits-requires c = rw c.loop-index.invariant.counts (packed-count c.args.state.now 256 (omega arith) c.loop-index.index (omega arith))

pub loop-index-preserved : goal.loop-index-preserved
unfolding all
loop-index-preserved c = record {
  counts = packed_above _ c.loop-index.index _ c.loop-index.invariant.counts;
  fit = rw (add-one c.loop-index.index, c.loop-index.invariant.fit) (sym c.if-not-port_fits.ensures);
}

-- A port that does not fit keeps all five from fitting.
one-misfit : (f : ℕ → Bool) (p : ℕ) → p < 5 → false ≡ f p → false ≡ all 5 f
one-misfit f p l h = go (all 5 f) refl
  where
    go : (a : Bool) → all 5 f ≡ a → false ≡ all 5 f
    go true e = absurd (true≢false (sym (all-at f 5 p e l) ∙ sym h))
    go false e = sym e

pub returns-then-not-port_fits : goal.returns-then-not-port_fits
unfolding Engine.fitting
returns-then-not-port_fits c = one-misfit _ _ (omega arith) c.if-not-port_fits.ensures

pub returns : goal.returns
unfolding Engine.fitting
returns c =
    let e : c.loop-index.index ≡ 5 = omega arith in
    sym (rw e at c.loop-index.invariant.fit)
