-- `settle::settle_slot` meets its contract: at each return two laws of `Settling` say what these tests and stores make of the counts and of the state.
-- Assumes nothing.
use Prim.Native.Nat.{◌+◌, ◌-◌, ◌%◌}
use borrow.Author.Rules.{rules}
use Rattle.passes.proofs.MaskPorts.{each-changed}
use Rattle.passes.proofs.Settling.{slot-waits, slot-empty, counts-waiting, counts-empty, counts-due}
use Rattle.rules.specs.Board.{board8}
use Rattle.rules.proofs.Board8Laws.{lawful8}
use mathlib.Core.Path.{sym, ◌∙◌}
use native.Mathlib.Omega.{arith}
use borrow.Author.Tests.{eq-eqb, ne_eqb}
use Rattle.settle.proofs.settle_slot.Goals as goal

pub returns-then-get-t-clause-after : goal.returns-then-get-t-clause-after
returns-then-get-t-clause-after c = let d = ne_eqb _ _ c.if-get-t.true in
    slot-waits board8 lawful8 _ _ _ _ _ (omega arith) c.get.ensures d c.if-sent-eq0.true

pub returns-then-get-t-clause-counts : goal.returns-then-get-t-clause-counts
returns-then-get-t-clause-counts c = let d = ne_eqb _ _ c.if-get-t.true in
    counts-waiting board8 lawful8 _ _ _ _ _ c.told-counts _ c.get.ensures d

pub returns-then-mask-eq0-clause-counts : goal.returns-then-mask-eq0-clause-counts
returns-then-mask-eq0-clause-counts c = let m = sym c.get-mask.ensures ∙ c.if-mask-eq0.true in
    counts-empty board8 lawful8 _ _ _ _ _ c.told-counts m

pub returns-then-mask-eq0-clause-after : goal.returns-then-mask-eq0-clause-after
returns-then-mask-eq0-clause-after c = let m = sym c.get-mask.ensures ∙ c.if-mask-eq0.true in
    slot-empty board8 lawful8 _ _ _ _ (omega arith) m

pub returns-then-get-t-2-clause-counts : goal.returns-then-get-t-2-clause-counts
returns-then-get-t-2-clause-counts c =
    let d = eq-eqb _ _ c.if-get-t-2.true in
    let e = each-changed (λ n. n + 1) ((c.get-mask.result - c.args.sent) % 32) c.args.counts.now c.change_ports.new.cells c.change_ports.array_long (λ p x h t. let k = c.change_ports.ensures.changed p x h t in search rules) c.change_ports.ensures.rest in
    counts-due board8 lawful8 _ _ _ _ c.args.counts.now c.told-counts _ c.get-2.ensures d _ c.get-mask.ensures _ e

pub returns-then-left-eq0-clause-counts : goal.returns-then-left-eq0-clause-counts
returns-then-left-eq0-clause-counts c = let d = ne_eqb _ _ c.if-get-t-2.false in counts-waiting board8 lawful8 _ _ _ _ _ c.told-counts _ c.get-2.ensures d

pub returns-clause-counts : goal.returns-clause-counts
returns-clause-counts c = let d = ne_eqb _ _ c.if-get-t-2.false in counts-waiting board8 lawful8 _ _ _ _ _ c.told-counts _ c.get-2.ensures d
