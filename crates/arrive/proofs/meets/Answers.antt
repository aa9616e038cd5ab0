-- `arrive::meets` meets its contract: at each return the questions asked so far decide what refuses. Assumes nothing.
use mathlib.Core.Path.{refl}
use borrow.Author.Tests.{eq-eqb, ne_eqb}
use Rattle.rules.specs.Board.{board8}
use Rattle.passes.proofs.Arrivals.{closed-read, refusal-read}
use Rattle.arrive.proofs.meets.Goals as goal

pub returns-then-get-eq0 : goal.returns-then-get-eq0
returns-then-get-eq0 c = closed-read board8 _ _ c.get.ensures c.if-get-eq0.true

pub returns-then-not-in_time : goal.returns-then-not-in_time
returns-then-not-in_time c = rw c.if-not-in_time.true at (refusal-read board8 c.args.state.now c.args.packet.now c.get.ensures c.in_time.ensures refl (ne_eqb _ _ c.if-get-eq0.false))

pub returns-then-free_count-eq0 : goal.returns-then-free_count-eq0
returns-then-free_count-eq0 c = rw (c.if-not-in_time.false, eq-eqb _ _ c.if-free_count-eq0.true) at (refusal-read board8 c.args.state.now c.args.packet.now c.get.ensures c.in_time.ensures c.free_count.ensures (ne_eqb _ _ c.if-get-eq0.false))

pub returns : goal.returns
returns c = rw (c.if-not-in_time.false, ne_eqb _ _ c.if-free_count-eq0.false) at (refusal-read board8 c.args.state.now c.args.packet.now c.get.ensures c.in_time.ensures c.free_count.ensures (ne_eqb _ _ c.if-get-eq0.false))
