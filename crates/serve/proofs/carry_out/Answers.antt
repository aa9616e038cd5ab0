-- `serve::carry_out` meets its contract: the ports send what they are granted, and the one pass with the sent masks does steps 3 to 5. Assumes nothing.
use Rattle.choose.specs.Grants.{grant_at}
use Rattle.passes.specs.Settling.{settled}
use Rattle.passes.proofs.Packets.{length-won}
use Rattle.passes.proofs.Sends.{sends-le}
use Rattle.passes.proofs.Steps.{settled-steps, counts-withdrawals}
use Rattle.rules.specs.Board.{board8}
use Rattle.rules.specs.Tick.{advanced}
use Rattle.rules.proofs.Board8Laws.{lawful8}
use mathlib.Core.List.{List}
use mathlib.Core.Path.{ap, ◌∙◌}
use native.Mathlib.Omega.{arith}
use Prim.Native.Nat.{ℕ}
use Rattle.serve.proofs.carry_out.Goals as goal

pub serve-codes-requires-clause-packets : goal.serve-codes-requires-clause-packets
serve-codes-requires-clause-packets c = λ q h. length-won board8 _ _ q c.told-memory _ (c.requires.grants q h)

pub settle-counts-requires-clause-sent : goal.settle-counts-requires-clause-sent
settle-counts-requires-clause-sent c = let g = grant_at c.args.grants in
    λ i. rw c.serve-codes.ensures.masks (sends-le board8 lawful8 _ g c.requires.grants 5 (omega arith) i)

pub returns-clause-withdrawn : goal.returns-clause-withdrawn
returns-clause-withdrawn c = let g = grant_at c.args.grants in
    counts-withdrawals board8 lawful8 c.args.state.now c.told-state g c.requires.grants _ (rw c.serve-codes.ensures.masks at c.settle-counts.ensures.counts)

pub returns-clause-after : goal.returns-clause-after
returns-clause-after c = let g = grant_at c.args.grants in
    c.advance.ensures ∙ ap (advanced board8) (c.settle-counts.ensures.after ∙ ap (λ (l : List ℕ). settled board8 c.args.state.now l 256) c.serve-codes.ensures.masks ∙ settled-steps board8 lawful8 c.args.state.now c.told-state g c.requires.grants c.requires.slots.0)
