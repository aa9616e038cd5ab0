-- `serve::serve_and_settle` meets its contract: the grants are the definition's, so that steps 3 to 6 with them are its steps 2 to 6. Assumes nothing.
use Rattle.choose.specs.Grants.{grant_at}
use Rattle.passes.proofs.Sends.{granted-wins, granted-served, granted-ports}
use Rattle.rules.specs.Areas.{Grant, grant_code}
use Rattle.rules.specs.Board.{board8}
use Rattle.rules.specs.Tick.{grant_bytes}
use Rattle.rules.proofs.Board8Laws.{lawful8}
use mathlib.Core.List.{[], ◌∷◌}
use mathlib.Core.Path.{◌∙◌}
use Prim.Native.Nat.{ℕ}
use Rattle.serve.proofs.serve_and_settle.Goals as goal

pub carry_out-requires-clause-grants : goal.carry_out-requires-clause-grants
carry_out-requires-clause-grants c = granted-wins board8 lawful8 _ c.told-state _ (grant_at c.grants-grants.result) c.grants-grants.ensures.each

pub returns-clause-after : goal.returns-clause-after
returns-clause-after c = let g = grant_at c.grants-grants.result in
    let v = granted-served board8 lawful8 c.args.state.now c.told-state c.args.waiting g c.grants-grants.ensures.each in rw v at c.carry_out.ensures.after

pub returns-clause-ports : goal.returns-clause-ports
returns-clause-ports c = let g = grant_at c.grants-grants.result in
    let v = granted-served board8 lawful8 c.args.state.now c.told-state c.args.waiting g c.grants-grants.ensures.each in c.carry_out.ensures.ports ∙ granted-ports board8 lawful8 c.args.state.now c.told-state c.args.waiting g c.grants-grants.ensures.each (λ (x : Grant ℕ). grant_code x ∷ [])

pub returns-clause-packets : goal.returns-clause-packets
returns-clause-packets c = let g = grant_at c.grants-grants.result in
    let v = granted-served board8 lawful8 c.args.state.now c.told-state c.args.waiting g c.grants-grants.ensures.each in c.carry_out.ensures.packets ∙ granted-ports board8 lawful8 c.args.state.now c.told-state c.args.waiting g c.grants-grants.ensures.each (grant_bytes c.args.memory.now)

pub returns-clause-withdrawn : goal.returns-clause-withdrawn
returns-clause-withdrawn c = let g = grant_at c.grants-grants.result in
    let v = granted-served board8 lawful8 c.args.state.now c.told-state c.args.waiting g c.grants-grants.ensures.each in rw v at c.carry_out.ensures.withdrawn
