-- `arrive::place` meets its contract: what each call gives, from the last store back to the first read, makes `placed`. Assumes nothing.
use mathlib.Core.Path.{sym}
use Rattle.rules.specs.Board.{board8}
use Rattle.rules.proofs.Board8Laws.{lawful8}
use Rattle.rules.proofs.FieldBytes.{stamp-one}
use Rattle.passes.specs.Stores.{store}
use Rattle.passes.proofs.Arrivals.{stores-placed, placed-leaves-room}
use borrow.Author.Rules.{rules}
use Rattle.arrive.proofs.place.Goals as goal

pub returns-clause-after : goal.returns-clause-after
returns-clause-after c = let r = store c.args.state.now c.args.memory.now in
    let e = stores-placed board8 r c.args.packet.now (sym (stamp-one c.args.packet.now)) c.get.ensures c.later-deadline.ensures c.get-mask.ensures c.get-2.ensures c.free_count-n.ensures c.get-3.ensures
    c.store_packet.ensures c.put_free.ensures c.put.ensures c.put-2.ensures c.put-3.ensures in
    e

pub returns-clause-room : goal.returns-clause-room
returns-clause-room c = let r = store c.args.state.now c.args.memory.now in
    let e = stores-placed board8 r c.args.packet.now (sym (stamp-one c.args.packet.now)) c.get.ensures c.later-deadline.ensures c.get-mask.ensures c.get-2.ensures c.free_count-n.ensures c.get-3.ensures
    c.store_packet.ensures c.put_free.ensures c.put.ensures c.put-2.ensures c.put-3.ensures in
    placed-leaves-room board8 lawful8 r c.args.packet.now c.told-state c.requires c.free_count-n.ensures c.get-3.ensures (search rules) e
