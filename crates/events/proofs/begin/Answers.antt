-- `begin` meets its contract: the router's own outcome (`start-fresh` of Taking). Assumes nothing.
use Rattle.std.proofs.Common.{rules}
use Rattle.rules.specs.Areas.{Store}
use Rattle.events.specs.Tape.{start}
use Rattle.events.proofs.Numbers.{ok-from-number}
use Rattle.events.proofs.Taking.{start-fresh}
use Rattle.events.proofs.begin.Goals as goal

pub unwrap-requires : goal.unwrap-requires
unwrap-requires c =
    let s : Store = record { state = c.args.state.now; memory = c.args.memory.now } in
    ok-from-number _ (start-fresh s _ _ (search rules) (search rules) c.router_fresh.ensures).0

pub returns : goal.returns
unfolding start
returns c =
    let s : Store = record { state = c.args.state.now; memory = c.args.memory.now } in
    rw (← (start-fresh s _ _ (search rules) (search rules) c.router_fresh.ensures).1)
