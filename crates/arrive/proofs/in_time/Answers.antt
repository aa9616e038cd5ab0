-- `arrive::in_time` meets its contract: `clock::in_time` tells whether the offset is at least - d. Assumes nothing.
use mathlib.Core.Path.{sym}
use Rattle.rules.specs.Board.{board8}
use Rattle.rules.proofs.FieldBytes.{stamp-one}
use Rattle.passes.proofs.Arrivals.{in_time-read}
use Rattle.arrive.proofs.in_time.Goals as goal

pub returns : goal.returns
returns c = in_time-read board8 c.args.state.now c.args.packet.now (sym (stamp-one c.args.packet.now)) c.get.ensures c.get-d.ensures c.in_time.ensures
