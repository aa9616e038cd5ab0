-- `sound::slot_passes` meets its contract: by whether the slot is idle. Assumes nothing.
use Rattle.rules.specs.Board.{board8}
use Rattle.passes.specs.Stores.{store}
use Rattle.passes.proofs.SlotTests.{passes-idle}
use Rattle.sound.proofs.slot_passes.Goals as goal

pub returns-then-idle : goal.returns-then-idle
returns-then-idle c = rw c.if-idle.true (passes-idle board8 (store c.args.state.now c.args.memory.now) c.args.s.0 c.get.ensures)
