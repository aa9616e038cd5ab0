-- `display::start` meets its contract: nothing is shown, or the data start there (Starts). Assumes nothing.
use Rattle.display.proofs.Starts.{starts}
use Rattle.display.proofs.start.Goals as goal

pub returns-clause-start : goal.returns-clause-start
returns-clause-start c = rw (c.unwrap_or.ensures, c.data_start.ensures) (starts c.args.outgoing.now c.args.port).0

pub returns-clause-part : goal.returns-clause-part
returns-clause-part c = rw (c.unwrap_or.ensures, c.data_start.ensures) (starts c.args.outgoing.now c.args.port).1
