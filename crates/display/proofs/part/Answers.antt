-- `display::part` meets its contract: it is empty, or 18 bytes from where the data start, which lie inside the area (Starts). Assumes nothing.
use mathlib.Core.Path.{sym, ◌∙◌}
use Rattle.display.proofs.Starts.{empty, none-found, data-shown}
use Rattle.display.proofs.part.Goals as goal

pub returns-in_default : goal.returns-in_default
returns-in_default c = empty c.args.outgoing.now c.args.port (none-found c.args.outgoing.now c.args.port (sym c.in_default.is ∙ c.data_start.ensures))

pub returns : goal.returns
returns c = data-shown c.args.outgoing.now c.args.port c.in-Some.from (sym c.in-Some.is ∙ c.data_start.ensures)
