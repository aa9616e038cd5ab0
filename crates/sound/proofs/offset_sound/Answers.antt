-- `sound::offset_sound` meets its contract, by the law `offset-window` at a clock reading of one byte. Assumes nothing.
use native.Mathlib.Omega.{arith}
use Rattle.rules.specs.Areas.{bits, half}
use Rattle.rules.proofs.Offsets.{offset-window}
use borrow.Author.Rules.{rules}
use Rattle.sound.proofs.offset_sound.Goals as goal

pub returns : goal.returns
unfolding bits half
returns c = offset-window 1 _ _ _ _ _ (omega arith) (search rules) (search rules) c.requires c.later.ensures c.since.ensures
