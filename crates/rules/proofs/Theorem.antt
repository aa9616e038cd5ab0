-- The claims, each one constant: demand 3 and the layout, for the board of document 01. Assumes nothing.
use native.Mathlib.Omega.{arith}
use Rattle.rules.specs.Board.{board8, LaidOut8}
use Rattle.rules.specs.Demand3.{Demand3}
use Rattle.rules.proofs.Board8Laws.{lawful8, laid-out8}
use Rattle.rules.proofs.Agreement.{holds}
use Rattle.rules.proofs.Feed.{feedable}
use Rattle.rules.proofs.GivenLaws.{words}

-- The claim holds of every lawful board, this board is lawful, and any bytes can be given true times.
pub demand3 : Demand3
demand3 = record { holds = holds board8 lawful8; feedable = feedable 1 (omega arith) (omega arith); words = words }

pub layout : LaidOut8
layout = laid-out8
