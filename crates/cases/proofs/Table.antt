-- The cases marked P and the ties hold: the whole table by computation at the router that never turns over. Assumes nothing.
use Prim.Native.Nat.{ℕ}
use mathlib.Core.Path.{refl}
use Rattle.cases.specs.Rows as R
use Rattle.cases.specs.Table as S
use Rattle.cases.specs.Table.{AllMeet, Cases}
use Rattle.cases.proofs.Computing.{computing}
use Rattle.cases.proofs.NoThird.{no_third}
use Rattle.cases.proofs.Rows as Q
use Rattle.cases.proofs.Rows.{all_meet}

-- What is seen of the rows unfolds where this one does.
seeing : ℕ
unfolding computing R.listed R.expected_on_bytes R.expected_on_whole R.same_bytes R.fate_of R.before_whole R.arrived_whole R.reported R.candidate_on_whole R.on_whole Q.ports-left Q.by-places Q.by-router Q.runnable
    S.table S.horizon96 S.horizon95 S.time210 S.time200 S.time199 S.time111 S.time112 S.time112_d127 S.time113_d127 S.time240_sent S.time240_withdrawn S.tie_on_time S.tie_early
    S.time_decides S.time_decides_after_turn S.deadline_decides_past_127 S.deadline_decides_across_turn S.deadline_decides_after_turn
seeing = 0

rows : AllMeet S.table
unfolding seeing
rows = all_meet S.table refl refl refl

pub cases : Cases
unfolding Cases
cases = (rows, no_third)
