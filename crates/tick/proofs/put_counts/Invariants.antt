-- `tick::put_counts` meets its contract. The loop's invariant: the ports below `port` have filled their bytes. Assumes nothing.
use mathlib.Core.Path.{◌≡◌}
use Rattle.rules.proofs.AreaLaws.{filled}
use Rattle.tick.proofs.Laid.{withdrawn}
use Rattle.tick.proofs.put_counts.Given as goal

abbrev pub invariant-loop-port : goal.invariant-loop-port
invariant-loop-port l = l.part ≡ filled 2 (withdrawn l.counts) l.initial.part l.port
