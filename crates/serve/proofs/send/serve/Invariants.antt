-- `serve::send::serve` meets its contract. The loop's invariant: the ports below `p` have filled in their packets, and joined the sent masks. Assumes nothing.
use Rattle.choose.specs.Grants.{grant_at}
use Rattle.passes.specs.Sends.{sends}
use Rattle.rules.specs.Areas.{packet_length}
use Rattle.rules.specs.Tick.{grant_bytes}
use Rattle.rules.proofs.AreaLaws.{filled}
use mathlib.Core.Path.{◌≡◌}
use Rattle.serve.proofs.send.serve.Given as goal

abbrev pub invariant-loop-p : goal.invariant-loop-p
invariant-loop-p l = record {
  packets : l.outgoing ≡ filled packet_length (λ q. grant_bytes l.memory (grant_at l.grants q)) l.initial.outgoing l.p;
  masks : l.sent ≡ sends (grant_at l.grants) l.p;
}
