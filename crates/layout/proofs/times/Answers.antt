-- `layout::times` meets its contract: a field of one byte is the byte at its place, and the deadline's place is the one after the time's. Assumes nothing.
use Rattle.rules.proofs.FieldBytes.{get-one}
use Rattle.rules.specs.Board.{Time, Deadline, table8}
use mathlib.Core.Path.{◌≡◌, refl}
use Prim.Native.Nat.{◌+◌}
use native.Mathlib.Omega.{arith}
use Rattle.layout.proofs.times.Goals as goal

pub returns-then-state-ge-STATE : goal.returns-then-state-ge-STATE
returns-then-state-ge-STATE c =
    let next : c.place-at.result + 1 ≡ (table8 (Deadline, c.args.s.0)).0 = omega (arith, c.place-at.ensures) in
    (rw (get-one table8 c.args.state.now (Time, c.args.s.0) refl, ← c.place-at.ensures), rw (get-one table8 c.args.state.now (Deadline, c.args.s.0) refl, ← next))
