-- Soundness kept: what a fresh router is, and what calls leave of any sound state and memory. Assumes nothing.
use Rattle.std.specs.Prelude.{ℕ, ◌^◌, ◌<◌, ◌≡◌, true}
use mathlib.Core.List.{List, Memᴰ}
use Rattle.rules.specs.Areas.{Store, Bytes, bits}
use Rattle.rules.specs.Board.{Board}
use Rattle.rules.specs.Questions as Q
use Rattle.rules.specs.Calls.{Call, after_all}
use Rattle.rules.specs.Given.{ByteCall}
use Rattle.rules.specs.Demand3.{byte_step}
use Rattle.passes.specs.Room.{used}

module _ (B : Board) where
  open B use {clock_bytes as c, get}

  -- State and memory have their lengths and are sound, and no slot is lost.
  pub record Intact (r : Store) : Type 0 where
    pub full : Q.full B r ≡ true
    pub sound : Q.sound B r ≡ true
    pub slots : used B r.state ≡ 256

  -- A fresh router is intact, and so is what any calls, accepted or refused, leave of a sound state and memory.
  pub record SoundKept : Type 0 where
    pub fresh : (t : ℕ) → t < 2 ^ bits c → Intact (Q.fresh B t)
    pub calls : (r : Store) → Bytes r.state → Bytes r.memory → Q.full B r ≡ true → Q.sound B r ≡ true
        → (ks : List Call) → ((k : Call) → Memᴰ k ks → ByteCall c k) → Intact (after_all (byte_step B) r ks)
