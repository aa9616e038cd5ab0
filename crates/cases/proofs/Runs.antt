-- The two runs: the replies of the router that never turns over by computation, and those of the router over bytes from them, by demand 3. Assumes nothing.
use Prim.Native.Nat.{ℕ, ◌+◌, ◌<◌}
use mathlib.Core.Path.{◌≡◌, refl, ◌∙◌}
use mathlib.Core.Bool.{true}
use mathlib.Core.List.{List}
use native.Mathlib.Omega.{arith}
use lib.IntN.{pos}
use Rattle.rules.specs.Areas.{Reply}
use Rattle.rules.specs.Whole.{start}
use Rattle.rules.specs.Calls.{Call, after_all, replies, whole_step}
use Rattle.rules.specs.Account.{stored}
use Rattle.cases.specs.Runs as S
use Rattle.cases.specs.Runs.{Gives, Runs}
use Rattle.cases.proofs.Computing.{computing}
use Rattle.cases.proofs.Proper.{is_proper, proper}
use Rattle.cases.proofs.Reached.{after-calls}

-- ---- what demand 3 says of a proper list

gives : (t : ℕ) → t < 256 → (ks : List Call) (rs : List Reply) (n m : ℕ) → is_proper 1 (pos t) ks ≡ true → replies (whole_step 1) (start t) ks ≡ rs → stored (after_all (whole_step 1) (start t) ks).place ≡ m → n + m ≡ 256 → Gives t ks rs n
gives t h ks rs n m p w s e =
    let a = after-calls t h ks (proper 1 ks (pos t) p) in
    record { whole = w; bytes = a.agree ∙ w; left = omega (arith, a.shown.free.0, s, e) }

-- ---- the runs, by computation

pub runs : Runs
unfolding Runs computing S.turning S.turning_replies S.below_zero S.below_zero_replies
runs = (
  gives 254 (omega arith) S.turning S.turning_replies 255 1 refl refl refl refl,
  gives 2 (omega arith) S.below_zero S.below_zero_replies 256 0 refl refl refl refl,
)
