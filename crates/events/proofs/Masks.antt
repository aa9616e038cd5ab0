-- A mask of eight bits without port p has room for the port's bit. Assumes nothing.
use Prim.Native.Nat.{ℕ, zero, suc, ◌+◌, ◌*◌, ◌/◌, ◌%◌, ◌^◌, ◌≤◌, ◌<◌}
use mathlib.Core.Path.{◌≡◌, refl}
use mathlib.Core.Bool.{false}
use native.Mathlib.Omega.{arith}
use borrow.Author.Tests.{eqb-false}
use Rattle.rules.specs.Areas.{has}

pub room-for-port : (m p : ℕ) → m < 256 → p ≤ 4 → has m p ≡ false → (m + 1 * 2 ^ p % 256 < 256) × (1 * 2 ^ p % 256 ≡ 2 ^ p)
unfolding has
room-for-port m zero l h e = let f = eqb-false (m / 2 ^ 0 % 2) 1 e in (omega arith, refl)
room-for-port m (suc zero) l h e = let f = eqb-false (m / 2 ^ 1 % 2) 1 e in (omega arith, refl)
room-for-port m (suc (suc zero)) l h e = let f = eqb-false (m / 2 ^ 2 % 2) 1 e in (omega arith, refl)
room-for-port m (suc (suc (suc zero))) l h e = let f = eqb-false (m / 2 ^ 3 % 2) 1 e in (omega arith, refl)
room-for-port m (suc (suc (suc (suc zero)))) l h e = let f = eqb-false (m / 2 ^ 4 % 2) 1 e in (omega arith, refl)
room-for-port m (suc (suc (suc (suc (suc p))))) l h e = absurd (omega arith)
