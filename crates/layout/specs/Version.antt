-- The version of the archives as one number: the first number times 10,000, the second times 100, and the third, as include/router.h writes it. Assumes nothing.
use Rattle.std.specs.Prelude.{ℕ, ◌+◌, ◌*◌}

abbrev pub version : ℕ
version = 3 * 10000 + 1 * 100 + 0
