-- The sort of a queue, as the definitions write it. Assumes nothing.
use Rattle.std.specs.Prelude.{Bool, true, false}
use Rattle.table1.specs.declared.Sort.{Sort}
use Rattle.table1.specs.declared.Sort.TheVariants.{OnTime, Early}

-- Early ones, or those on time.
abbrev pub early_of : Sort → Bool
early_of OnTime = false
early_of Early = true
