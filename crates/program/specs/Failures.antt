-- What a program says of what it can't do. Assumes nothing.
use Rattle.std.specs.Prelude.{ℕ, List, codes}
use Rattle.program.specs.declared.Failure.{Failure}
use Rattle.program.specs.declared.Failure.TheVariants.{Input, Output, TooLong}

abbrev pub text_of : Failure → List ℕ
text_of Input = codes "standard input can't be read"
text_of Output = codes "standard output can't be written"
text_of TooLong = codes "reading stopped after 2^48 reads"
