-- A block's chunks are its records: the first chunk of what is left is its first record, and leaves what follows that. Assumes nothing.
use Rattle.std.proofs.Common.{◌≡◌, ℕ, min, ◌+◌, List, [], ◌++◌, length, take, drop, sym, ap, ◌∙◌, arith, append-nil, length-append, inl, inr, take_all, take_at, drop_at}
use Rattle.std.proofs.lemmas.Bool.{cases_lt}
use Rattle.std.proofs.lemmas.List.{nil_from_length, drop_all}

module _ (all chunk rest : List ℕ) (n : ℕ) (parts : all ≡ chunk ++ rest) (size : length chunk ≡ min n (length all)) where
  len : length all ≡ length chunk + length rest
  len = ap length parts ∙ length-append chunk rest

  pub chunk-first : chunk ≡ take n all
  chunk-first =
      elim (cases_lt (length all) n) [
        | inl short ↦ let none : rest ≡ [] = nil_from_length rest (omega (arith, len)) in rw (take_all n all (omega arith)) (sym (rw (none, append-nil) at parts))
        | inr long ↦ rw parts (sym (take_at chunk rest n (omega arith)))
      ]

  pub chunk-leaves : rest ≡ drop n all
  chunk-leaves =
      elim (cases_lt (length all) n) [
        | inl short ↦ rw (drop_all n all (omega arith)) (nil_from_length rest (omega (arith, len)))
        | inr long ↦ rw parts (sym (drop_at chunk rest n (omega arith)))
      ]
