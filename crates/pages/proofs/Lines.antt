-- The lines of a page as the parts that are printed one after the other. Assumes nothing.
use Prim.Native.Nat.{ℕ, ◌+◌, ◌-◌}
use mathlib.Core.Path.{◌≡◌, refl, sym}
use mathlib.Core.List.{List, [], ◌∷◌, ◌++◌, append-nil, append_assoc}
use lib.ListN.{replicate, replicate-append-replicate}
use Rattle.text.specs.Lines.{decimal, digits_of, unpadded, tick_text}
use Rattle.text.proofs.Numbers.{length-decimal}
use Rattle.text.proofs.Characters.{length-tick-text}
use Rattle.pages.specs.Pages.{spaces, number_line, tick_row, empty_row, total_line, ended}

pub ended-append : (a b : List (List ℕ)) → ended (a ++ b) ≡ ended a ++ ended b
unfolding ended
ended-append [] b = refl
ended-append (l ∷ a) b = rw (ended-append a b) (sym (append_assoc (l ++ (10 ∷ [])) (ended a) (ended b)))

pub ended-one : (l : List ℕ) → ended (l ∷ []) ≡ l ++ (10 ∷ [])
unfolding ended
ended-one l = append-nil (l ++ (10 ∷ []))

pub number-parts : (n : ℕ) → spaces (72 - digits_of n) ++ decimal (digits_of n) n ++ (10 ∷ []) ≡ ended (number_line n ∷ [])
unfolding number_line unpadded
number-parts n = rw (ended-one, length-decimal (digits_of n) n)

pub row-parts : (clock : ℕ) (out ans : List ℕ) → tick_text clock out ans ++ (spaces 42 ++ (10 ∷ [])) ≡ ended (tick_row (record { clock = clock; outgoing = out; answers = ans }) ∷ [])
unfolding tick_row
row-parts clock out ans = rw (ended-one, length-tick-text clock out ans) (sym (append_assoc (tick_text clock out ans) (spaces 42) (10 ∷ [])))

pub total-parts : (total : ℕ) → decimal 6 total ++ (spaces 66 ++ (10 ∷ [])) ≡ ended (total_line total ∷ [])
unfolding total_line
total-parts total = rw (ended-one, length-decimal 6 total) (sym (append_assoc (decimal 6 total) (spaces 66) (10 ∷ [])))

-- One line more without a tick.
pub empty-then : (i : ℕ) → ended (replicate i empty_row) ++ (empty_row ++ (10 ∷ [])) ≡ ended (replicate (i + 1) empty_row)
empty-then i = rw (← replicate-append-replicate i 1 empty_row, ended-append (replicate i empty_row) (empty_row ∷ []), ended-one empty_row)

-- What the functions that print a line append, for the search.
pub ruleset line_parts = (ended-append, number-parts, row-parts, total-parts, empty-then, append-nil, append_assoc)
