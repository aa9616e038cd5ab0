-- `fill_decimal` meets its contract. The loop's invariant: the digits of the rest, before those stored, are all. Assumes nothing.
use Rattle.std.proofs.Common.{◌≡◌, ℕ, suc, ◌+◌, ◌-◌, ◌/◌, ◌%◌, ◌<◌, List, [], ◌∷◌, ◌++◌, length, drop, slice_set, append_assoc, add-one, sym, rules, arith, ◌∙◌}
use Rattle.std.proofs.lemmas.List.{drop-set}
use Rattle.text.specs.Lines.{decimal}
use Rattle.text.proofs.fill_decimal.Goals as goal

-- The rest's last digit goes before those stored.
last-stored : (l : List ℕ) (i v : ℕ) → i < length l → decimal i (v / 10) ++ drop i (slice_set l i (48 + v % 10)) ≡ decimal (suc i) v ++ drop (suc i) l
unfolding decimal
last-stored l i v h = rw (drop-set l i (48 + v % 10) h, add-one i) (sym (append_assoc (decimal i (v / 10)) ((48 + v % 10) ∷ []) (drop (suc i) l)))

pub loop-i-preserved : goal.loop-i-preserved
loop-i-preserved c =
    let e : suc (c.loop-i.i - 1) ≡ c.loop-i.i = omega arith in
    record {
      same_length = search rules;
      digits = rw e at (last-stored c.loop-i.digits (c.loop-i.i - 1) c.loop-i.rest (omega arith)) ∙ c.loop-i.invariant.digits;
    }

pub returns : goal.returns
unfolding decimal
returns c =
    let e : c.loop-i.i ≡ 0 = omega arith in
    rw e at c.loop-i.invariant.digits
