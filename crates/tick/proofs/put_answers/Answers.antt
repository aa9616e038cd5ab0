-- `tick::put_answers` meets its contract: the three parts, each stored over its place, make the area. Assumes nothing.
use mathlib.Core.Path.{◌≡◌}
use native.Mathlib.Omega.{arith}
use lib.ListN.{length, length-drop}
use Rattle.tick.proofs.Laid.{laid}
use borrow.Author.Rules.{rules}
use Rattle.tick.proofs.put_answers.Goals as goal

pub returns : goal.returns
returns c =
    let n : length c.args.codes ≡ 5 = search rules in
    let m : length c.args.met ≡ 5 = search rules in
    laid c.args.answers.now c.args.codes c.args.met c.args.counts _ _ _ c.told-answers n m c.copy_in.ensures c.put_met.ensures c.put_counts.ensures _ (simp length-drop (omega arith))
