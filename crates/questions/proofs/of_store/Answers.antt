-- `questions::of_store` meets its contract: a wrong length stops the call, else the first fault decides. Assumes nothing.
use native.Mathlib.Omega.{arith}
use Rattle.std.proofs.lemmas.Bool.Decides.{nat_tests}
use Rattle.rules.specs.Areas.{asked}
use Rattle.rules.specs.Board.{board8}
use Rattle.rules.specs.Questions.{full, fault}
use Rattle.passes.specs.Stores.{store}
use mathlib.Core.Bool.{false}
use mathlib.Core.Path.{◌≡◌}
use mathlib.Core.Logic.{inl, inr}
use borrow.Author.Rules.{rules}
use Rattle.questions.proofs.Passed.{not-full}
use Rattle.sound.proofs.Accepted.{on_ok-map}
use Rattle.questions.proofs.of_store.Goals as goal

pub returns-in_default-clause-number : goal.returns-in_default-clause-number
unfolding asked
returns-in_default-clause-number c = let e : full board8 (store c.args.state.now c.args.memory.now) ≡ false = not-full _ (inr (λ e. omega (arith, c.in_default.ensures'.cases))) in rw e

pub returns-in_default-2-clause-number : goal.returns-in_default-2-clause-number
unfolding asked
returns-in_default-2-clause-number c = let e : full board8 (store c.args.state.now c.args.memory.now) ≡ false = not-full _ (inl (λ e. omega (arith, c.in_default.ensures.cases))) in rw e

pub returns-clause-number : goal.returns-clause-number
unfolding full asked fault
returns-clause-number c = grind (arith, nat_tests)

pub returns-clause-whole : goal.returns-clause-whole
returns-clause-whole c =
    let e : c.args.state.now ≡ c.in-Some-Some.state.now = search rules in
    on_ok-map c.fault.result (λ room. (search rules, search rules, rw e room)) c.fault.ensures.room
