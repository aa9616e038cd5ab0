-- `table1::sent_port` meets its contract: the case of the grant decides which queue gets shorter. Assumes nothing.
use mathlib.Core.List.{List, [], ◌∷◌}
use mathlib.Core.Path.{◌≡◌, refl}
use Prim.Native.Nat.{ℕ}
use denote.Enum.Declared.{tag_of}
use types.Run.{OneOf, miss}
use Rattle.choose.specs.declared.Grant.{Grant}
use Rattle.choose.specs.declared.Grant.TheVariants.{Nobody, BestEffort, OnTime, Early}
use Rattle.choose.specs.Grants.{grant_of}
use Rattle.choose.specs.contracts.Grant.{the_type}
use Rattle.queues.specs.Engine.{sent_from}
use borrow.Author.Rules.{rules}
use Rattle.table1.proofs.sent_port.Goals as goal

-- A port without a packet leaves the queues as they are.
not-sent : (g : Grant) → OneOf (0 ∷ 1 ∷ []) (tag_of the_type g) → (p : ℕ) (q : List ℕ) → q ≡ sent_from (grant_of g) p q
unfolding sent_from
not-sent Nobody h p q = refl
not-sent BestEffort h p q = refl
not-sent (OnTime s) h p q = absurd (miss (0 ∷ 1 ∷ []) 2 tt h)
not-sent (Early s) h p q = absurd (miss (0 ∷ 1 ∷ []) 3 tt h)

pub returns-in-Nobody : goal.returns-in-Nobody
returns-in-Nobody c = not-sent c.args.g (search rules) c.args.port.index _

pub returns-in-OnTime : goal.returns-in-OnTime
unfolding sent_from
returns-in-OnTime c =
    rw c.in-OnTime.is c.shorten.ensures

pub returns-in-Early : goal.returns-in-Early
unfolding sent_from
returns-in-Early c =
    rw c.in-Early.is c.shorten-in-Early.ensures
