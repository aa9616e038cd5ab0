-- `engine::key` meets its contract: of either sort, the key of the slot's time and deadline is the slot's. Assumes nothing.
use mathlib.Core.Path.{sym, ◌∙◌}
use Rattle.choose.proofs.SlotKeys.{first-by-key}
use Rattle.engine.proofs.key.Goals as goal

pub returns-in-OnTime : goal.returns-in-OnTime
returns-in-OnTime c =
    first-by-key _ _ _ _ _ c.get.ensures c.times-slot.ensures.0 c.times-slot.ensures.1 _ (sym c.in-OnTime.is ∙ c.key_of.ensures.key)

pub returns-in-Early : goal.returns-in-Early
returns-in-Early c =
    first-by-key _ _ _ _ _ c.get.ensures c.times-slot.ensures.0 c.times-slot.ensures.1 _ (sym c.in-Early.is ∙ c.key_of.ensures.key)
