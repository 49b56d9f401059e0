use Rattle.std.proofs.Common.{sym, ◌∙◌}
use Rattle.bundle_tiles.proofs.TilesBySlot.{slots_none}
use Rattle.bundle_tiles.proofs.slots.filled_slots.Goals as goal

pub loop-number-init : goal.loop-number-init
loop-number-init c = record { so = λ bundle serves. c.new-slots.ensures.items ∙ sym (slots_none bundle) }
