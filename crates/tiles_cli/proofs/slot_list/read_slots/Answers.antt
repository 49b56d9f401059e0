use Rattle.tiles_cli.proofs.Listing.{list_told_of}
use Rattle.tiles_cli.proofs.slot_list.read_slots.Goals as goal

pub returns-in-Ok-clause-tells : goal.returns-in-Ok-clause-tells
returns-in-Ok-clause-tells g c = list_told_of _ _ c.in-Ok.text.items _ c.slots_in.result c.in-Ok.ensures.took c.in-Ok.ensures.end (rw c.as_slice.ensures.value at c.slots_in.ensures)
