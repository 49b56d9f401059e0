use Rattle.std.proofs.Common.{◌++◌, ◌≡◌, None, length, map}
use Rattle.lerc_encode.specs.Choice.{chosen_bands}
use Rattle.tile_updates.specs.Tiles.{tiles_of}
use Rattle.tile_updates.proofs.Adding.{AreAdded}
use Rattle.tile_updates.proofs.encoding.add_blobs.Given as goal

abbrev pub invariant-loop-blob : goal.invariant-loop-blob
invariant-loop-blob l =
    (l.i ≡ length l.yielded) × ((l.yielded ++ l.blob-iterator.rest.items ≡ map (λ t. chosen_bands None t l.coding.version l.coding.step) l.batch-inside.tiles.items)
    × AreAdded l.coding.version l.coding.step l.fn.list (tiles_of l.slots.items l.batch-inside.tiles.items) l.i l.list)
