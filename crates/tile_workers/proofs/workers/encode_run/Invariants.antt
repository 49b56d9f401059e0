use Rattle.std.proofs.Common.{◌≡◌, All, None, map, take}
use Rattle.lerc_encode.specs.Choice.{chosen_bands}
use Rattle.tile_workers.specs.inside.Encoded.{IsEncodedSo}
use Rattle.tile_workers.proofs.workers.encode_run.Given as goal

abbrev pub invariant-loop-i : goal.invariant-loop-i
invariant-loop-i g l =
    (l.blobs.items ≡ map (λ t. chosen_bands None t l.coding.0 l.coding.1.0) (take l.i l.tiles))
    × All (IsEncodedSo l.coding.0 l.coding.1.0) (take l.i l.tiles)
