use Rattle.std.proofs.Common.{length, ap, arith}
use Rattle.tile_audit.specs.inside.Waits.{IsTileOf}
use Rattle.tile_audit.proofs.Zips.{zip_length}
use Rattle.tile_audit.proofs.walk.give_batch.Goals as goal

pub with_tiles-requires : goal.with_tiles-requires
with_tiles-requires g c =
    omega (arith, c.requires, ap length c.as_slice-2.ensures.value, zip_length IsTileOf c.as_slice-tiles.result.now c.in-Ok.told.items c.in-Ok.ensures, ap length c.as_slice-tiles.ensures)
