use Rattle.std.proofs.Common.{◌≡◌, ◌≤◌, ◌*◌, take}
use Rattle.std.specs.Prelude.{sum_by}
use Rattle.raster_values.specs.Raster.{valid_count}
use Rattle.tile_audit.proofs.verdicts.count_valid.Given as goal

abbrev pub invariant-loop-i : goal.invariant-loop-i
invariant-loop-i l = (l.valid ≡ sum_by valid_count (take l.i l.bands)) × (l.valid ≤ 4294967295 * l.i)
