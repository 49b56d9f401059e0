use Rattle.std.proofs.Common.{◌≡◌, ◌+◌, ◌*◌, ◌≤◌, take}
use Rattle.std.specs.List.{sum_by}
use Rattle.raster_grids.specs.inside.Sizes.{band_bytes}
use Rattle.raster_grids.proofs.bands_grid.bands_size.Given as goal

abbrev pub invariant-loop-i : goal.invariant-loop-i
invariant-loop-i l = record {
  sum : l.size ≡ l.initial.size + sum_by band_bytes (take l.i l.bands);
  few : l.size ≤ l.initial.size + l.i * 83886080;
}
