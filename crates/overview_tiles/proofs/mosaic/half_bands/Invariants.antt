use Rattle.std.proofs.Common.{◌≡◌, length}
use Rattle.overview_tiles.specs.inside.Numbers.{sums_of}
use Rattle.overview_tiles.proofs.HalfBands.{EachHas}
use Rattle.overview_tiles.proofs.mosaic.half_bands.Given as goal

abbrev pub invariant-loop-b : goal.invariant-loop-b
invariant-loop-b l = record {
  count : length l.half ≡ l.b;
  each : EachHas l.fn.kind l.rows l.cols l.depth (sums_of l.layers) l.half;
}
