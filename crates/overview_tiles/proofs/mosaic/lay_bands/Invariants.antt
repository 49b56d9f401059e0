use Rattle.std.proofs.Common.{◌≡◌, ℕ, ◌<◌, ◌≤◌, get_or}
use Rattle.std.specs.Prelude.{slice_get, Some}
use Rattle.raster_values.specs.Raster.{Pixels}
use Rattle.overview_tiles.specs.Sums.{no_sums}
use Rattle.overview_tiles.specs.inside.Lays.{LaysAll}
use Rattle.overview_tiles.specs.inside.Numbers.{kinds_of, sums_of}
use Rattle.overview_tiles.proofs.mosaic.lay_bands.Given as goal

abbrev pub invariant-loop-b : goal.invariant-loop-b
invariant-loop-b l = record {
  kinds : kinds_of l.layers ≡ kinds_of l.initial.layers;
  done : (b : ℕ) (r : Pixels) → b < l.b → slice_get l.tile b ≡ Some r → LaysAll l.frame r (get_or (sums_of l.initial.layers) b no_sums) (get_or (sums_of l.layers) b no_sums);
  rest : (b : ℕ) → l.b ≤ b → get_or (sums_of l.layers) b no_sums ≡ get_or (sums_of l.initial.layers) b no_sums;
}
