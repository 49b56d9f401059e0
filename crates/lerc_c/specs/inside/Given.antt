-- The raster and the bands that arrays are.
use Rattle.std.specs.Prelude.{List}
use Rattle.raster_values.specs.Raster.{Pixels}
use Rattle.lerc_c.specs.declared.arrays.RasterArrays.{RasterArrays}
use Rattle.lerc_c.specs.declared.arrays.BandArrays.{BandArrays}
use Rattle.lerc_c.specs.Arrays.{IsGiven}
use Rattle.lerc_c.specs.BandArrays.{AreGiven}

abbrev pub IsGivenBy : RasterArrays → Pixels → Type 0
IsGivenBy a r = IsGiven a.kind a.rows a.cols a.depth a.values.now a.mask.now r

abbrev pub AreGivenBy : BandArrays → List Pixels → Type 0
AreGivenBy a bands = AreGiven a.kind a.rows a.cols a.depth a.count a.values.now a.masks.now bands
