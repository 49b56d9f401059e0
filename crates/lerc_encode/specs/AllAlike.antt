-- A raster whose pixels are all alike.
use Rattle.std.specs.Prelude.{ℕ, ℤ, Option, Some, None}
use Rattle.raster_cells.specs.declared.kind.PixelType.{PixelType}
use Rattle.raster_values.specs.Raster.{Pixels, blank, filled}
use Rattle.lerc_encode.specs.declared.blobs.alike_raster.AlikeRaster.{AlikeRaster}

-- no pixel is valid, or every one, with one value at each depth
abbrev pub alike : PixelType → ℕ → ℕ → ℕ → Option ℤ → Pixels
alike kind rows cols depth None = blank kind rows cols depth
alike kind rows cols depth (Some value) = filled (blank kind rows cols depth) value

-- such a raster
abbrev pub alike_pixels : AlikeRaster → Pixels
alike_pixels r = alike r.kind r.rows r.cols r.depth r.value
