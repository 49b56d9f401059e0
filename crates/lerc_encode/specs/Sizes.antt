-- How long a blob may be.
use Rattle.std.specs.Prelude.{ℕ, ◌+◌, ◌*◌, ◌/◌, ◌≤◌, All, List, length, sum_by, Option}
use Rattle.raster_cells.specs.declared.kind.PixelType.{PixelType}
use Rattle.raster_cells.specs.PixelType.{bytes_of}
use Rattle.raster_values.specs.Raster.{Pixels, IsRaster}
use Rattle.raster_values.specs.Bands.{AreBands}
use Rattle.lerc_header.specs.declared.header.Version.{Version}
use Rattle.lerc_grammar.specs.Mask.{Previous}
use Rattle.lerc_encode.specs.Choice.{chosen_bands, chosen_blob}

-- The header and the length of the mask; the mask in runs of the worst kind, which take three bytes
-- for each of its own, and two behind them; a least and a greatest value for each depth; and the
-- values as they are behind one byte.
abbrev pub greatest_size : PixelType → ℕ → ℕ → ℕ → ℕ
greatest_size kind rows cols depth = 70 + (3 * ((rows * cols + 7) / 8) + 2)
    + 2 * (depth * bytes_of kind) + (1 + rows * cols * depth * bytes_of kind)

abbrev pub BlobsAreSmall : Type 0
BlobsAreSmall = (r : Pixels) (version : Version) (step : ℕ) → IsRaster r
    → length (chosen_blob r version step) ≤ greatest_size r.kind r.rows r.cols r.depth

-- so of bands, all together
abbrev pub BandsAreSmall : Type 0
BandsAreSmall = (before : Option Previous) (bands : List Pixels) (version : Version) (step : ℕ) →
    All IsRaster bands → length (chosen_bands before bands version step)
    ≤ sum_by (λ r. greatest_size r.kind r.rows r.cols r.depth) bands

-- and those of a tile have at most 2 ^ 27 bytes
abbrev pub TilesAreSmall : Type 0
TilesAreSmall = (before : Option Previous) (bands : List Pixels) (version : Version) (step : ℕ) →
    AreBands bands → length (chosen_bands before bands version step) ≤ 134217728
