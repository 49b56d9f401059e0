-- The bytes of a grid file: of a raster, and of bands.
use Rattle.std.specs.Prelude.{[], ℕ, List, ◌∷◌, ◌++◌, map, codes, length, ◌≡◌}
use Rattle.std.specs.List.{flat_map}
use Rattle.byteorder.specs.Endian.{little_bytes}
use Rattle.raster_cells.specs.declared.kind.PixelType.{PixelType}
use Rattle.raster_cells.specs.PixelType.{code_of}
use Rattle.raster_values.specs.Raster.{Pixels, mark_of, values_of, IsRaster}
use Rattle.raster_cells.specs.Values.{values_bytes}

-- Four letters, the code of the pixel type, and rows, columns and depth as little-endian numbers of
-- four bytes each. The letters of a raster's grid are `LGR1`.
abbrev pub head_of : List ℕ → PixelType → ℕ → ℕ → ℕ → List ℕ
head_of magic kind rows cols depth =
    magic
    ++ (code_of kind ∷ (little_bytes 4 rows ++ (little_bytes 4 cols ++ little_bytes 4 depth)))

-- one byte for each pixel, row by row
abbrev pub grid_marks : Pixels → List ℕ
grid_marks r = map mark_of r.pixels

-- the marks, and the values of the valid pixels in order, depth innermost
abbrev pub band_of : Pixels → List ℕ
band_of r = grid_marks r ++ values_bytes r.kind (values_of r.pixels)

-- the head, and these
unfoldable pub grid_of : Pixels → List ℕ
grid_of r = head_of (codes "LGR1") r.kind r.rows r.cols r.depth ++ band_of r

-- Of one raster its grid. Of more, the head that they share with the letters `LGR2`, how many they
-- are as a little-endian number of four bytes, and the marks and values of each.
unfoldable pub bands_grid_of : List Pixels → List ℕ
bands_grid_of [] = []
bands_grid_of (r ∷ []) = grid_of r
bands_grid_of (r ∷ s ∷ more) =
    head_of (codes "LGR2") r.kind r.rows r.cols r.depth
    ++ (little_bytes 4 (length (r ∷ s ∷ more)) ++ flat_map band_of (r ∷ s ∷ more))

-- two rasters with the same grid are equal
abbrev pub GridDetermines : Type 0
GridDetermines = (r s : Pixels) → IsRaster r → IsRaster s → grid_of r ≡ grid_of s → r ≡ s
