-- Four neighbouring tiles, each of several bands, as one tile.
use Rattle.std.specs.Prelude.{◌≡◌, ℕ, List, length, Option, Some, None, IfSome, nat_eq, slice_get, if◌then◌else◌}
use Rattle.raster_values.specs.Raster.{Pixels}
use Rattle.raster_values.specs.Bands.{AreBands}
use Rattle.overview_tiles.specs.Half.{Quarters, IsHalf}

-- the bands of the four quarters' tiles, or None where one is missing
abbrev pub Tiles : Type 0
Tiles = ℕ → Option (List Pixels)

-- none is there
abbrev pub no_tiles : Tiles
no_tiles q = None

-- one tile more
abbrev pub with_tile : ℕ → List Pixels → Tiles → Tiles
with_tile quarter tile tiles q = if nat_eq q quarter then Some tile else tiles q

abbrev pub band_in : ℕ → Option (List Pixels) → Option Pixels
band_in b None = None
band_in b (Some bands) = slice_get bands b

-- the rasters of band b
abbrev pub band_of : ℕ → Tiles → Quarters
band_of b tiles q = band_in b (tiles q)

-- Each band is half of the four bands of its number.
pub record AreHalf (tiles : Tiles) (half : List Pixels) : Type 0 where
  pub bands : AreBands half
  pub alike : (q : ℕ) → IfSome (tiles q) (λ tile. length tile ≡ length half)
  pub each : (b : ℕ) (r : Pixels) → slice_get half b ≡ Some r → IsHalf (band_of b tiles) r
