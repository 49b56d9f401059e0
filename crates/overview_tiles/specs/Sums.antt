-- What a mosaic keeps of the tiles that were laid into it: of each pixel of the half, how many of
-- its four are valid, and the sum of their values at each depth.
use Rattle.std.specs.Prelude.{◌≡◌, ℕ, ℤ, pos, ◌+◌, ◌*◌, ◌<◌, Bool, true, List, [], length, get_or, replicate, IfSome, is_some, All}
use Rattle.raster_cells.specs.declared.kind.PixelType.{PixelType}
use Rattle.raster_values.specs.Raster.{Pixels}
use Rattle.raster_values.specs.Bands.{AreBands}
use Rattle.overview_tiles.specs.Half.{Quarters, valid_four, sum_at}
use Rattle.overview_tiles.specs.Tiles.{Tiles, band_of}

-- the numbers of one band: of the pixels row by row, of the sums with the depths innermost
pub record Sums : Type 0 where
  pub counts : List ℕ
  pub sums : List ℤ

abbrev pub no_sums : Sums
no_sums = record { counts = []; sums = [] }

-- the numbers of so many pixels of so many depths, of which none is valid
abbrev pub zero_sums : ℕ → ℕ → Sums
zero_sums places depth =
    record { counts = replicate places 0; sums = replicate (places * depth) (pos 0) }

-- A mosaic: the type and the shape that each quarter has, which quarters were laid, and the numbers
-- of each band.
pub record Kept : Type 0 where
  pub kind : PixelType
  pub rows : ℕ
  pub cols : ℕ
  pub depth : ℕ
  pub laid : List Bool
  pub bands : List Sums

-- a raster of the mosaic's type and shape
pub record HasShape (m : Kept) (r : Pixels) : Type 0 where
  pub kind : r.kind ≡ m.kind
  pub rows : r.rows ≡ m.rows
  pub cols : r.cols ≡ m.cols
  pub depth : r.depth ≡ m.depth

-- a tile that the mosaic takes: as many bands as it has, each of its type and shape
pub record IsTileOf (m : Kept) (tile : List Pixels) : Type 0 where
  pub count : length tile ≡ length m.bands
  pub each : All (HasShape m) tile

-- two mosaics take the same tiles
pub record IsLikeMosaic (old new : Kept) : Type 0 where
  pub kind : new.kind ≡ old.kind
  pub rows : new.rows ≡ old.rows
  pub cols : new.cols ≡ old.cols
  pub depth : new.depth ≡ old.depth
  pub count : length new.bands ≡ length old.bands

-- the numbers of one band are those of its quarters
pub record AreBandSums (rows cols depth : ℕ) (quarters : Quarters) (s : Sums) : Type 0 where
  pub counts : (row col : ℕ) → row < rows → col < cols
      → get_or s.counts (row * cols + col) 0 ≡ length (valid_four rows cols quarters row col)
  pub sums : (row col d : ℕ) → row < rows → col < cols → d < depth
      → get_or s.sums ((row * cols + col) * depth + d) (pos 0)
      ≡ sum_at d (valid_four rows cols quarters row col)

-- The mosaic has the numbers of these tiles, and they are those that were laid.
pub record AreSums (m : Kept) (tiles : Tiles) : Type 0 where
  pub alike : (q : ℕ) → IfSome (tiles q) (λ tile. AreBands tile × IsTileOf m tile)
  pub laid : (q : ℕ) → q < 4 → get_or m.laid q true ≡ is_some (tiles q)
  pub each : (b : ℕ) → b < length m.bands
      → AreBandSums m.rows m.cols m.depth (band_of b tiles) (get_or m.bands b no_sums)
