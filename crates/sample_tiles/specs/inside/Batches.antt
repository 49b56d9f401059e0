-- Some tiles of a sample that are encoded at once.
use Rattle.std.specs.Prelude.{◌≡◌, ℕ, ◌+◌, ◌*◌, ◌<◌, ◌≤◌, List, [], ◌∷◌, length, get_or}
use Rattle.raster_cells.specs.declared.kind.PixelType.TheVariants.{I16}
use Rattle.raster_values.specs.Raster.{Pixels, IsRaster}
use Rattle.lerc_header.specs.Written.{step_of}
use Rattle.lerc_encode.specs.Encoded.{AreEncodedOnce}
use Rattle.sample_tiles.specs.Drawn.{sample_tile}
use Rattle.sample_tiles.specs.Sums.{sample_blob}
use Rattle.sample_tiles.specs.declared.adding.Sums.{Sums}

-- so many tiles, from number `first` on
pub record AreTiles (start first count : ℕ) (tiles : List (List Pixels)) : Type 0 where
  pub many : length tiles ≡ count
  pub each : (i : ℕ) → i < count → get_or tiles i [] ≡ sample_tile start (first + i) ∷ []

-- a blob is one of exactly these bands but for their error, and no longer than a blob may be
pub record IsFitting (bands : List Pixels) (blob : List ℕ) : Type 0 where
  pub once : AreEncodedOnce blob bands (step_of 1)
  pub small : length blob ≤ 134217728

-- one blob for each of the tiles
pub record AreTheirs (tiles : List (List Pixels)) (blobs : List (List ℕ)) : Type 0 where
  pub many : length blobs ≡ length tiles
  pub fitting : (i : ℕ) → i < length tiles → IsFitting (get_or tiles i []) (get_or blobs i [])
  pub named : (start first : ℕ) → AreTiles start first (length tiles) tiles
      → (i : ℕ) → i < length tiles → get_or blobs i [] ≡ sample_blob start (first + i)

-- a raster of the shape of a sample's tiles
pub record IsTileLike (r : Pixels) : Type 0 where
  pub raster : IsRaster r
  pub kind : r.kind ≡ I16
  pub rows : r.rows ≡ 64
  pub cols : r.cols ≡ 64
  pub depth : r.depth ≡ 1

-- the sums leave room for as many tiles as a sample may have
abbrev pub AreRoomy : Sums → Type 0
AreRoomy s = s.bytes ≤ 134217728 * s.tiles
