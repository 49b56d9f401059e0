-- The tiles for whose depths a version has no place.
use Rattle.std.specs.Prelude.{◌≡◌, ℕ, ◌<◌, List, All, Some, slice_get}
use Rattle.raster_values.specs.Raster.{Pixels}
use Rattle.lerc_header.specs.declared.header.Version.{Version}
use Rattle.lerc_encode.specs.Encoded.{BandsNeedV4}
use Rattle.lerc_encode.specs.declared.blobs.blob.EncodeFault.{EncodeFault}
use Rattle.tile_workers.specs.declared.workers.NoBlobs.{NoBlobs}

-- a fault of a tile
abbrev pub told : ℕ → EncodeFault → NoBlobs
told at cause = record { at = at; cause = cause }

-- the version has a place for the depths of each tile
abbrev pub AreFlat : Version → List (List Pixels) → Type 0
AreFlat version tiles = All (λ t. ¬ BandsNeedV4 version t) tiles

-- this tile is the first for whose depths the version has no place
pub record IsFirstDeep (version : Version) (tiles : List (List Pixels)) (at : ℕ) : Type 0 where
  pub tile : List Pixels
  pub there : slice_get tiles at ≡ Some tile
  pub deep : BandsNeedV4 version tile
  pub before : (k : ℕ) (t : List Pixels) → k < at → slice_get tiles k ≡ Some t →
      ¬ BandsNeedV4 version t
