-- The updates of an overview: for each coarse tile, in order, its slot and the blobs that are
-- chosen for its bands.
use Rattle.std.specs.Prelude.{◌≡◌, ℕ, List, All}
use Rattle.lerc_header.specs.declared.header.Version.{Version}
use Rattle.lerc_encode.specs.Encoded.{AreEncodedOnce}
use Rattle.bundle_store.specs.declared.tile_rec.TileRec.{TileRec}
use Rattle.tile_stream.specs.declared.tile.Tile.{Tile}
use Rattle.tile_updates.specs.Updates.{AllPass, tile_bytes, updates_of}
use Rattle.overview_updates.specs.Overview.{IsOverview}

-- The overview's tiles pass: the version has a place for the depths of each, and their blobs are
-- not too many bytes, each and together. These are the updates of them.
pub record IsOverviewUpdates (bundle : List ℕ) (quarter : ℕ) (v : Version) (step : ℕ)
    (updates : List TileRec) : Type 0 where
  pub coarse : List Tile
  pub overview : IsOverview bundle quarter coarse
  pub pass : AllPass v step coarse
  pub updates_are : updates ≡ updates_of v step coarse

-- The bytes of each update are the blobs of exactly one list of bands, which are near those of the
-- overview's tile.
pub record IsEncodedOverview (bundle : List ℕ) (quarter : ℕ) (v : Version) (step : ℕ)
    (updates : List TileRec) : Type 0 where
  pub coarse : List Tile
  pub overview : IsOverview bundle quarter coarse
  pub updates_are : updates ≡ updates_of v step coarse
  pub encoded : All (λ t. AreEncodedOnce (tile_bytes v step t) t.bands step) coarse
