-- What is known of the blobs of a tile.
use Rattle.std.specs.Prelude.{ℕ, ◌≤◌, List, length, None}
use Rattle.raster_values.specs.Raster.{Pixels}
use Rattle.lerc_header.specs.declared.header.Version.{Version}
use Rattle.lerc_encode.specs.Choice.{chosen_bands}
use Rattle.lerc_encode.specs.Encoded.{AreEncodedOnce, DeclareEach}

-- the chosen blobs of the bands are few bytes, those of exactly one list of bands, which are near
-- these, and declare version and step
pub record IsEncodedSo (version : Version) (step : ℕ) (bands : List Pixels) : Type 0 where
  pub few : length (chosen_bands None bands version step) ≤ 134217728
  pub once : AreEncodedOnce (chosen_bands None bands version step) bands step
  pub declares : DeclareEach (chosen_bands None bands version step) bands version step
