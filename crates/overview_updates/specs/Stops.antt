-- The first refusal of a bundle's overview. The coarse tiles come in the order of their places, and
-- the first one with a refusal decides.
use Rattle.std.specs.Prelude.{◌≡◌, ℕ, ◌<◌, List, ◌∷◌, ◌++◌, length}
use Rattle.std.specs.List.{AllZip}
use Rattle.lerc_header.specs.declared.header.Version.{Version}
use Rattle.bundle_store.specs.Tiles.{tiles}
use Rattle.tile_stream.specs.declared.tile.Tile.{Tile}
use Rattle.tile_updates.specs.Stops.{IsTooLong, IsTooMuch}
use Rattle.tile_updates.specs.Updates.{AllPass}
use Rattle.overview_updates.specs.Overview.{IsCoarse, coarse_places}
use Rattle.overview_updates.specs.Refusals.{PlaceStops, ReadFails}
use Rattle.overview_updates.specs.declared.stop.OverviewStop.{OverviewStop}
use Rattle.overview_updates.specs.declared.stop.OverviewStop.TheVariants.{Beyond, BadTile, Unlike, DepthNeedsV4, TileTooLarge, KeptTooMuch, Volume, OutOfMemory}

-- the coarse tile of the place is made, and it is such
pub record HasCoarse (bundle : List ℕ) (quarter : ℕ) (place : ℕ × ℕ)
    (Such : Tile → Type 0) : Type 0 where
  pub tile : Tile
  pub coarse : IsCoarse bundle quarter place tile
  pub such : Such tile

-- Behind these coarse tiles, that of the next place is refused so: as its four tiles are read, or
-- for the depths of their half; or for the bytes of its blobs, or of all blobs up to its own.
abbrev pub IsRefused : List ℕ → ℕ → Version → ℕ → List Tile → ℕ × ℕ → OverviewStop → Type 0
IsRefused bundle quarter v step before place (Beyond slot entry got) =
    PlaceStops bundle v place (Beyond slot entry got)
IsRefused bundle quarter v step before place (BadTile slot fault) =
    PlaceStops bundle v place (BadTile slot fault)
IsRefused bundle quarter v step before place (Unlike slot) =
    PlaceStops bundle v place (Unlike slot)
IsRefused bundle quarter v step before place (DepthNeedsV4 slot) =
    PlaceStops bundle v place (DepthNeedsV4 slot)
IsRefused bundle quarter v step before place (TileTooLarge at len) =
    HasCoarse bundle quarter place (IsTooLong v step len) × (at ≡ length before)
IsRefused bundle quarter v step before place (KeptTooMuch at) =
    HasCoarse bundle quarter place (IsTooMuch v step before) × (at ≡ length before)
IsRefused bundle quarter v step before place Volume = ⊥
IsRefused bundle quarter v step before place OutOfMemory = ⊥

-- The coarse tiles of the first places pass, and that of the next one is refused so.
pub record IsOverviewStop (bundle : List ℕ) (quarter : ℕ) (v : Version) (step : ℕ)
    (stop : OverviewStop) : Type 0 where
  pub places : List (ℕ × ℕ)
  pub place : ℕ × ℕ
  pub later : List (ℕ × ℕ)
  pub split : coarse_places (tiles bundle) ≡ places ++ place ∷ later
  pub before : List Tile
  pub made : AllZip (IsCoarse bundle quarter) places before
  pub pass : AllPass v step before
  pub refused : IsRefused bundle quarter v step before place stop

-- What a stop tells of the bundle: its first refusal, where neither the volume nor memory is one.
abbrev pub TellsStop : List ℕ → ℕ → Version → ℕ → OverviewStop → Type 0
TellsStop bundle quarter v step Volume = Unit {0}
TellsStop bundle quarter v step OutOfMemory = Unit {0}
TellsStop bundle quarter v step (Beyond slot entry got) =
    IsOverviewStop bundle quarter v step (Beyond slot entry got)
TellsStop bundle quarter v step (BadTile slot fault) =
    IsOverviewStop bundle quarter v step (BadTile slot fault)
TellsStop bundle quarter v step (Unlike slot) =
    IsOverviewStop bundle quarter v step (Unlike slot)
TellsStop bundle quarter v step (DepthNeedsV4 slot) =
    IsOverviewStop bundle quarter v step (DepthNeedsV4 slot)
TellsStop bundle quarter v step (TileTooLarge at len) =
    IsOverviewStop bundle quarter v step (TileTooLarge at len)
TellsStop bundle quarter v step (KeptTooMuch at) =
    IsOverviewStop bundle quarter v step (KeptTooMuch at)

-- Of whatever volume the kept numbers fail the test that they name.
abbrev pub OverviewFails : OverviewStop → Type 0
OverviewFails (TileTooLarge at len) = (at < 4096) × (16777215 < len)
OverviewFails (KeptTooMuch at) = at < 4096
OverviewFails (Beyond slot entry got) = ReadFails (Beyond slot entry got)
OverviewFails (BadTile slot fault) = Unit {0}
OverviewFails (Unlike slot) = Unit {0}
OverviewFails (DepthNeedsV4 slot) = Unit {0}
OverviewFails Volume = Unit {0}
OverviewFails OutOfMemory = Unit {0}
