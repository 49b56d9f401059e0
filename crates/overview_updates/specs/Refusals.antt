-- Why the coarse tile of a place is refused.
use Rattle.std.specs.Prelude.{◌≡◌, ◌⊎◌, ℕ, ◌<◌, List, Some, None, length, All, true, is_some}
use Rattle.raster_values.specs.Raster.{Pixels}
use Rattle.raster_values.specs.Places.{SameShape}
use Rattle.lerc_header.specs.declared.header.Version.{Version}
use Rattle.lerc_encode.specs.Encoded.{BandsNeedV4}
use Rattle.lerc_grammar.specs.declared.bands.BandReason.{BandReason}
use Rattle.lerc_grammar.specs.Bands.{BandsFaultAt}
use Rattle.bundle_store.specs.Session.{IsBeyond}
use Rattle.bundle_store.specs.Tiles.{TileMap, tiles}
use Rattle.overview_tiles.specs.Tiles.{AreHalf, Tiles}
use Rattle.overview_updates.specs.Overview.{AreQuarters, AreRead, IsQuarter, LiesWhole, quarter_slot}
use Rattle.overview_updates.specs.declared.stop.OverviewStop.{OverviewStop}
use Rattle.overview_updates.specs.declared.stop.OverviewStop.TheVariants.{Beyond, BadTile, Unlike, DepthNeedsV4, TileTooLarge, KeptTooMuch, Volume, OutOfMemory}

-- ---- one of the four

-- The tile that the bundle has in the slot is wrong first in this.
pub record IsBadTile (bundle : List ℕ) (slot place : ℕ) (reason : BandReason) : Type 0 where
  pub tile : List ℕ
  pub there : tiles bundle slot ≡ Some tile
  pub whole : LiesWhole bundle slot
  pub fault : BandsFaultAt tile place reason

-- why the slot's tile was not read
abbrev pub QuarterStops : List ℕ → ℕ → OverviewStop → Type 0
QuarterStops bundle slot (Beyond at entry got) =
    (at ≡ slot) × (IsBeyond bundle slot entry got × (got < entry.size))
QuarterStops bundle slot (BadTile at fault) =
    (at ≡ slot) × IsBadTile bundle slot fault.place fault.reason
QuarterStops bundle slot (Unlike at) = ⊥
QuarterStops bundle slot (DepthNeedsV4 at) = ⊥
QuarterStops bundle slot (TileTooLarge at len) = ⊥
QuarterStops bundle slot (KeptTooMuch at) = ⊥
QuarterStops bundle slot Volume = Unit {0}
QuarterStops bundle slot OutOfMemory = Unit {0}

-- two tiles have one number of bands, one type and one shape
abbrev pub AreOne : List Pixels → List Pixels → Type 0
AreOne first other = (length other ≡ length first) × All (λ r. All (SameShape r) other) first

-- any two of the tiles are so
abbrev pub AreAllOne : Tiles → Type 0
AreAllOne tiles = (p q : ℕ) (first other : List Pixels) → tiles p ≡ Some first
    → tiles q ≡ Some other → AreOne first other

-- The slot's tile is read, and it has another number of bands, another type or another shape than
-- one of those before it.
pub record IsUnlike (bundle : List ℕ) (slot : ℕ) (before : Tiles) : Type 0 where
  pub tile : List Pixels
  pub read : IsQuarter (tiles bundle slot) (Some tile)
  pub whole : LiesWhole bundle slot
  pub quarter : ℕ
  pub other : List Pixels
  pub there : before quarter ≡ Some other
  pub differs : ¬ AreOne other tile

-- The first ones of the four tiles are read and alike, and the next one is refused so: it is not
-- read, or it is unlike them.
pub record FourStops (bundle : List ℕ) (a b : ℕ) (stop : OverviewStop) : Type 0 where
  pub quarter : ℕ
  pub few : quarter < 4
  pub before : Tiles
  pub read : AreRead bundle a b quarter before
  pub alike : AreAllOne before
  pub refused : QuarterStops bundle (quarter_slot a b quarter) stop
      ⊎ (IsUnlike bundle (quarter_slot a b quarter) before
      × (stop ≡ Unlike (quarter_slot a b quarter)))

-- ---- the four

-- the first of the four that is there
pub record IsFirstQuarter (tiles_in : TileMap) (a b quarter : ℕ) : Type 0 where
  pub few : quarter < 4
  pub there : is_some (tiles_in (quarter_slot a b quarter)) ≡ true
  pub before : (q : ℕ) → q < quarter → tiles_in (quarter_slot a b q) ≡ None

-- All four are read and alike, and the version has no place for the depths of their half. The slot
-- is that of the first of them.
pub record IsTooDeep (bundle : List ℕ) (v : Version) (a b slot : ℕ) : Type 0 where
  pub four : Tiles
  pub quarters : AreQuarters bundle a b four
  pub half : List Pixels
  pub half_is : AreHalf four half
  pub deep : BandsNeedV4 v half
  pub quarter : ℕ
  pub first : IsFirstQuarter (tiles bundle) a b quarter
  pub slot_is : slot ≡ quarter_slot a b quarter

-- why the coarse tile of a place is refused as it is read
abbrev pub PlaceStops : List ℕ → Version → ℕ × ℕ → OverviewStop → Type 0
PlaceStops bundle v place (Beyond slot entry got) =
    FourStops bundle place.0 place.1 (Beyond slot entry got)
PlaceStops bundle v place (BadTile slot fault) =
    FourStops bundle place.0 place.1 (BadTile slot fault)
PlaceStops bundle v place (Unlike slot) = FourStops bundle place.0 place.1 (Unlike slot)
PlaceStops bundle v place (DepthNeedsV4 slot) =
    IsTooDeep bundle v place.0 place.1 slot
PlaceStops bundle v place (TileTooLarge at len) = ⊥
PlaceStops bundle v place (KeptTooMuch at) = ⊥
PlaceStops bundle v place Volume = Unit {0}
PlaceStops bundle v place OutOfMemory = Unit {0}

-- The same of whatever volume: the kept numbers fail the test that they name.
abbrev pub ReadFails : OverviewStop → Type 0
ReadFails (Beyond slot entry got) = got < entry.size
ReadFails (BadTile slot fault) = Unit {0}
ReadFails (Unlike slot) = Unit {0}
ReadFails (DepthNeedsV4 slot) = Unit {0}
ReadFails (TileTooLarge at len) = ⊥
ReadFails (KeptTooMuch at) = ⊥
ReadFails Volume = Unit {0}
ReadFails OutOfMemory = Unit {0}
