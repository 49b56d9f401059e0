-- What was made of the coarse tiles of the first places, what waits behind them, and what follows.
use Rattle.std.specs.Prelude.{◌≡◌, ◌⊎◌, ℕ, ◌+◌, ◌<◌, ◌≤◌, Bool, true, false, IsTrue, List, [], ◌∷◌, ◌++◌, length, All, Option, Some, None}
use Rattle.std.specs.List.{AllZip}
use Rattle.raster_values.specs.Raster.{Pixels}
use Rattle.lerc_header.specs.declared.header.Version.{Version}
use Rattle.lerc_encode.specs.Encoded.{AreEncodedOnce, BandsNeedV4}
use Rattle.bundle_store.specs.Tiles.{tiles}
use Rattle.tile_stream.specs.declared.tile.Tile.{Tile}
use Rattle.tile_updates.specs.Updates.{AllPass, tile_bytes, updates_of}
use Rattle.overview_tiles.specs.Tiles.{AreHalf, Tiles}
use Rattle.overview_updates.specs.Overview.{AreQuarters, IsCoarse, first_places, has_quarter, place_of}
use Rattle.overview_updates.specs.Refusals.{PlaceStops, ReadFails}
use Rattle.overview_updates.specs.declared.places.Next.{Next}
use Rattle.overview_updates.specs.declared.places.Next.TheVariants.{More, Refused}
use Rattle.overview_updates.specs.declared.places.Waiting.{Waiting}
use Rattle.overview_updates.specs.declared.stop.OverviewStop.{OverviewStop}
use Rattle.overview_updates.specs.declared.stop.OverviewStop.TheVariants.{Volume, OutOfMemory}
use Rattle.overview_updates.specs.declared.updates.SoFar.{SoFar}

-- ---- one place

-- half of the four tiles, where one of them is there
abbrev pub IsHalfOf : List ℕ → ℕ → ℕ → Option (List Pixels) → Type 0
IsHalfOf bundle a b None = has_quarter (tiles bundle) a b ≡ false
IsHalfOf bundle a b (Some half) = (has_quarter (tiles bundle) a b ≡ true)
    × ((four : Tiles) × (AreQuarters bundle a b four × AreHalf four half))

-- these stops are told at once
abbrev pub IsToldAtOnce : OverviewStop → Type 0
IsToldAtOnce stop = (stop ≡ Volume) ⊎ (stop ≡ OutOfMemory)

-- the place with this number has no coarse tile, or it is the last one behind the old ones
abbrev pub TakesPlace : List ℕ → ℕ → ℕ → List Tile → List Tile → Type 0
TakesPlace bundle quarter k old new =
    ((has_quarter (tiles bundle) (place_of k).0 (place_of k).1 ≡ false) × (new ≡ old))
    ⊎ ((has_quarter (tiles bundle) (place_of k).0 (place_of k).1 ≡ true)
    × ((t : Tile) × (IsCoarse bundle quarter (place_of k) t × (new ≡ old ++ t ∷ []))))

-- ---- the tiles of a batch

-- these are the coarse tiles of the places with the numbers from the first one on, below the last
pub record AreBetween (bundle : List ℕ) (quarter from to : ℕ) (batch : List Tile) : Type 0
  where
    pub places : List (ℕ × ℕ)
    pub joined : first_places (tiles bundle) to ≡ first_places (tiles bundle) from ++ places
    pub each : AllZip (IsCoarse bundle quarter) places batch

pub record AreWaiting (told : Bool) (bundle : List ℕ) (quarter : ℕ) (v : Version) (from : ℕ)
    (w : Waiting) : Type 0 where
  pub between : IsTrue told → AreBetween bundle quarter from w.place w.batch
  pub few : from + length w.batch ≤ w.place
  pub within : w.place ≤ 4096
  pub flat : All (λ t. ¬ BandsNeedV4 v t.bands) w.batch

-- What follows tiles that wait: at least one place was read; or the coarse tile of the next one is
-- refused.
abbrev pub EndsSo : Bool → List ℕ → Version → ℕ → Waiting → Next → Type 0
EndsSo told bundle v from w More = from < w.place
EndsSo told bundle v from w (Refused stop) =
    (w.place < 4096) × (ReadFails stop × ((IsToldAtOnce stop → ⊥) × (IsTrue told →
    (has_quarter (tiles bundle) (place_of w.place).0 (place_of w.place).1 ≡ true)
    × PlaceStops bundle v (place_of w.place) stop)))

-- tiles wait, and this follows them
pub record IsFilled (told : Bool) (bundle : List ℕ) (quarter : ℕ) (v : Version) (from : ℕ)
    (w : Waiting) (next : Next) : Type 0 where
  pub waiting : AreWaiting told bundle quarter v from w
  pub ends : EndsSo told bundle v from w next

-- ---- the whole bundle

-- The coarse tiles of the first places pass, and these are their updates. Of a volume that does not
-- tell its files they are some tiles.
pub record IsSoFar (told : Bool) (bundle : List ℕ) (quarter : ℕ) (v : Version) (step : ℕ)
    (done : SoFar) : Type 0 where
  pub halves : List Tile
  pub coarse : IsTrue told →
      AllZip (IsCoarse bundle quarter) (first_places (tiles bundle) done.place) halves
  pub pass : AllPass v step halves
  pub encoded : All (λ t. AreEncodedOnce (tile_bytes v step t) t.bands step) halves
  pub list_is : done.list ≡ updates_of v step halves
