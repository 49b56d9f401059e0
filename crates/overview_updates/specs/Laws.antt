-- Laws of the updates of an overview and of its first refusal.
use Rattle.std.specs.Prelude.{◌≡◌, ℕ, List}
use Rattle.lerc_header.specs.declared.header.Version.{Version}
use Rattle.bundle_store.specs.declared.tile_rec.TileRec.{TileRec}
use Rattle.overview_updates.specs.Stops.{IsOverviewStop}
use Rattle.overview_updates.specs.Updates.{IsOverviewUpdates}
use Rattle.overview_updates.specs.declared.stop.OverviewStop.{OverviewStop}

-- a bundle has one list of updates at most
abbrev pub OverviewsAreOnce : Type 0
OverviewsAreOnce = (bundle : List ℕ) (quarter : ℕ) (v : Version) (step : ℕ)
    (updates others : List TileRec) → IsOverviewUpdates bundle quarter v step updates →
    IsOverviewUpdates bundle quarter v step others → updates ≡ others

-- a bundle that has updates has no refusal
abbrev pub OverviewOrStop : Type 0
OverviewOrStop = (bundle : List ℕ) (quarter : ℕ) (v : Version) (step : ℕ)
    (updates : List TileRec) (stop : OverviewStop) →
    IsOverviewUpdates bundle quarter v step updates →
    IsOverviewStop bundle quarter v step stop → ⊥

-- there is one first refusal at most
abbrev pub StopsAreOnce : Type 0
StopsAreOnce = (bundle : List ℕ) (quarter : ℕ) (v : Version) (step : ℕ)
    (stop other : OverviewStop) → IsOverviewStop bundle quarter v step stop →
    IsOverviewStop bundle quarter v step other → stop ≡ other
