-- Laws of the updates of an input and of its first refusal.
use Rattle.std.specs.Prelude.{◌≡◌, ◌⊎◌, ℕ, List}
use Rattle.first_fault.specs.Parts.{AreBytes}
use Rattle.lerc_header.specs.declared.header.Version.{Version}
use Rattle.bundle_store.specs.declared.tile_rec.TileRec.{TileRec}
use Rattle.tile_updates.specs.declared.stop.StreamStop.{StreamStop}
use Rattle.tile_updates.specs.Updates.{IsUpdates}
use Rattle.tile_updates.specs.Stops.{IsStreamStop}

-- an input has one list of updates at most
abbrev pub UpdatesAreOnce : Type 0
UpdatesAreOnce = (v : Version) (step : ℕ) (bytes : List ℕ) (updates others : List TileRec) →
    IsUpdates v step bytes updates → IsUpdates v step bytes others → updates ≡ others

-- an input that has updates has no refusal
abbrev pub UpdatesOrStop : Type 0
UpdatesOrStop = (v : Version) (step : ℕ) (bytes : List ℕ) (updates : List TileRec)
    (stop : StreamStop) → IsUpdates v step bytes updates → IsStreamStop v step bytes stop → ⊥

-- there is one first refusal at most
abbrev pub StopsAreOnce : Type 0
StopsAreOnce = (v : Version) (step : ℕ) (bytes : List ℕ) (stop other : StreamStop) →
    IsStreamStop v step bytes stop → IsStreamStop v step bytes other → stop ≡ other

-- every input has updates or a first refusal
abbrev pub StreamsAreDecided : Type 0
StreamsAreDecided = (v : Version) (step : ℕ) (bytes : List ℕ) → AreBytes bytes →
    ((updates : List TileRec) × IsUpdates v step bytes updates)
    ⊎ ((stop : StreamStop) × IsStreamStop v step bytes stop)
