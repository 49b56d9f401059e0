-- What reading the overview of the first bundle comes to.
use Rattle.std.specs.Prelude.{◌≡◌, ◌⊎◌, List, Option, Result, Ok, Err, Vec}
use Rattle.std.specs.declared.alloc.Global.{Global}
use Rattle.lerc_header.specs.Written.{step_of}
use Rattle.bundle_store.specs.declared.tile_rec.TileRec.{TileRec}
use Rattle.opened_bundle.specs.Files.{Files, OfBundle}
use Rattle.opened_bundle.specs.Refusals.{IsOpening}
use Rattle.opened_bundle.specs.declared.refusal.StoreRefusal.{StoreRefusal}
use Rattle.overview_updates.specs.Stops.{IsOverviewStop, OverviewFails}
use Rattle.overview_updates.specs.Updates.{IsEncodedOverview, IsOverviewUpdates}
use Rattle.overview_updates.specs.declared.stop.OverviewStop.{OverviewStop}
use Rattle.program_ends.specs.declared.stop.Stop.{Stop}
use Rattle.program_ends.specs.declared.stop.Stop.TheVariants.{Volume, OutOfMemory, Refused}
use Rattle.overview_cli.specs.Names.{overview_stop_of}
use Rattle.overview_cli.specs.declared.refusal.Refusal.{Refusal}
use Rattle.overview_cli.specs.declared.refusal.Refusal.TheVariants.{Store}
use Rattle.overview_cli.specs.declared.words.Command.{Command}

-- the updates, or the stop
abbrev pub Taken : Type 0
Taken = Result (Vec TileRec Global) (Stop Refusal)

-- The bundle that a recovery leaves has this overview, and these are the updates of it.
abbrev pub UpdatesOf : Command → Option Files → List TileRec → Type 0
UpdatesOf c files updates = OfBundle files
    (λ bundle. IsOverviewUpdates bundle c.quarter c.version (step_of c.error) updates)

-- the bytes of each are near the overview's tile
abbrev pub NearOf : Command → Option Files → List TileRec → Type 0
NearOf c files updates = OfBundle files
    (λ bundle. IsEncodedOverview bundle c.quarter c.version (step_of c.error) updates)

-- The first refusal of the first bundle: of its recovery, of its opening, or behind these of its
-- overview. Whatever the volume tells, the kept numbers fail the test that they name.
abbrev pub IsFromRefusal : Command → Option Files → Stop Refusal → Type 0
IsFromRefusal c files stop =
    ((refusal : StoreRefusal) × ((stop ≡ Refused (Store refusal)) × IsOpening files refusal))
    ⊎ ((why : OverviewStop) × ((stop ≡ overview_stop_of why) × (OverviewFails why
    × OfBundle files (λ bundle. IsOverviewStop bundle c.quarter c.version (step_of c.error) why))))

-- the updates; or the volume failed, memory was refused, or this is the first refusal
abbrev pub TakesOverview : Command → Option Files → Taken → Type 0
TakesOverview c files (Ok updates) = UpdatesOf c files updates.items × NearOf c files updates.items
TakesOverview c files (Err Volume) = Unit {0}
TakesOverview c files (Err OutOfMemory) = Unit {0}
TakesOverview c files (Err (Refused refusal)) = IsFromRefusal c files (Refused refusal)
TakesOverview c files (Err _) = ⊥
