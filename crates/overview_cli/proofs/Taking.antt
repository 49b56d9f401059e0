-- What reading the first bundle comes to, as the program's stop.
use Rattle.std.proofs.Common.{◌≡◌, inl, inr, ℕ, List, Bool, Option, Result, Ok, Err, refl}
use Rattle.std.specs.Prelude.{IsTrue, Vec}
use Rattle.std.specs.declared.alloc.Global.{Global}
use Rattle.outside_io.specs.declared.volume.VolFile.TheVariants.{Bundle, Journal}
use Rattle.outside_io.specs.streams.Faults.{IsCause}
use Rattle.outside_io.specs.volume.Disk.{Disk}
use Rattle.outside_io.specs.volume.History.{History, contents}
use Rattle.lerc_header.specs.Written.{step_of}
use Rattle.bundle_store.specs.declared.tile_rec.TileRec.{TileRec}
use Rattle.bundle_store.specs.Session.{SessionState}
use Rattle.opened_bundle.specs.Files.{Files, files_of}
use Rattle.opened_bundle.specs.Left.{IsShut}
use Rattle.opened_bundle.specs.Opening.{IsOpened, OpeningStops}
use Rattle.opened_bundle.specs.declared.refusal.StoreRefusal.{StoreRefusal}
use Rattle.opened_bundle.proofs.BundleOpening.{of_bundle}
use Rattle.overview_updates.specs.Stops.{IsOverviewStop, OverviewFails, TellsStop}
use Rattle.overview_updates.specs.Updates.{IsEncodedOverview, IsOverviewUpdates}
use Rattle.overview_updates.specs.declared.stop.OverviewStop.{OverviewStop}
use Rattle.overview_updates.specs.declared.stop.OverviewStop.TheVariants as found
use Rattle.program_ends.specs.declared.stop.Stop.{Stop}
use Rattle.program_ends.specs.declared.stop.Stop.TheVariants.{Usage, Source, Output, Volume, OutOfMemory, Refused}
use Rattle.overview_cli.specs.Names.{overview_stop_of, with_store}
use Rattle.overview_cli.specs.Putting.{Rests}
use Rattle.overview_cli.specs.Taking.{IsFromRefusal, Taken, TakesOverview}
use Rattle.overview_cli.specs.declared.words.Command.{Command}

-- the first bundle is not opened
pub unopened : (c : Command) (files : Option Files) (stop : Stop StoreRefusal) → OpeningStops files stop → TakesOverview c files (Err (with_store stop))
unopened c files Usage stops = absurd stops
unopened c files Source stops = absurd stops
unopened c files Output stops = absurd stops
unopened c files Volume stops = tt
unopened c files OutOfMemory stops = tt
unopened c files (Refused refusal) stops = inl (refusal, (refl, stops))

-- what a stop of its overview tells, over the bundle that was opened
told_of : (c : Command) (told : Bool) (h : History) (s : SessionState) (d : Disk) (why : OverviewStop) → (IsTrue told → IsOpened s (contents Bundle h) (contents Journal h) d) → OverviewFails why
    → (IsTrue told → IsOverviewStop d.bundle.now c.quarter c.version (step_of c.error) why) → IsFromRefusal c (files_of told h) (overview_stop_of why)
told_of c told h s d why opened fails is = inr (why, (refl, (fails, of_bundle told h (λ bundle. IsOverviewStop bundle c.quarter c.version (step_of c.error) why) s d opened is)))

pub refused : (c : Command) (told : Bool) (h : History) (s : SessionState) (d : Disk) (why : OverviewStop) → (IsTrue told → IsOpened s (contents Bundle h) (contents Journal h) d) → OverviewFails why
    → (IsTrue told → TellsStop d.bundle.now c.quarter c.version (step_of c.error) why) → TakesOverview c (files_of told h) (Err (overview_stop_of why))
refused c told h s d (found.Beyond slot entry got) opened fails tells = told_of c told h s d (found.Beyond slot entry got) opened fails tells
refused c told h s d (found.BadTile slot fault) opened fails tells = told_of c told h s d (found.BadTile slot fault) opened fails tells
refused c told h s d (found.Unlike slot) opened fails tells = told_of c told h s d (found.Unlike slot) opened fails tells
refused c told h s d (found.DepthNeedsV4 slot) opened fails tells = told_of c told h s d (found.DepthNeedsV4 slot) opened fails tells
refused c told h s d (found.TileTooLarge at len) opened fails tells = told_of c told h s d (found.TileTooLarge at len) opened fails tells
refused c told h s d (found.KeptTooMuch at) opened fails tells = told_of c told h s d (found.KeptTooMuch at) opened fails tells
refused c told h s d found.Volume opened fails tells = tt
refused c told h s d found.OutOfMemory opened fails tells = tt

-- a bundle that was opened is shut, whatever its overview comes to
pub rests_overview : (why : OverviewStop) (journal : List ℕ) (d : Disk) → IsShut d → Rests (Err (overview_stop_of why)) journal d
rests_overview (found.Beyond slot entry got) journal d shut = shut
rests_overview (found.BadTile slot fault) journal d shut = shut
rests_overview (found.Unlike slot) journal d shut = shut
rests_overview (found.DepthNeedsV4 slot) journal d shut = shut
rests_overview (found.TileTooLarge at len) journal d shut = shut
rests_overview (found.KeptTooMuch at) journal d shut = shut
rests_overview found.Volume journal d shut = tt
rests_overview found.OutOfMemory journal d shut = shut

-- the updates
pub taken : (c : Command) (told : Bool) (h : History) (s : SessionState) (d : Disk) (updates : Vec TileRec Global) → (IsTrue told → IsOpened s (contents Bundle h) (contents Journal h) d)
    → (IsTrue told → IsOverviewUpdates d.bundle.now c.quarter c.version (step_of c.error) updates.items) → (IsTrue told → IsEncodedOverview d.bundle.now c.quarter c.version (step_of c.error) updates.items)
    → TakesOverview c (files_of told h) (Ok updates)
taken c told h s d updates opened are near = (
  of_bundle told h (λ bundle. IsOverviewUpdates bundle c.quarter c.version (step_of c.error) updates.items) s d opened are,
  of_bundle told h (λ bundle. IsEncodedOverview bundle c.quarter c.version (step_of c.error) updates.items) s d opened near,
)

-- the volume's failure is the cause of the stop
pub overview_cause : (why : OverviewStop) (old new : ℕ) → IsCause (◌≡◌ {A = Result (Vec TileRec Global) OverviewStop} (Err why) (Err found.Volume)) old new → IsCause (◌≡◌ {A = Taken} (Err (overview_stop_of why)) (Err Volume)) old new
overview_cause (found.Beyond slot entry got) old new c = record { counts = c.counts; failed = λ is. absurd cc; rose = λ rose. absurd (let no = c.rose rose in cc) }
overview_cause (found.BadTile slot fault) old new c = record { counts = c.counts; failed = λ is. absurd cc; rose = λ rose. absurd (let no = c.rose rose in cc) }
overview_cause (found.Unlike slot) old new c = record { counts = c.counts; failed = λ is. absurd cc; rose = λ rose. absurd (let no = c.rose rose in cc) }
overview_cause (found.DepthNeedsV4 slot) old new c = record { counts = c.counts; failed = λ is. absurd cc; rose = λ rose. absurd (let no = c.rose rose in cc) }
overview_cause (found.TileTooLarge at len) old new c = record { counts = c.counts; failed = λ is. absurd cc; rose = λ rose. absurd (let no = c.rose rose in cc) }
overview_cause (found.KeptTooMuch at) old new c = record { counts = c.counts; failed = λ is. absurd cc; rose = λ rose. absurd (let no = c.rose rose in cc) }
overview_cause found.Volume old new c = record { counts = c.counts; failed = λ is. c.failed refl; rose = λ rose. refl }
overview_cause found.OutOfMemory old new c = record { counts = c.counts; failed = λ is. absurd cc; rose = λ rose. absurd (let no = c.rose rose in cc) }

-- a stop of opening is that of the volume where the program's is
pub store_volume : (stop : Stop StoreRefusal) → with_store stop ≡ Volume → stop ≡ Volume
store_volume Usage is = absurd (let no : ⊥ = cc in no)
store_volume Source is = absurd (let no : ⊥ = cc in no)
store_volume Output is = absurd (let no : ⊥ = cc in no)
store_volume Volume is = refl
store_volume OutOfMemory is = absurd (let no : ⊥ = cc in no)
store_volume (Refused refusal) is = absurd (let no : ⊥ = cc in no)

-- neither came
pub no_cause : (P Q : Type 0) (old new : ℕ) → (P → ⊥) → (Q → ⊥) → IsCause P old new → IsCause Q old new
no_cause P Q old new neither nor c = record { counts = c.counts; failed = λ q. absurd (nor q); rose = λ rose. absurd (neither (c.rose rose)) }
