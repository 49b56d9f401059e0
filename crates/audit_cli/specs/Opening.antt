-- Whether there is a bundle to be audited. Nothing is recovered.
use Rattle.std.specs.Prelude.{◌≡◌, ℕ, [], length, Option, Some, IfSome}
use Rattle.outside_io.specs.declared.volume.VolFile.TheVariants.{Bundle, Journal}
use Rattle.outside_io.specs.volume.History.{History, contents}
use Rattle.side_journal.specs.declared.body.Body.{Body}
use Rattle.side_journal.specs.declared.body.JournalState.TheVariants as state
use Rattle.side_journal.specs.Says.{IsOpen, IsWrongAt, Says}
use Rattle.bundle_store.specs.declared.fault.StoreFault.TheVariants as found
use Rattle.bundle_store.specs.Session.{OpenFails, Serves, SessionState, open_fault}
use Rattle.bundle_store.specs.Tiles.{HasIndex}
use Rattle.opened_bundle.specs.Files.{Files}
use Rattle.opened_bundle.specs.declared.refusal.StoreRefusal.TheVariants.{BadBundle, BadJournal}
use Rattle.program_ends.specs.declared.stop.Stop.{Stop}
use Rattle.program_ends.specs.declared.stop.Stop.TheVariants.{OutOfMemory, Refused, Volume}
use Rattle.audit_cli.specs.declared.refusal.Refusal.{Refusal}
use Rattle.audit_cli.specs.declared.refusal.Refusal.TheVariants.{JournalOpen, NoBundle, Store}

-- what a read gives of both files
abbrev pub files_at : History → Files
files_at h = record { bundle = contents Bundle h; journal = contents Journal h }

-- Why these files are not audited, in this order: the journal counts, and a test of it fails; it
-- counts; there is no bundle, or an empty one; the bundle fails a test of a reader.
abbrev pub IsRefused : Files → Refusal → Type 0
IsRefused f (Store (BadJournal place number)) = Says f.journal (state.Bad place number)
IsRefused f JournalOpen = (body : Body) × Says f.journal (state.Open body)
IsRefused f NoBundle = (¬ IsOpen f.journal) × (f.bundle ≡ [])
IsRefused f (Store (BadBundle place number)) = (¬ IsOpen f.journal)
    × (open_fault f.bundle ≡ Some (record { place = place; found = number }))
IsRefused f refusal = ⊥

-- The kept numbers of a refusal fail the test that they name, of whatever volume.
abbrev pub RefusalFails : Refusal → Type 0
RefusalFails (Store (BadJournal place number)) = IsWrongAt place number
RefusalFails JournalOpen = Unit {0}
RefusalFails NoBundle = Unit {0}
RefusalFails (Store (BadBundle place number)) = OpenFails (found.BadBundle place number)
RefusalFails refusal = ⊥

-- no update is under way, and the bundle is not empty, and one that a reader takes
pub record IsAuditable (f : Files) : Type 0 where
  pub closed : ¬ IsOpen f.journal
  pub index : HasIndex f.bundle

-- this refusal, where the files are told, is the first
abbrev pub Refuses : Option Files → Refusal → Type 0
Refuses files refusal = RefusalFails refusal × IfSome files (λ f. IsRefused f refusal)

-- the volume failed, or memory was refused behind all tests, or the refusal is the first
abbrev pub OpeningStops : Option Files → Stop Refusal → Type 0
OpeningStops files Volume = Unit {0}
OpeningStops files OutOfMemory = IfSome files IsAuditable
OpeningStops files (Refused refusal) = Refuses files refusal
OpeningStops files stop = ⊥

-- the session can serve the bundle, which has so many bytes
pub record IsOpened (s : SessionState) (size : ℕ) (f : Files) : Type 0 where
  pub may : IsAuditable f
  pub serves : Serves s f.bundle
  pub size_is : size ≡ length f.bundle
