-- What recovering and opening several bundles, in their order, comes to.
use Rattle.std.specs.Prelude.{◌≡◌, ℕ, ◌<◌, List, length, slice_get, Some}
use Rattle.outside_io.specs.declared.volume.VolFile.TheVariants.{Bundle, Journal}
use Rattle.outside_io.specs.volume.History.{History, contents}
use Rattle.bundle_store.specs.declared.fault.StoreFault.{StoreFault}
use Rattle.bundle_store.specs.declared.fault.StoreFault.TheVariants.{Device, BadBundle, BadJournal}
use Rattle.bundle_store.specs.declared.recovery.Recovery.{Recovery}
use Rattle.bundle_store.specs.Recover.{Leaves, RecoverFails, Refuses}
use Rattle.bundle_store.specs.Session.{OpenFails, open_fault}
use Rattle.bundle_store.specs.Tiles.{Opens}
use Rattle.opened_bundle.specs.Files.{Files}
use Rattle.opened_bundle.specs.Left.{IsLeft}

-- the files recover to this bundle, which opens
pub record OpensAs (f : Files) (bundle : List ℕ) : Type 0 where
  pub found : Recovery
  pub leaves : Leaves f.bundle f.journal found bundle
  pub opens : Opens bundle

-- each of the files does, to its own
pub record AreOpened (files : List Files) (bundles : List (List ℕ)) : Type 0 where
  pub many : length bundles ≡ length files
  pub each : (i : ℕ) (f : Files) (b : List ℕ) → slice_get files i ≡ Some f
      → slice_get bundles i ≡ Some b → OpensAs f b

-- why files do not open
abbrev pub OpeningFault : Files → StoreFault → Type 0
OpeningFault f Device = Unit {0}
OpeningFault f (BadJournal place number) = Refuses f.bundle f.journal place number
OpeningFault f (BadBundle place number) = (left : List ℕ) × ((found : Recovery)
    × (Leaves f.bundle f.journal found left
    × (open_fault left ≡ Some (record { place = place; found = number }))))
OpeningFault f _ = ⊥

-- the same of files that nobody tells: the kept numbers fail the test that they name
abbrev pub OpeningFails : StoreFault → Type 0
OpeningFails Device = Unit {0}
OpeningFails (BadJournal place number) = RecoverFails (BadJournal place number)
OpeningFails (BadBundle place number) = OpenFails (BadBundle place number)
OpeningFails _ = ⊥

-- the first of the files that do not open, and why
pub record IsFirstUnopened (files : List Files) (at : ℕ) (fault : StoreFault) : Type 0 where
  pub file : Files
  pub there : slice_get files at ≡ Some file
  pub fails : OpeningFault file fault
  pub before : (i : ℕ) (f : Files) → i < at → slice_get files i ≡ Some f
      → (b : List ℕ) × OpensAs f b

-- the bundle is what a recovery leaves of the files
abbrev pub StandsLeft : History → History → Type 0
StandsLeft old new = IsLeft (contents Bundle old) (contents Journal old) (contents Bundle new)
