-- One source after the other, and the target behind them.
use Rattle.std.specs.Prelude.{◌≡◌, ◌⊎◌, ℕ, ◌<◌, ◌≤◌, List, [], slice_get, Some, None, Result, Ok, Err, Bool, false, IsTrue}
use Rattle.outside_io.specs.declared.volume.VolFile.TheVariants.{Bundle}
use Rattle.outside_io.specs.volume.History.{During, History, contents, current}
use Rattle.bundle_store.specs.declared.fault.StoreFault.{StoreFault}
use Rattle.bundle_store.specs.declared.fault.StoreFault.TheVariants as store
use Rattle.bundle_store.specs.Recover.{EachStandsForOneOf}
use Rattle.bundle_store.specs.Session.{Serves, SessionState}
use Rattle.bundle_store.specs.Tiles.{TileMap}
use Rattle.opened_bundle.specs.Files.{Files}
use Rattle.opened_bundle.specs.Left.{IsShut}
use Rattle.bundle_pack.specs.Files.{files_in}
use Rattle.bundle_pack.specs.Opening.{AreOpened, IsFirstUnopened, OpeningFails, OpeningFault, OpensAs, StandsLeft}
use Rattle.bundle_pack.specs.Packing.{EachKeptOr, TargetFault}
use Rattle.bundle_pack.specs.Sources.{RecoversAlone}
use Rattle.bundle_pack.specs.declared.fault.PackFault.{PackFault}
use Rattle.bundle_pack.specs.declared.fault.PackFault.TheVariants.{Source, OutOfMemory}

-- why one bundle is not opened, of whatever volume
abbrev pub OpenAnswers : StoreFault → Type 0
OpenAnswers store.OutOfMemory = Unit {0}
OpenAnswers fault = OpeningFails fault

-- what recovering and opening one bundle answers
abbrev pub OpenSays : Files → Result SessionState StoreFault → List ℕ → Type 0
OpenSays f (Ok s) left = OpensAs f left × Serves s left
OpenSays f (Err store.OutOfMemory) left = Unit {0}
OpenSays f (Err fault) left = OpeningFault f fault

-- the same of several
abbrev pub OpeningSays : {X : Type 0} → List Files → Result X PackFault → List (List ℕ) → Type 0
OpeningSays files (Ok x) bundles = AreOpened files bundles
OpeningSays files (Err OutOfMemory) bundles = Unit {0}
OpeningSays files (Err (Source at None fault)) bundles = IsFirstUnopened files at fault
OpeningSays files (Err _) bundles = ⊥

-- a source that was opened
pub record IsTurned {V : Type 0} (told : V → Bool) (history : V → History) (s : SessionState)
    (old new : V) : Type 0 where
  pub running : s.stopped ≡ false
  pub opens : IsTrue (told old) → OpensAs (files_in (history old)) (contents Bundle (history new))
      × Serves s (contents Bundle (history new))
  pub left : IsTrue (told old) → StandsLeft (history old) (history new)
  pub shut : IsTrue (told old) → IsShut (current (history new))

-- of the sources, those below a number were opened, and the others are as they were
pub record IsTurn {V : Type 0} (told : V → Bool) (history : V → History) (faults : V → ℕ)
    (sessions : List SessionState) (at i : ℕ) (old new : V) : Type 0 where
  pub kept : RecoversAlone told history old new
  pub count : faults new ≡ faults old
  pub turned : i < at → (s : SessionState)
      × ((slice_get sessions i ≡ Some s) × IsTurned told history s old new)
  pub rest : at ≤ i → new ≡ old

-- what building the target of the tiles of a map leaves
abbrev pub TargetImages : Files → TileMap → History → History → Type 0
TargetImages target after old new =
    During (EachStandsForOneOf (current old)) old new
    ⊎ (OpensAs target [] × During (EachKeptOr after (current old)) old new)

-- what it answers
abbrev pub TargetSays : Files → Result (Unit {0}) StoreFault → Type 0
TargetSays target (Ok x) = OpensAs target []
TargetSays target (Err store.OutOfMemory) = Unit {0}
TargetSays target (Err fault) = TargetFault target fault

abbrev pub TargetAnswers : StoreFault → Type 0
TargetAnswers (store.NotEmpty len) = 0 < len
TargetAnswers fault = OpenAnswers fault
