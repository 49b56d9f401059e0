-- What a command that begins with a recovery leaves of its volume, and what a crash may leave at
-- each moment of it.
use Rattle.std.specs.Prelude.{◌≡◌, ◌⊎◌, ℕ, ◌≤◌, List, Bool, IsTrue, Result, Ok, Err}
use Rattle.outside_io.specs.declared.volume.VolFile.TheVariants.{Bundle, Journal}
use Rattle.outside_io.specs.streams.Faults.{IsCause}
use Rattle.outside_io.specs.volume.Disk.{Disk, IsQuiet}
use Rattle.outside_io.specs.volume.History.{During, History, contents, current}
use Rattle.side_journal.specs.Says.{IsOpen}
use Rattle.bundle_store.specs.declared.recovery.Recovery.{Recovery}
use Rattle.bundle_store.specs.Images.{StandsFor}
use Rattle.bundle_store.specs.Recover.{EachKeptOrOnTheWay, EachStandsForOneOf, Leaves, Refuses}
use Rattle.bundle_store.specs.Starts.{EachIsSound}
use Rattle.bundle_store.specs.Tiles.{TileMap}
use Rattle.program_ends.specs.Moves.{VolumeMove}
use Rattle.program_ends.specs.declared.stop.Stop.{Stop}
use Rattle.program_ends.specs.declared.stop.Stop.TheVariants.{Volume, Refused}
use Rattle.opened_bundle.specs.declared.refusal.StoreRefusal.{StoreRefusal}
use Rattle.opened_bundle.specs.declared.refusal.StoreRefusal.TheVariants.{BadJournal}

-- The volume tells its files, and each image that a crash might leave as the run starts is sound.
-- What is read then stands for this map.
pub record IsReady (told : Bool) (h : History) (start : TileMap) : Type 0 where
  pub tells : IsTrue told
  pub sound : EachIsSound (current h)
  pub stands : StandsFor (contents Bundle h) (contents Journal h) start

-- What a recovery leaves of the bundle: what the journal says, or the bundle as it is where a test
-- of the journal fails.
abbrev pub IsLeft : List ℕ → List ℕ → List ℕ → Type 0
IsLeft bundle journal left =
    ((found : Recovery) × Leaves bundle journal found left)
    ⊎ ((place found : ℕ) × (Refuses bundle journal place found × (left ≡ bundle)))

-- a crash leaves what is read, and the journal is not open
pub record IsShut (d : Disk) : Type 0 where
  pub quiet : IsQuiet d
  pub closed : ¬ IsOpen d.journal.now

-- What stands behind a stop, unless the volume failed: where a test of the journal failed, it reads
-- as it did, and no bundle was opened.
abbrev pub RestsBehind : Stop StoreRefusal → List ℕ → Disk → Type 0
RestsBehind Volume journal d = Unit {0}
RestsBehind (Refused (BadJournal place found)) journal d =
    IsQuiet d × (d.journal.now ≡ journal)
RestsBehind stop journal d = IsShut d

-- the same behind any end of a call on the bundle
abbrev pub Rests : {X : Type 0} → Result X (Stop StoreRefusal) → List ℕ → Disk → Type 0
Rests (Ok x) journal d = IsShut d
Rests (Err stop) journal d = RestsBehind stop journal d

-- What a call leaves of the volume that recovers the bundle, and then changes nothing: each image
-- stands for what one stood for at the start, whatever was pending, and is one of them, or on a
-- recovery's way. The type says that the volume failed.
pub record OfReading (failed : Type 0) (vol : VolumeMove) : Type 0 where
  pub cause : IsCause failed vol.faults.old vol.faults.new
  pub told : vol.told.new ≡ vol.told.old
  pub later : IsTrue vol.told.old → vol.history.old.moment ≤ vol.history.new.moment
  pub reads : IsTrue vol.told.old → (failed → ⊥) → IsLeft (contents Bundle vol.history.old)
      (contents Journal vol.history.old) (contents Bundle vol.history.new)
  pub images : IsTrue vol.told.old → During (EachStandsForOneOf (current vol.history.old))
      vol.history.old vol.history.new
  pub files : IsTrue vol.told.old → During (EachKeptOrOnTheWay (current vol.history.old))
      vol.history.old vol.history.new
