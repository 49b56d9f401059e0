-- What a call at a place leaves of a shelf, and why it refuses.
use Rattle.std.specs.Prelude.{◌≡◌, ◌⊎◌, ℕ, ◌+◌, ◌^◌, ◌-◌, ◌<◌, ◌≤◌, List, length, Bool, IsTrue, Option, None, Some, Result, Ok, Err, OnOk, IfOk, IfErr, IsErrOf}
use Rattle.outside_io.specs.declared.volume.VolFile.TheVariants.{Bundle, Journal}
use Rattle.outside_io.specs.volume.Disk.{Disk, IsQuiet}
use Rattle.outside_io.specs.volume.History.{During, History, contents, current}
use Rattle.bundle_index.specs.Entry.{entry_at}
use Rattle.side_journal.specs.Says.{IsOpen}
use Rattle.bundle_store.specs.declared.fault.StoreFault.{StoreFault}
use Rattle.bundle_store.specs.declared.fault.StoreFault.TheVariants.{Device, BadBundle, BadJournal, NoTile, Beyond, TileTooLarge, EmptyTile, Full, OutOfMemory}
use Rattle.bundle_store.specs.Causes.{OnRefusal, UnlessDevice}
use Rattle.bundle_store.specs.Images.{EachImage, StandsFor, WithOrWithout}
use Rattle.bundle_store.specs.Recover.{EachKeptOrOnTheWay, EachStandsForOneOf, RecoverFails, Refuses}
use Rattle.bundle_store.specs.Session.{GetGives, IsBeyond, OpenFails, PutFails, open_fault}
use Rattle.bundle_store.specs.Starts.{CouldBe, EachIsSound}
use Rattle.bundle_store.specs.Tiles.{TileMap, with_tile}
use Rattle.opened_bundle.specs.Files.{Files, OfBundle, OfRecovered}
use Rattle.level_cache.specs.declared.level.LevelFault.{LevelFault}
use Rattle.level_cache.specs.declared.level.LevelFault.TheVariants.{Shelf, Store}
use Rattle.level_cache.specs.Places.{Corner}
use Rattle.level_cache.specs.Shelf.{Hands, SameBeside}

-- ---- images

-- each image stands for a map that an image of an earlier disk stood for, or for that map with the
-- tile
abbrev pub EachWithOrWithout : ℕ → List ℕ → Disk → Disk → Type 0
EachWithOrWithout slot tile before d =
    EachImage (λ map. (start : TileMap)
    × (CouldBe before start × WithOrWithout slot tile start map)) d

-- each image stands for a map that an image of an earlier disk stood for, with the tile
abbrev pub EachWith : ℕ → List ℕ → Disk → Disk → Type 0
EachWith slot tile before d =
    EachImage (λ map. (start : TileMap)
    × (CouldBe before start × (map ≡ with_tile slot tile start))) d

-- nothing is pending, the journal is not open, and what is read stands for this
pub record ReadsAs (map : TileMap) (d : Disk) : Type 0 where
  pub quiet : IsQuiet d
  pub closed : ¬ IsOpen d.journal.now
  pub stands : StandsFor d.bundle.now d.journal.now map

-- ---- refusals

-- what is read of both files
abbrev pub files_in : History → Files
files_in h = record { bundle = contents Bundle h; journal = contents Journal h }

-- Why a put of so many bytes refuses, over whatever volume: the numbers that a refusal keeps fail
-- the test that they name.
abbrev pub PutRefusal : ℕ → StoreFault → Type 0
PutRefusal size Device = Unit {0}
PutRefusal size (BadJournal place found) = RecoverFails (BadJournal place found)
PutRefusal size (BadBundle place found) = OpenFails (BadBundle place found)
PutRefusal size OutOfMemory = Unit {0}
PutRefusal size (EmptyTile at) = PutFails size (EmptyTile at)
PutRefusal size (TileTooLarge at len) = PutFails size (TileTooLarge at len)
PutRefusal size (Full len) = PutFails size (Full len)
PutRefusal size _ = ⊥

-- the same of a get
abbrev pub GetRefusal : StoreFault → Type 0
GetRefusal Device = Unit {0}
GetRefusal (BadJournal place found) = RecoverFails (BadJournal place found)
GetRefusal (BadBundle place found) = OpenFails (BadBundle place found)
GetRefusal NoTile = Unit {0}
GetRefusal OutOfMemory = Unit {0}
GetRefusal (Beyond entry got) = got < entry.size
GetRefusal _ = ⊥

-- Why a put refuses beside these files: the first that holds, of the recovery, of opening, of the
-- tile.
abbrev pub PutRefuses : Files → StoreFault → Type 0
PutRefuses files Device = Unit {0}
PutRefuses files (BadJournal place found) = Refuses files.bundle files.journal place found
PutRefuses files (BadBundle place number) = OfRecovered (Some files) (λ bundle.
    open_fault bundle ≡ Some (record { place = place; found = number }))
PutRefuses files (Full len) = OfBundle (Some files) (λ bundle. len ≡ length bundle)
PutRefuses files _ = OfBundle (Some files) (λ bundle. Unit {0})

-- the same of a get
abbrev pub GetRefuses : Files → ℕ → StoreFault → Type 0
GetRefuses files slot Device = Unit {0}
GetRefuses files slot (BadJournal place found) = Refuses files.bundle files.journal place found
GetRefuses files slot (BadBundle place number) = OfRecovered (Some files) (λ bundle.
    open_fault bundle ≡ Some (record { place = place; found = number }))
GetRefuses files slot NoTile = OfBundle (Some files) (λ bundle. (entry_at bundle slot).size ≡ 0)
GetRefuses files slot (Beyond entry got) =
    OfBundle (Some files) (λ bundle. IsBeyond bundle slot entry got)
GetRefuses files slot _ = OfBundle (Some files) (λ bundle. Unit {0})

-- such a refusal can come where what is read stands for a map
abbrev pub CanBeSound : StoreFault → Type 0
CanBeSound (BadBundle place found) = ⊥
CanBeSound (BadJournal place found) = ⊥
CanBeSound (Beyond entry got) = ⊥
CanBeSound _ = Unit {0}

-- ---- one volume

-- A put. Where each image was sound at the start, so is each at each moment, and stands for what
-- one stood for at the start, or for that with the tile; after Ok nothing is pending, and the one
-- image has the tile. What was read at the start has gained the tile after Ok, and is as it was
-- after a refusal; where nothing was pending it is one of the two after any answer.
pub record PutsIn (result : Result (Unit {0}) StoreFault) (slot : ℕ) (tile : List ℕ)
    (old new : History) : Type 0 where
  pub later : old.moment ≤ new.moment
  pub kept : EachIsSound (current old)
      → During (EachWithOrWithout slot tile (current old)) old new
  pub gained : EachIsSound (current old)
      → OnOk result (EachWith slot tile (current old) (current new))
  pub done : (start : TileMap) → StandsFor (contents Bundle old) (contents Journal old) start
      → OnOk result (ReadsAs (with_tile slot tile start) (current new))
  pub refused : (start : TileMap) → StandsFor (contents Bundle old) (contents Journal old) start
      → OnRefusal result (ReadsAs start (current new))
  pub read : (start : TileMap) → IsQuiet (current old)
      → StandsFor (contents Bundle old) (contents Journal old) start
      → (map : TileMap) × (StandsFor (contents Bundle new) (contents Journal new) map
      × WithOrWithout slot tile start map)
  pub sound : (start : TileMap) → StandsFor (contents Bundle old) (contents Journal old) start
      → IfErr result CanBeSound
  pub quiet : OnOk result (IsQuiet (current new))
  pub room : OnOk result (OfBundle (Some (files_in old)) (λ bundle.
      length bundle + 4 + length tile ≤ 2 ^ 40))
  pub why : IfErr result (λ fault. PutRefuses (files_in old) fault)

-- A get. Each image at each moment stands for what one stood for at the start, and is one of these,
-- or what a recovery makes of the files that were read. Where what was read at the start stands for
-- a map, the answer is of that map, and unless the volume failed nothing is pending then; where
-- nothing was pending what is read stands for it after any answer.
pub record GetsFrom (result : Result (List ℕ) StoreFault) (slot : ℕ) (old new : History) : Type 0
  where
    pub kept : During (EachStandsForOneOf (current old)) old new
    pub files : During (EachKeptOrOnTheWay (current old)) old new
    pub gives : (start : TileMap) → StandsFor (contents Bundle old) (contents Journal old) start
        → IfOk result (λ tile. start slot ≡ Some tile)
    pub none : (start : TileMap) → StandsFor (contents Bundle old) (contents Journal old) start
        → IsErrOf result NoTile → start slot ≡ None
    pub unchanged : (start : TileMap) → StandsFor (contents Bundle old) (contents Journal old) start
        → UnlessDevice result (ReadsAs start (current new))
    pub stays : (start : TileMap) → IsQuiet (current old)
        → StandsFor (contents Bundle old) (contents Journal old) start
        → StandsFor (contents Bundle new) (contents Journal new) start
    pub sound : (start : TileMap) → StandsFor (contents Bundle old) (contents Journal old) start
        → IfErr result CanBeSound
    pub quiet : OnOk result (IsQuiet (current new))
    pub read : IfOk result (λ tile. OfBundle (Some (files_in old)) (λ bundle.
        GetGives bundle slot tile))
    pub why : IfErr result (λ fault. GetRefuses (files_in old) slot fault)

-- ---- the shelf

-- The volume that a shelf lent for a base, and what a call made of it.
pub record Lends {V X : Type 0} (told : V → Bool) (history : V → History) (faults : V → ℕ)
    (Made : Result X StoreFault → History → History → Type 0)
    (result : Result X StoreFault) (before after : Option V) : Type 0 where
  pub lent : V
  pub back : V
  pub hands : Hands told history faults before lent
  pub there : after ≡ Some back
  pub tells : told back ≡ told lent
  pub made : IsTrue (told lent) → Made result (history lent) (history back)

-- The volume of the base was lent, and no other has changed. Where the shelf failed it may not have
-- been, and none has changed.
abbrev pub LevelMoves : {V X : Type 0} → Result X LevelFault → Corner → (Corner → Option V)
    → (Corner → Option V) → (Result X StoreFault → Option V → Option V → Type 0) → Type 0
LevelMoves {V} {X} (Ok x) base old new Lent = Lent (Ok x) (old base) (new base)
    × SameBeside base old new
LevelMoves {V} {X} (Err (Store fault)) base old new Lent =
    Lent (Err fault) (old base) (new base) × SameBeside base old new
LevelMoves {V} {X} (Err Shelf) base old new Lent = (new ≡ old)
    ⊎ ((r : Result X StoreFault) × (Lent r (old base) (new base) × SameBeside base old new))

-- Device is answered exactly where the second count rose and the shelf did not fail. A count at
-- its greatest licenses it, too.
abbrev pub DeviceRose : {X : Type 0} → Result X LevelFault → ℕ → ℕ → Type 0
DeviceRose (Err (Store Device)) old new = (old < new) ⊎ ((old ≡ 2 ^ 64 - 1) × (new ≡ old))
DeviceRose (Err Shelf) old new = old ≤ new
DeviceRose result old new = new ≡ old

-- a refusal of the store is such
abbrev pub OnStore : (StoreFault → Type 0) → LevelFault → Type 0
OnStore P Shelf = Unit {0}
OnStore P (Store fault) = P fault
