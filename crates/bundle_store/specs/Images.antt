-- What an image of both files stands for.
use Rattle.std.specs.Prelude.{◌≡◌, ◌⊎◌, ℕ, ◌≤◌, List, length}
use Rattle.outside_io.specs.volume.Disk.{Disk, IsImage, IsSettled, settled}
use Rattle.side_journal.specs.declared.body.Body.TheVariants.{Tile, Build, Group}
use Rattle.side_journal.specs.declared.body.JournalState.{JournalState}
use Rattle.side_journal.specs.declared.body.JournalState.TheVariants.{Closed, Open, Bad}
use Rattle.side_journal.specs.Says.{IsOpen, Says}
use Rattle.bundle_store.specs.Appended.{with_entry}
use Rattle.bundle_store.specs.GroupPuts.{with_entries}
use Rattle.bundle_store.specs.Tiles.{IsReadable, TileMap, no_tiles, tiles, with_tile}

-- The tiles of a bundle beside a journal that says this: its own where the journal does not count;
-- none where it is being built; with the journal's header and entry laid over it where one tile is
-- under way.
abbrev pub Shows : JournalState → List ℕ → TileMap → Type 0
Shows Closed bundle map = IsReadable bundle × (map ≡ tiles bundle)
Shows (Open Build) bundle map = map ≡ no_tiles
Shows (Open (Tile slot entry size header)) bundle map =
    (size ≤ length bundle) × IsReadable (with_entry header slot entry bundle) ×
    (map ≡ tiles (with_entry header slot entry bundle))
Shows (Open (Group entries size header)) bundle map =
    (size ≤ length bundle) × IsReadable (with_entries header entries bundle) ×
    (map ≡ tiles (with_entries header entries bundle))
Shows (Bad place found) bundle map = ⊥

-- An image is sound, and this is the map that it stands for.
pub record StandsFor (bundle journal : List ℕ) (map : TileMap) : Type 0 where
  pub state : JournalState
  pub says : Says journal state
  pub shows : Shows state bundle map

-- an image is sound, and the map that it stands for passes
pub record IsSoundWith (Pass : TileMap → Type 0) (bundle journal : List ℕ) : Type 0 where
  pub map : TileMap
  pub stands : StandsFor bundle journal map
  pub passes : Pass map

-- each image of the disk is sound, and stands for a map that passes
abbrev pub EachImage : (TileMap → Type 0) → Disk → Type 0
EachImage Pass d = (b j : List ℕ) → IsImage d.bundle b → IsImage d.journal j → IsSoundWith Pass b j

-- nothing is pending, the bundle holds this, and the journal is not open
pub record HoldsClosed (bundle : List ℕ) (d : Disk) : Type 0 where
  pub bundle_is : d.bundle ≡ settled bundle
  pub journal : IsSettled d.journal
  pub closed : ¬ IsOpen d.journal.now

-- the map as it was, or with one slot replaced
abbrev pub WithOrWithout : ℕ → List ℕ → TileMap → TileMap → Type 0
WithOrWithout slot tile before map = (map ≡ before) ⊎ (map ≡ with_tile slot tile before)

-- the empty map, or this one
abbrev pub EmptyOr : TileMap → TileMap → Type 0
EmptyOr after map = (map ≡ no_tiles) ⊎ (map ≡ after)
