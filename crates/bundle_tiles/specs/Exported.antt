-- What an export gives: the tiles of slots, one behind the other, as a stream.
use Rattle.std.specs.Prelude.{◌≡◌, ℕ, zero, suc, ◌/◌, ◌%◌, ◌<◌, ◌≤◌, ◌==◌, if◌then◌else◌, List, [], ◌∷◌, ◌++◌, length, take, get_or, Option, Some, None, Bool, IsTrue, Result, Ok, Err}
use Rattle.std.specs.List.{AllZip}
use Rattle.outside_io.specs.streams.Sink.{Holds, HoldsPrefix}
use Rattle.bundle_index.specs.Entry.{entry_at}
use Rattle.bundle_index.specs.Sizes.{slot_count}
use Rattle.bundle_store.specs.declared.tile_rec.TileRec.{TileRec}
use Rattle.bundle_store.specs.Session.{GetGives, IsBeyond}
use Rattle.bundle_store.specs.Tiles.{TileMap, tiles}
use Rattle.opened_bundle.specs.declared.refusal.StoreRefusal.{StoreRefusal}
use Rattle.opened_bundle.specs.declared.refusal.StoreRefusal.TheVariants.{NoTile, Beyond}
use Rattle.program_ends.specs.declared.stop.Stop.{Stop}
use Rattle.program_ends.specs.declared.stop.Stop.TheVariants.{Output, Volume, OutOfMemory, Refused}
use Rattle.bundle_tiles.specs.RawStream.{IsRawStream}

-- ---- which tiles

-- a map's tile of a slot, if it has one, with its slot
abbrev pub tile_of : ℕ → Option (List ℕ) → List TileRec
tile_of slot None = []
tile_of slot (Some tile) = record { slot = slot; bytes = tile } ∷ []

-- the tiles of the slots below a number, in the order of the slots
unfoldable pub tiles_below : TileMap → ℕ → List TileRec
tiles_below map zero = []
tiles_below map (suc slot) = tiles_below map slot ++ tile_of slot (map slot)

-- all tiles of a map, by slot
abbrev pub tiles_of : TileMap → List TileRec
tiles_of map = tiles_below map slot_count

-- The bytes are the stream of a map.
abbrev pub IsStreamOf : List ℕ → TileMap → Type 0
IsStreamOf bytes map = IsRawStream bytes (tiles_of map)

-- the slots below a number whose entries name a tile, in their order
unfoldable pub slots_below : List ℕ → ℕ → List ℕ
slots_below bundle zero = []
slots_below bundle (suc slot) = slots_below bundle slot
    ++ (if (entry_at bundle slot).size == 0 then [] else slot ∷ [])

-- all of them
abbrev pub slots_of : List ℕ → List ℕ
slots_of bundle = slots_below bundle slot_count

-- ---- what was given

-- The tile of this slot. Where the bundle is told, it is what the slot's entry names, and all of
-- that lies in the bundle.
pub record IsTileAt (told : Bool) (bundle : List ℕ) (slot : ℕ) (tile : TileRec) : Type 0 where
  pub slot_is : tile.slot ≡ slot
  pub whole : IsTrue told → GetGives bundle slot tile.bytes
  pub is : IsTrue told → tiles bundle slot ≡ Some tile.bytes

-- the tiles of these slots, in this order
abbrev pub AreTilesAt : Bool → List ℕ → List ℕ → List TileRec → Type 0
AreTilesAt told bundle slots given = AllZip (IsTileAt told bundle) slots given

-- a stream of the tiles of these slots, and what the output has gained of it
pub record GaveTiles (told : Bool) (bundle slots : List ℕ) (gained : List ℕ → Type 0) : Type 0 where
  pub given : List TileRec
  pub bytes : List ℕ
  pub tiles_are : AreTilesAt told bundle slots given
  pub stream : IsRawStream bytes given
  pub held : gained bytes

-- Why the tile of a slot is not given: it has none, or the bundle ends within it; or the volume
-- failed, or memory was refused. Whatever is told, the numbers fail the test that they name.
abbrev pub StopsAt : Bool → List ℕ → ℕ → Stop StoreRefusal → Type 0
StopsAt told bundle slot Volume = Unit {0}
StopsAt told bundle slot OutOfMemory = Unit {0}
StopsAt told bundle slot (Refused (NoTile row col)) = (row ≡ slot / 128) × (col ≡ slot % 128)
    × (IsTrue told → (entry_at bundle slot).size ≡ 0)
StopsAt told bundle slot (Refused (Beyond row col entry got)) =
    (row ≡ slot / 128) × (col ≡ slot % 128) × (got < entry.size)
    × (IsTrue told → IsBeyond bundle slot entry got)
StopsAt told bundle slot stop = ⊥

-- The first k slots have their tiles, which were given whole, and the next one has none, of which
-- nothing was given.
pub record StopsBehind (told : Bool) (bundle slots : List ℕ) (stop : Stop StoreRefusal)
    (old new : Option (List ℕ)) : Type 0 where
  pub count : ℕ
  pub slot : ℕ
  pub within : count < length slots
  pub slot_is : get_or slots count 0 ≡ slot
  pub stops : StopsAt told bundle slot stop
  pub gave : GaveTiles told bundle (take count slots) (Holds old new)

-- How an export of these slots ends, and what the output has gained: the stream of their tiles;
-- where it failed, a prefix of that; where a tile is not there whole, the stream of those before.
abbrev pub ExportGave : Result (Unit {0}) (Stop StoreRefusal) → Bool → List ℕ → List ℕ
    → Option (List ℕ) → Option (List ℕ) → Type 0
ExportGave (Ok x) told bundle slots old new = GaveTiles told bundle slots (Holds old new)
ExportGave (Err Output) told bundle slots old new = (count : ℕ) × ((count ≤ length slots)
    × GaveTiles told bundle (take count slots) (HoldsPrefix old new))
ExportGave (Err stop) told bundle slots old new = StopsBehind told bundle slots stop old new
