-- The table of the number of each slot's last tile, and the map that it shows.
use Rattle.std.specs.Prelude.{◌≡◌, ℕ, ◌+◌, ◌<◌, ◌≤◌, ◌==◌, if◌then◌else◌, List, length, get_or, Option, Some, None}
use Rattle.bundle_index.specs.Sizes.{index_end}
use Rattle.bundle_index.specs.declared.entry.Entry.{Entry}
use Rattle.bundle_store.specs.declared.tile_rec.TileRec.{TileRec}
use Rattle.bundle_store.specs.Build.{bytes_at}
use Rattle.bundle_store.specs.Session.{IsFirstEmpty, IsFirstLarge}
use Rattle.bundle_store.specs.Tiles.{AreTiles, TileMap}
use Rattle.bundle_store.specs.declared.fault.StoreFault.{StoreFault}
use Rattle.bundle_store.specs.declared.fault.StoreFault.TheVariants.{TileTooLarge, EmptyTile}

-- the tile of a number, if there is one
abbrev pub tile_of_number : List TileRec → Option ℕ → Option (List ℕ)
tile_of_number tiles None = None
tile_of_number tiles (Some number) = Some (bytes_at tiles number)

-- the map that a table of numbers shows
abbrev pub table_map : List TileRec → List (Option ℕ) → TileMap
table_map tiles table slot = tile_of_number tiles (get_or table slot None)

-- the table's numbers are numbers of tiles
abbrev pub IsTable : List TileRec → List (Option ℕ) → Type 0
IsTable tiles table = (slot number : ℕ) → get_or table slot None ≡ Some number →
    number < length tiles

-- the table's numbers are numbers of tiles, and a bundle can hold the tiles that it shows
pub record NumbersTiles (tiles : List TileRec) (table : List (Option ℕ)) : Type 0 where
  pub are_numbers : IsTable tiles table
  pub are_tiles : AreTiles (table_map tiles table)

-- so many bytes are enough for the record of each tile
abbrev pub HasRoom : List TileRec → ℕ → Type 0
HasRoom tiles size = (i : ℕ) → i < length tiles → length (bytes_at tiles i) + 4 ≤ size

-- the entry of a tile whose record stands behind so many bytes of records, by the tile's size; 0
-- for none
abbrev pub entry_of_size : ℕ → ℕ → Entry
entry_of_size before size =
    if size == 0 then (let e : Entry = record { offset = 0; size = 0 } in e)
    else record { offset = index_end + before + 4; size = size }

-- the first tile that no bundle can hold, and no other cause
abbrev pub TilesFail : List TileRec → StoreFault → Type 0
TilesFail tiles (EmptyTile at) = IsFirstEmpty tiles at
TilesFail tiles (TileTooLarge at len) = IsFirstLarge tiles at len
TilesFail tiles _ = ⊥
