-- Lists of tiles, and the table of the last tile of each slot.
use Rattle.std.specs.Prelude.{ℕ, ◌<◌, List, [], ◌∷◌, length, get_or}
use Rattle.bundle_store.specs.declared.tile_rec.TileRec.{TileRec}
use Rattle.bundle_store.specs.Tiles.{TileMap, no_tiles, with_tile}

-- the map after tiles were put into it one after the other
abbrev pub map_after : TileMap → List TileRec → TileMap
map_after map [] = map
map_after map (t ∷ ts) = map_after (with_tile t.slot t.bytes map) ts

-- each slot's last tile
abbrev pub last_tiles : List TileRec → TileMap
last_tiles tiles = map_after no_tiles tiles

-- the bytes of the tile of a number
abbrev pub bytes_at : List TileRec → ℕ → List ℕ
bytes_at tiles number = (get_or tiles number (record { slot = 0; bytes = [] })).bytes

-- its slot
abbrev pub slot_at : List TileRec → ℕ → ℕ
slot_at tiles number = (get_or tiles number (record { slot = 0; bytes = [] })).slot

-- each tile is one that a bundle can hold
abbrev pub EachFits : List TileRec → Type 0
EachFits tiles = (i : ℕ) → i < length tiles → (0 < length (bytes_at tiles i)) ×
    (length (bytes_at tiles i) < 16777216)
