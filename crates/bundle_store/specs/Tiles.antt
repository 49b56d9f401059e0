-- Bundles, and the tiles that they hold.
use Rattle.std.specs.Prelude.{◌≡◌, ◌⊎◌, ℕ, ◌+◌, ◌<◌, ◌≤◌, ◌==◌, nat_lt, List, length, take, drop, Option, Some, None, IfSome, if◌then◌else◌}
use Rattle.bundle_index.specs.Sizes.{index_end, slot_count}
use Rattle.bundle_index.specs.Entry.{entry_at}
use Rattle.bundle_index.specs.Header.{HasHeader}
use Rattle.bundle_index.specs.declared.entry.Entry.{Entry}

-- A finite map from slots, the numbers below 16,384, to tiles. It has nothing at any other number,
-- so two maps with the same tile in each slot are equal.
abbrev pub TileMap : Type 0
TileMap = ℕ → Option (List ℕ)

abbrev pub no_tiles : TileMap
no_tiles slot = None

-- the map with one slot replaced
abbrev pub with_tile : ℕ → List ℕ → TileMap → TileMap
with_tile slot tile map other = if other == slot then Some tile else map other

-- the bytes that an entry names
abbrev pub tile_in : List ℕ → Entry → Option (List ℕ)
tile_in bundle e = if e.size == 0 then None else Some (take e.size (drop e.offset bundle))

-- the tiles of a bundle
unfoldable pub tiles : List ℕ → TileMap
tiles bundle slot = if nat_lt slot slot_count then tile_in bundle (entry_at bundle slot) else None

-- an entry names bytes behind the index and within the bundle, if it names any
abbrev pub IsWithin : List ℕ → Entry → Type 0
IsWithin bundle e = 0 < e.size → (index_end ≤ e.offset) × (e.offset + e.size ≤ length bundle)

-- a bundle of at least a header and an index, with a header that a reader takes
pub record HasIndex (bundle : List ℕ) : Type 0 where
  pub long : index_end ≤ length bundle
  pub header : HasHeader bundle

-- the same, and each entry lies within
pub record IsBundle (bundle : List ℕ) : Type 0 where
  pub index : HasIndex bundle
  pub entries : (slot : ℕ) → slot < slot_count → IsWithin bundle (entry_at bundle slot)

-- what a session can be opened on: an empty file, or a bundle whose entries are believed
abbrev pub Opens : List ℕ → Type 0
Opens bundle = (length bundle ≡ 0) ⊎ HasIndex bundle

abbrev pub IsReadable : List ℕ → Type 0
IsReadable bundle = (length bundle ≡ 0) ⊎ IsBundle bundle

-- a map of slots to tiles that a bundle can hold: each has at least 1 byte and fewer than 2 ^ 24
pub record AreTiles (map : TileMap) : Type 0 where
  pub past : (slot : ℕ) → slot_count ≤ slot → map slot ≡ None
  pub sizes : (slot : ℕ) → IfSome (map slot) (λ tile. (0 < length tile) × (length tile < 16777216))
