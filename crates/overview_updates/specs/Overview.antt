-- The next coarser level of a bundle: of each four neighbouring tiles, of which one is there, their
-- half.
use Rattle.std.specs.Prelude.{◌≡◌, ℕ, ◌+◌, ◌*◌, ◌/◌, ◌%◌, ◌<◌, ◌≤◌, ◌||◌, Bool, List, length, Option, Some, None, is_some, map}
use Rattle.std.specs.List.{AllZip, filter, range_with_len}
use Rattle.raster_values.specs.Raster.{Pixels}
use Rattle.lerc_grammar.specs.Bands.{BandsBlob}
use Rattle.bundle_index.specs.Entry.{entry_at}
use Rattle.bundle_store.specs.Tiles.{TileMap, tiles}
use Rattle.tile_stream.specs.declared.tile.Tile.{Tile}
use Rattle.overview_tiles.specs.Tiles.{AreHalf, Tiles}

-- the slot of the quarter q of the coarse tile in row a and column b
abbrev pub quarter_slot : ℕ → ℕ → ℕ → ℕ
quarter_slot a b q = 128 * (2 * a + q / 2) + (2 * b + q % 2)

-- the slot of that tile in the coarser bundle, of which this bundle is the quarter of this number
abbrev pub coarse_slot : ℕ → ℕ → ℕ → ℕ
coarse_slot quarter a b = 128 * (64 * (quarter / 2) + a) + (64 * (quarter % 2) + b)

-- a tile is the blobs of these bands, or there is none
abbrev pub IsQuarter : Option (List ℕ) → Option (List Pixels) → Type 0
IsQuarter None None = Unit {0}
IsQuarter None (Some bands) = ⊥
IsQuarter (Some bytes) None = ⊥
IsQuarter (Some bytes) (Some bands) = BandsBlob bytes bands

-- the bands of the first n of the four tiles
pub record AreFirst (tiles_in : TileMap) (a b n : ℕ) (tiles : Tiles) : Type 0 where
  pub each : (q : ℕ) → q < n → IsQuarter (tiles_in (quarter_slot a b q)) (tiles q)
  pub past : (q : ℕ) → n ≤ q → tiles q ≡ None

-- where the entry of a slot names bytes, they all are in the bundle
abbrev pub LiesWhole : List ℕ → ℕ → Type 0
LiesWhole bundle slot = 0 < (entry_at bundle slot).size
    → (entry_at bundle slot).offset + (entry_at bundle slot).size ≤ length bundle

-- The first n of the four tiles were read from a bundle: each lies whole in it, and has these
-- bands.
pub record AreRead (bundle : List ℕ) (a b n : ℕ) (four : Tiles) : Type 0 where
  pub first : AreFirst (tiles bundle) a b n four
  pub whole : (q : ℕ) → q < n → LiesWhole bundle (quarter_slot a b q)

-- and all four
abbrev pub AreQuarters : List ℕ → ℕ → ℕ → Tiles → Type 0
AreQuarters bundle a b four = AreRead bundle a b 4 four

-- one of the four is there
abbrev pub has_quarter : TileMap → ℕ → ℕ → Bool
has_quarter tiles_in a b =
    is_some (tiles_in (quarter_slot a b 0)) || is_some (tiles_in (quarter_slot a b 1))
    || is_some (tiles_in (quarter_slot a b 2)) || is_some (tiles_in (quarter_slot a b 3))

-- the row and the column of a coarse place: they are numbered row by row, 64 to a row
abbrev pub place_of : ℕ → ℕ × ℕ
place_of k = (k / 64, k % 64)

-- of the first n places, in their order, those of which one of the four tiles is there
unfoldable pub first_places : TileMap → ℕ → List (ℕ × ℕ)
first_places tiles_in n =
    filter (λ p. has_quarter tiles_in p.0 p.1) (map place_of (range_with_len 0 n))

-- and of all
abbrev pub coarse_places : TileMap → List (ℕ × ℕ)
coarse_places tiles_in = first_places tiles_in 4096

-- the coarse tile of a place: half of its four, in its slot
pub record IsCoarse (bundle : List ℕ) (quarter : ℕ) (place : ℕ × ℕ) (tile : Tile) : Type 0 where
  pub four : Tiles
  pub quarters : AreQuarters bundle place.0 place.1 four
  pub slot : tile.slot ≡ coarse_slot quarter place.0 place.1
  pub half : AreHalf four tile.bands

-- These are the coarse tiles, in the order of their places.
abbrev pub IsOverview : List ℕ → ℕ → List Tile → Type 0
IsOverview bundle quarter coarse =
    AllZip (IsCoarse bundle quarter) (coarse_places (tiles bundle)) coarse
