-- A stream of tiles.
use Rattle.std.specs.Prelude.{◌≡◌, ℕ, List}
use Rattle.first_fault.specs.Faults.{Numbered}
use Rattle.tile_stream.specs.declared.tile.Tile.{Tile}
use Rattle.tile_stream.specs.Tile.{IsTile}

-- the bytes are these tiles, one behind the other
abbrev pub IsStream : List ℕ → List Tile → Type 0
IsStream bytes tiles = Numbered (λ k. IsTile) 0 bytes tiles

-- The law: bytes are a stream of one list of tiles at most.
abbrev pub StreamsHaveOneList : Type 0
StreamsHaveOneList = (bytes : List ℕ) (tiles others : List Tile) → IsStream bytes tiles →
    IsStream bytes others → tiles ≡ others
