-- A stream of tiles with their bytes as they are: one behind the other up to the end of the bytes.
use Rattle.std.specs.Prelude.{◌≡◌, ℕ, ◌<◌, List, ◌++◌, length}
use Rattle.first_fault.specs.Faults.{Numbered, moved}
use Rattle.bundle_store.specs.declared.tile_rec.TileRec.{TileRec}
use Rattle.bundle_tiles.specs.declared.raw_tile.RawFault.{RawFault}
use Rattle.bundle_tiles.specs.RawTile.{IsRawTile, raw_faults}

-- the bytes are these tiles
abbrev pub IsRawStream : List ℕ → List TileRec → Type 0
IsRawStream bytes tiles = Numbered (λ k. IsRawTile) 0 bytes tiles

-- The bytes begin with these tiles, and behind them this is left.
pub record BeginsWith (bytes : List ℕ) (tiles : List TileRec) (rest : List ℕ) : Type 0 where
  pub front : List ℕ
  pub joined : bytes ≡ front ++ rest
  pub stream : IsRawStream front tiles

-- What is wrong first in bytes that are no stream: some tiles are whole, something is left behind
-- them, and that does not begin with a tile. Places count from the first of the bytes.
pub record IsStreamFault (bytes : List ℕ) (fault : RawFault) : Type 0 where
  pub tiles : List TileRec
  pub rest : List ℕ
  pub begins : BeginsWith bytes tiles rest
  pub more : 0 < length rest
  pub next : moved (length begins.front) (raw_faults rest) fault.place fault.reason

-- The law: bytes are a stream of one list of tiles at most.
abbrev pub RawStreamsHaveOneList : Type 0
RawStreamsHaveOneList = (bytes : List ℕ) (tiles others : List TileRec) → IsRawStream bytes tiles →
    IsRawStream bytes others → tiles ≡ others

-- The law: bytes that are a stream have no fault, and others have one first fault at most.
abbrev pub RawStreamsHaveOneFault : Type 0
RawStreamsHaveOneFault = (bytes : List ℕ) (fault other : RawFault) → IsStreamFault bytes fault →
    IsStreamFault bytes other → fault ≡ other

abbrev pub RawStreamsHaveNoFault : Type 0
RawStreamsHaveNoFault = (bytes : List ℕ) (tiles : List TileRec) (fault : RawFault) →
    IsRawStream bytes tiles → IsStreamFault bytes fault → ⊥
