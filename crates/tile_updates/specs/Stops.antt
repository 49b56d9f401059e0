-- The first refusal of an input of tiles from which updates are to be made. The tiles come in their
-- order, and the first one with a refusal decides.
use Rattle.std.specs.Prelude.{◌≡◌, ℕ, ◌+◌, ◌^◌, ◌<◌, List, [], ◌∷◌, ◌++◌, length, Option, IfSome}
use Rattle.first_fault.specs.Faults.{moved}
use Rattle.lerc_header.specs.declared.header.Version.{Version}
use Rattle.lerc_encode.specs.Encoded.{BandsNeedV4}
use Rattle.tile_stream.specs.declared.tile.Tile.{Tile}
use Rattle.tile_stream.specs.Tile.{IsTile, tile_faults}
use Rattle.tile_stream.specs.Stream.{IsStream}
use Rattle.tile_updates.specs.declared.stop.StreamStop.{StreamStop}
use Rattle.tile_updates.specs.declared.stop.StreamStop.TheVariants.{TooManyTiles, Fault, DepthNeedsV4, TileTooLarge, KeptTooMuch, Source, OutOfMemory}
use Rattle.tile_updates.specs.Updates.{AllPass, OfBytes, Passes, kept_bytes, updates_of, tile_bytes}

-- a whole tile stands in front of the bytes, and it is such
pub record HasTile (rest : List ℕ) (Such : Tile → Type 0) : Type 0 where
  pub tile : Tile
  pub front : List ℕ
  pub behind : List ℕ
  pub joined : rest ≡ front ++ behind
  pub stands : IsTile front tile
  pub such : Such tile

-- the blobs of the tile's bands have so many bytes, more than a bundle can hold
pub record IsTooLong (v : Version) (step len : ℕ) (t : Tile) : Type 0 where
  pub taken : ¬ BandsNeedV4 v t.bands
  pub len_is : len ≡ length (tile_bytes v step t)
  pub long : 16777215 < len

-- the tile passes, and with its blobs all blobs are too long together
pub record IsTooMuch (v : Version) (step : ℕ) (before : List Tile) (t : Tile) : Type 0 where
  pub passes : Passes v step t
  pub much : 2 ^ 30 < kept_bytes (updates_of v step (before ++ t ∷ []))

-- Behind these tiles, the next one is refused so. The bytes from it on are `rest`, and the first of
-- them stands at the place. Each test but the first is made only where those above it hold. The
-- place of a depth is that of its number in the head of the tile's grid.
abbrev pub IsRefused : Version → ℕ → List Tile → ℕ → List ℕ → StreamStop → Type 0
IsRefused v step before place rest TooManyTiles = length before ≡ 1048576
IsRefused v step before place rest (Fault f) =
    (length before < 1048576) × moved place (tile_faults rest) f.place f.reason
IsRefused v step before place rest (DepthNeedsV4 at) =
    (length before < 1048576)
    × (HasTile rest (λ t. BandsNeedV4 v t.bands) × (at ≡ place + 16))
IsRefused v step before place rest (TileTooLarge at len) =
    (length before < 1048576) × (HasTile rest (IsTooLong v step len) × (at ≡ length before))
IsRefused v step before place rest (KeptTooMuch at) =
    (length before < 1048576) × (HasTile rest (IsTooMuch v step before) × (at ≡ length before))
IsRefused v step before place rest Source = ⊥
IsRefused v step before place rest OutOfMemory = ⊥

-- The bytes begin with tiles that pass, something follows them, and it is refused so.
pub record IsStreamStop (v : Version) (step : ℕ) (bytes : List ℕ)
    (stop : StreamStop) : Type 0 where
  pub tiles : List Tile
  pub front : List ℕ
  pub rest : List ℕ
  pub joined : bytes ≡ front ++ rest
  pub stream : IsStream front tiles
  pub pass : AllPass v step tiles
  pub more : 0 < length rest
  pub refused : IsRefused v step tiles (length front) rest stop

-- What a stop tells of an input: its first refusal. Of an input that is not told a fault says
-- nothing, and any other refusal that it is the first of some bytes.
abbrev pub TellsStop : Version → ℕ → Option (List ℕ) → StreamStop → Type 0
TellsStop v step input TooManyTiles =
    OfBytes input (λ bytes. IsStreamStop v step bytes TooManyTiles)
TellsStop v step input (Fault f) = IfSome input (λ bytes. IsStreamStop v step bytes (Fault f))
TellsStop v step input (DepthNeedsV4 at) =
    OfBytes input (λ bytes. IsStreamStop v step bytes (DepthNeedsV4 at))
TellsStop v step input (TileTooLarge at len) =
    OfBytes input (λ bytes. IsStreamStop v step bytes (TileTooLarge at len))
TellsStop v step input (KeptTooMuch at) =
    OfBytes input (λ bytes. IsStreamStop v step bytes (KeptTooMuch at))
TellsStop v step input Source = Unit {0}
TellsStop v step input OutOfMemory = Unit {0}
