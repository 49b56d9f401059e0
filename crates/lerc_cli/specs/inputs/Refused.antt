-- Inputs: what a whole input is to be, and what is wrong in it first.
use Rattle.std.specs.Prelude.{◌≡◌, ℕ, ◌<◌, List, ◌++◌, length, Option}
use Rattle.raster_values.specs.Raster.{Pixels}
use Rattle.raster_grids.specs.BandsGrid.{IsBandsGrid, bands_faults}
use Rattle.lerc_header.specs.declared.header.Header.{Header}
use Rattle.lerc_header.specs.declared.header.Version.{Version}
use Rattle.lerc_header.specs.declared.header.Version.TheVariants.{V3}
use Rattle.lerc_header.specs.Head.{HeadAt}
use Rattle.lerc_encode.specs.Encoded.{BandsNeedV4}
use Rattle.lerc_grammar.specs.declared.bands.BandReason.{BandReason}
use Rattle.lerc_grammar.specs.declared.bands.BandReason.TheVariants.{Blob as OfBlob, BadBand as UnlikeBand}
use Rattle.lerc_grammar.specs.Bands.{BandsBlob, BandsFaultAt}
use Rattle.tile_stream.specs.declared.tile.TileReason.{TileReason}
use Rattle.tile_stream.specs.declared.tile.TileReason.TheVariants.{BadTileMark as NoTileMark, BadSlot as NoSlot, Grid as NoTileGrid}
use Rattle.tile_updates.specs.declared.stop.StreamStop.{StreamStop}
use Rattle.tile_updates.specs.declared.stop.StreamStop.TheVariants.{TooManyTiles as ManyTiles, Fault as TileFaultOf, DepthNeedsV4 as DeepTile, TileTooLarge as LargeTile, KeptTooMuch as MuchKept, Source as StreamSource, OutOfMemory as StreamMemory}
use Rattle.tile_updates.specs.Stops.{TellsStop}
use Rattle.program_ends.specs.declared.stop.Stop.{Stop}
use Rattle.program_ends.specs.declared.stop.Stop.TheVariants.{Source, OutOfMemory, Refused}
use Rattle.lerc_cli.specs.declared.refusal.Fault.{Fault}
use Rattle.lerc_cli.specs.declared.refusal.Reason.{Reason}
use Rattle.lerc_cli.specs.declared.refusal.Reason.TheVariants.{Blob as BlobReasonOf, BadBand, Grid, Leftover, DepthNeedsV4, BadTileMark, BadSlot}
use Rattle.lerc_cli.specs.declared.refusal.Refusal.{Refusal}
use Rattle.lerc_cli.specs.declared.refusal.Refusal.TheVariants.{Input, Stream}
use Rattle.lerc_cli.specs.declared.refusal.StreamRefusal.TheVariants.{TileTooLarge, TooManyTiles, KeptTooMuch}
use Rattle.lerc_cli.specs.inputs.Given.{Given, OfInput}

-- the bytes are the blobs of some bands
abbrev pub IsBandsBlob : List ℕ → Type 0
IsBandsBlob bytes = (bands : List Pixels) × BandsBlob bytes bands

-- a lawful header stands whole
abbrev pub HasHead : List ℕ → Type 0
HasHead bytes = (h : Header) × HeadAt bytes h

-- what is wrong in blobs of bands, as a reason
abbrev pub band_reason_of : BandReason → Reason
band_reason_of (OfBlob reason) = BlobReasonOf reason
band_reason_of UnlikeBand = BadBand

-- this is the first fault of the whole input, which is to be the blobs of bands
abbrev pub IsNoBandsBlob : Given → Fault → Type 0
IsNoBandsBlob g fault = (reason : BandReason) × ((fault.reason ≡ band_reason_of reason)
    × OfInput g (λ bytes. BandsFaultAt bytes fault.place reason))

-- a grid stands in front of the bytes, it ends at the place, and something follows
pub record EndsBefore (bytes : List ℕ) (place : ℕ) : Type 0 where
  pub bands : List Pixels
  pub grid : List ℕ
  pub rest : List ℕ
  pub joined : bytes ≡ grid ++ rest
  pub stands : IsBandsGrid grid bands
  pub ends : place ≡ length grid
  pub more : 0 < length rest

-- this is the first fault of the whole input, which is to be one grid
abbrev pub IsNoGrid : Given → ℕ → Reason → Type 0
IsNoGrid g place (Grid reason) = OfInput g (λ bytes. bands_faults bytes place reason)
IsNoGrid g place Leftover = OfInput g (λ bytes. EndsBefore bytes place)
IsNoGrid g place reason = ⊥

-- The same of an input whose bands are to be encoded, which comes last. Its place is that of the
-- number of depths.
abbrev pub IsNotEncoded : Version → Given → ℕ → Reason → Type 0
IsNotEncoded version g place DepthNeedsV4 = (place ≡ 13) × (version ≡ V3)
    × OfInput g (λ bytes. (bands : List Pixels)
    × (IsBandsGrid bytes bands × BandsNeedV4 version bands))
IsNotEncoded version g place reason = IsNoGrid g place reason

-- what is wrong in a tile, as a reason
abbrev pub tile_reason_of : TileReason → Reason
tile_reason_of NoTileMark = BadTileMark
tile_reason_of NoSlot = BadSlot
tile_reason_of (NoTileGrid reason) = Grid reason

-- why an input of tiles has no updates, as a stop
abbrev pub stream_stop_of : StreamStop → Stop Refusal
stream_stop_of ManyTiles = Refused (Stream TooManyTiles)
stream_stop_of (TileFaultOf fault) =
    Refused (Input (record { reason = tile_reason_of fault.reason; place = fault.place }))
stream_stop_of (DeepTile place) =
    Refused (Input (record { reason = DepthNeedsV4; place = place }))
stream_stop_of (LargeTile at len) = Refused (Stream (TileTooLarge at len))
stream_stop_of (MuchKept at) = Refused (Stream (KeptTooMuch at))
stream_stop_of StreamSource = Source
stream_stop_of StreamMemory = OutOfMemory

-- this is the first refusal of the input's tiles
abbrev pub IsNoUpdates : Version → ℕ → Option (List ℕ) → Stop Refusal → Type 0
IsNoUpdates version step input stop = (refused : StreamStop)
    × ((stop ≡ stream_stop_of refused) × TellsStop version step input refused)
