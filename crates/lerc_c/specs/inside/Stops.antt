-- Why a call stops.
use Rattle.std.specs.Prelude.{◌≡◌, ℕ, ◌*◌, ◌<◌, ◌≤◌, ◌⊎◌, List, length, drop, ◌++◌}
use Rattle.raster_cells.specs.declared.kind.PixelType.{PixelType}
use Rattle.raster_values.specs.Raster.{Pixels}
use Rattle.raster_cells.specs.Shapes.{HasZero, IsTooLarge}
use Rattle.lerc_header.specs.declared.header.Version.{Version}
use Rattle.lerc_header.specs.declared.header.Version.TheVariants.{V3}
use Rattle.lerc_decode.specs.Decoding.{HasHeader}
use Rattle.lerc_decode.specs.declared.streams.decoder.DecodeFault.{DecodeFault}
use Rattle.lerc_decode.specs.declared.streams.decoder.DecodeFault.TheVariants.{Blob}
use Rattle.lerc_decode.specs.declared.streams.decoder.DecodeFault.TheVariants.{OutOfMemory as NoMemory}
use Rattle.lerc_c.specs.declared.decoding.DecodeStop.{DecodeStop}
use Rattle.lerc_c.specs.declared.decoding.DecodeStop.TheVariants.{Refused, OutOfMemory, Sizes}
use Rattle.lerc_c.specs.declared.encoding.EncodeStop.{EncodeStop}
use Rattle.lerc_c.specs.declared.encoding.EncodeStop.TheVariants.{BadSizes, BadShape, TooLarge}
use Rattle.lerc_c.specs.declared.encoding.EncodeStop.TheVariants.{DepthNeedsV4, NoRoom}
use Rattle.lerc_c.specs.declared.encoding.EncodeStop.TheVariants.{OutOfMemory as OutOfRoom}
use Rattle.lerc_c.specs.Told.{IsRefused}
use Rattle.lerc_grammar.specs.Bands.{BandsFaultAt}
use Rattle.lerc_c.specs.declared.band_decoding.BandsDecodeStop.{BandsDecodeStop}
use Rattle.lerc_c.specs.declared.band_decoding.BandsDecodeStop.TheVariants.{Refused as TileRefused}
use Rattle.lerc_c.specs.declared.band_decoding.BandsDecodeStop.TheVariants.{OutOfMemory as NoBandMemory}
use Rattle.lerc_c.specs.declared.band_decoding.BandsDecodeStop.TheVariants.{Sizes as BandSizes}
use Rattle.lerc_c.specs.BandArrays.{AreAllowed, AreBandsMisfit, AreTooLong, GiveBandSizes}
use Rattle.lerc_c.specs.Arrays.{IsAllowed, IsMisfit, GivesSizes, IsBlobOf, IsTooLong}

abbrev pub IsRasterStop : List ℕ → DecodeFault → Type 0
IsRasterStop bytes (Blob f) = IsRefused bytes f.place f.reason
IsRasterStop bytes NoMemory = HasHeader bytes

abbrev pub IsArrayStop : List ℕ → ℕ → ℕ → DecodeStop → Type 0
IsArrayStop bytes values mask (Refused f) = IsRefused bytes f.place f.reason
IsArrayStop bytes values mask OutOfMemory = HasHeader bytes
IsArrayStop bytes values mask Sizes = IsMisfit bytes values mask

-- there are rasters of the shape, arrays of these lengths give one, and the version has a place for
-- the depths
pub record IsFit (kind : PixelType) (rows cols depth : ℕ) (version : Version) (values mask : ℕ) :
    Type 0 where
  pub allowed : IsAllowed rows cols depth
  pub sizes : GivesSizes kind rows cols depth values mask
  pub flat : version ≡ V3 → depth ≡ 1

-- what of them does not hold
abbrev pub IsArgumentStop : PixelType → ℕ → ℕ → ℕ → Version → ℕ → ℕ → EncodeStop → Type 0
IsArgumentStop kind rows cols depth version values mask BadShape = HasZero rows cols depth
IsArgumentStop kind rows cols depth version values mask TooLarge =
    (¬ HasZero rows cols depth) × IsTooLarge rows cols depth
IsArgumentStop kind rows cols depth version values mask BadSizes =
    IsAllowed rows cols depth × (¬ GivesSizes kind rows cols depth values mask)
IsArgumentStop kind rows cols depth version values mask DepthNeedsV4 =
    IsAllowed rows cols depth
    × (GivesSizes kind rows cols depth values mask × ((version ≡ V3) × (1 < depth)))
IsArgumentStop kind rows cols depth version values mask _ = ⊥

-- the raster's blob stands in front, and nothing behind it was changed
pub record IsWritten (r : Pixels) (version : Version) (step size : ℕ) (old new : List ℕ) :
    Type 0 where
  pub blob : List ℕ
  pub blob_of : IsBlobOf blob r version step
  pub size_is : size ≡ length blob
  pub room : size ≤ length old
  pub laid : new ≡ blob ++ drop size old

-- the raster's blob has so many bytes
pub record IsLong (r : Pixels) (version : Version) (step size : ℕ) : Type 0 where
  pub blob : List ℕ
  pub blob_of : IsBlobOf blob r version step
  pub size_is : size ≡ length blob

abbrev pub IsWriteStop : Pixels → Version → ℕ → ℕ → EncodeStop → Type 0
IsWriteStop r version step room DepthNeedsV4 = (version ≡ V3) × (1 < r.depth)
IsWriteStop r version step room OutOfRoom = Unit {0}
IsWriteStop r version step room (NoRoom size) = IsLong r version step size × (room < size)
IsWriteStop r version step room _ = ⊥

abbrev pub IsEncodeStop : PixelType → ℕ → ℕ → ℕ → List ℕ → List ℕ → Version → ℕ → ℕ → EncodeStop
    → Type 0
IsEncodeStop kind rows cols depth values mask version step room OutOfRoom =
    IsFit kind rows cols depth version (length values) (length mask)
IsEncodeStop kind rows cols depth values mask version step room (NoRoom size) =
    IsTooLong kind rows cols depth values mask version step size room
IsEncodeStop kind rows cols depth values mask version step room stop =
    IsArgumentStop kind rows cols depth version (length values) (length mask) stop

-- ---- bands

abbrev pub IsBandsArgumentStop : PixelType → ℕ → ℕ → ℕ → ℕ → Version → ℕ → ℕ → EncodeStop → Type 0
IsBandsArgumentStop kind rows cols depth n version values masks BadShape =
    HasZero rows cols depth ⊎ (n ≡ 0)
IsBandsArgumentStop kind rows cols depth n version values masks TooLarge =
    (¬ HasZero rows cols depth) × ((0 < n) × (IsTooLarge rows cols depth
    ⊎ ((16 < n) ⊎ (16777216 < n * (rows * cols * depth)))))
IsBandsArgumentStop kind rows cols depth n version values masks BadSizes =
    AreAllowed rows cols depth n × (¬ GiveBandSizes kind rows cols depth n values masks)
IsBandsArgumentStop kind rows cols depth n version values masks DepthNeedsV4 =
    AreAllowed rows cols depth n
    × (GiveBandSizes kind rows cols depth n values masks × ((version ≡ V3) × (1 < depth)))
IsBandsArgumentStop kind rows cols depth n version values masks _ = ⊥

-- there are so many bands of the shape, arrays of these lengths give them, and the version has a
-- place for the depths
pub record AreFit (kind : PixelType) (rows cols depth n : ℕ) (version : Version)
    (values masks : ℕ) : Type 0 where
  pub allowed : AreAllowed rows cols depth n
  pub sizes : GiveBandSizes kind rows cols depth n values masks
  pub flat : version ≡ V3 → depth ≡ 1

abbrev pub IsBandsEncodeStop : PixelType → ℕ → ℕ → ℕ → ℕ → List ℕ → List ℕ → Version → ℕ → ℕ
    → EncodeStop → Type 0
IsBandsEncodeStop kind rows cols depth n values masks version step room OutOfRoom =
    AreFit kind rows cols depth n version (length values) (length masks)
IsBandsEncodeStop kind rows cols depth n values masks version step room (NoRoom size) =
    AreTooLong kind rows cols depth n values masks version step size room
IsBandsEncodeStop kind rows cols depth n values masks version step room stop =
    IsBandsArgumentStop kind rows cols depth n version (length values) (length masks) stop

abbrev pub IsBandsArrayStop : List ℕ → ℕ → ℕ → ℕ → BandsDecodeStop → Type 0
IsBandsArrayStop bytes n values masks (TileRefused f) = BandsFaultAt bytes f.place f.reason
IsBandsArrayStop bytes n values masks NoBandMemory = HasHeader bytes
IsBandsArrayStop bytes n values masks BandSizes = AreBandsMisfit bytes n values masks

abbrev pub IsCountStop : List ℕ → BandsDecodeStop → Type 0
IsCountStop bytes (TileRefused f) = BandsFaultAt bytes f.place f.reason
IsCountStop bytes NoBandMemory = HasHeader bytes
IsCountStop bytes BandSizes = ⊥
