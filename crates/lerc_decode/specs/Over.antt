-- What decoding bytes that lie whole in memory answers, and decoding them into a caller's arrays.
use Rattle.std.specs.Prelude.{◌≡◌, ℕ, ◌*◌, ◌⊎◌, List, length}
use Rattle.raster_cells.specs.PixelType.{bytes_of}
use Rattle.raster_values.specs.Raster.{Pixels}
use Rattle.raster_cells.specs.Values.{values_bytes}
use Rattle.raster_values.specs.Flat.{all_values}
use Rattle.raster_values.specs.Order.{IsMaskOf}
use Rattle.lerc_header.specs.declared.header.Header.{Header}
use Rattle.lerc_header.specs.declared.fault.BlobFault.{BlobFault}
use Rattle.lerc_header.specs.declared.fault.BlobReason.TheVariants.{Truncated}
use Rattle.lerc_header.specs.Head.{HeadAt}
use Rattle.lerc_grammar.specs.Mask.{mask_size}
use Rattle.lerc_grammar.specs.Verdict.{FirstFault, IsDone, IsMore}
use Rattle.lerc_decode.specs.Decoding.{HasHeader}
use Rattle.lerc_decode.specs.declared.streams.decoder.DecodeFault.{DecodeFault}
use Rattle.lerc_decode.specs.declared.streams.decoder.DecodeFault.TheVariants.{Blob as BlobOf, OutOfMemory}
use Rattle.lerc_decode.specs.declared.over.OverFault.{OverFault}
use Rattle.lerc_decode.specs.declared.over.OverFault.TheVariants.{Blob, Sizes}

-- the arrays have the bytes of all values of the raster, 0 where a pixel is invalid, and its mask
pub record HoldRaster (r : Pixels) (values mask : List ℕ) : Type 0 where
  pub values_are : values ≡ values_bytes r.kind (all_values r)
  pub mask_is : IsMaskOf r mask

-- the first `size` bytes are a blob, and the arrays hold its raster
abbrev pub IsDecodedOver : List ℕ → ℕ → List ℕ → List ℕ → Type 0
IsDecodedOver bytes size values mask =
    (r : Pixels) × (IsDone bytes r size × HoldRaster r values mask)

-- the arrays have as many bytes as a raster of the header's type and shape asks for
pub record HaveRoom (h : Header) (values mask : ℕ) : Type 0 where
  pub values_size : values ≡ h.rows * h.cols * h.depth * bytes_of h.kind
  pub masks_size : mask ≡ mask_size (h.rows * h.cols)

-- the bytes begin with a lawful header, which asks for arrays of other lengths
pub record AskOtherRoom (bytes : List ℕ) (values mask : ℕ) : Type 0 where
  pub header : Header
  pub stands : HeadAt bytes header
  pub other : ¬ HaveRoom header values mask

-- the bytes decide this fault, or they end before anything is decided
abbrev pub IsFaultOf : List ℕ → BlobFault → Type 0
IsFaultOf bytes f = FirstFault bytes f.place f.reason
    ⊎ (IsMore bytes × (f ≡ record { reason = Truncated; place = length bytes }))

-- why there is no raster: memory is wanted only behind a lawful header
abbrev pub IsDecodeStop : List ℕ → DecodeFault → Type 0
IsDecodeStop bytes (BlobOf f) = IsFaultOf bytes f
IsDecodeStop bytes OutOfMemory = HasHeader bytes

-- why there is nothing in the arrays
abbrev pub IsOverStop : List ℕ → ℕ → ℕ → OverFault → Type 0
IsOverStop bytes values mask (Blob f) = IsFaultOf bytes f
IsOverStop bytes values mask Sizes = AskOtherRoom bytes values mask
