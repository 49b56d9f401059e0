-- What decoding a tile of bands into a caller's arrays answers.
use Rattle.std.specs.Prelude.{◌≡◌, ℕ, ◌*◌, ◌<◌, ◌≤◌, ◌⊎◌, List, [], ◌∷◌, ◌++◌, length, None}
use Rattle.raster_cells.specs.PixelType.{bytes_of}
use Rattle.raster_values.specs.Raster.{Pixels}
use Rattle.raster_values.specs.Bands.{MayBeBands}
use Rattle.lerc_header.specs.declared.header.Header.{Header}
use Rattle.lerc_header.specs.Head.{HeadAt}
use Rattle.lerc_header.specs.HeadFaults.{HasKey}
use Rattle.lerc_grammar.specs.Mask.{mask_size}
use Rattle.lerc_grammar.specs.Bands.{BandsBlob, BandsFaultAt, BlobsAfter}
use Rattle.lerc_decode.specs.Over.{HoldRaster}
use Rattle.lerc_decode.specs.declared.over_bands.BandsOverFault.{BandsOverFault}
use Rattle.lerc_decode.specs.declared.over_bands.BandsOverFault.TheVariants.{Tile, Sizes, Count}

-- how many bytes the values and the mask of one raster of the header's type and shape take
abbrev pub band_bytes : Header → ℕ
band_bytes h = h.rows * h.cols * h.depth * bytes_of h.kind

abbrev pub mask_bytes : Header → ℕ
mask_bytes h = mask_size (h.rows * h.cols)

-- the arrays have the values and the masks of these bands, band behind band
abbrev pub HoldBands : List Pixels → List ℕ → List ℕ → Type 0
HoldBands [] values masks = (values ≡ []) × (masks ≡ [])
HoldBands (r ∷ more) values masks =
    (own : List ℕ) × ((others : List ℕ) × ((mask : List ℕ) × ((later : List ℕ) ×
    ((values ≡ own ++ others) × ((masks ≡ mask ++ later) ×
    (HoldRaster r own mask × HoldBands more others later))))))

-- the bytes are the blobs of so many bands, and the arrays hold these
pub record AreDecodedOver (bytes : List ℕ) (n : ℕ) (values masks : List ℕ) : Type 0 where
  pub bands : List Pixels
  pub blobs : BandsBlob bytes bands
  pub count : length bands ≡ n
  pub held : HoldBands bands values masks

-- a tile may have so many bands of the header's type and shape, and the arrays have as many bytes
-- as these ask for
pub record HaveBandsRoom (h : Header) (n values masks : ℕ) : Type 0 where
  pub some : 1 ≤ n
  pub few : n ≤ 16
  pub together : n * (h.rows * h.cols * h.depth) ≤ 16777216
  pub values_size : values ≡ n * band_bytes h
  pub masks_size : masks ≡ n * mask_bytes h

-- the bytes begin with a lawful header, of which a tile may not have so many bands, or which asks
-- for arrays of other lengths
pub record AskOtherBandsRoom (bytes : List ℕ) (n values masks : ℕ) : Type 0 where
  pub header : Header
  pub stands : HeadAt bytes header
  pub other : ¬ HaveBandsRoom header n values masks

-- so many blobs stand in front, and the key of a further one follows; or the bytes are fewer blobs
pub record AreOtherBands (bytes : List ℕ) (n : ℕ) : Type 0 where
  pub bands : List Pixels
  pub front : List ℕ
  pub rest : List ℕ
  pub joined : bytes ≡ front ++ rest
  pub some : 0 < length bands
  pub may_be : MayBeBands bands
  pub stand : BlobsAfter None front bands
  pub other : ((length bands ≡ n) × ((n < 16) × HasKey rest))
      ⊎ ((length bands < n) × (rest ≡ []))

-- why there are no such bands in the arrays
abbrev pub IsBandsOverStop : List ℕ → ℕ → ℕ → ℕ → BandsOverFault → Type 0
IsBandsOverStop bytes n values masks (Tile f) = BandsFaultAt bytes f.place f.reason
IsBandsOverStop bytes n values masks Sizes = AskOtherBandsRoom bytes n values masks
IsBandsOverStop bytes n values masks Count = AreOtherBands bytes n
