-- A walk over the blobs of a tile, whose bands are laid into arrays.
use Rattle.std.specs.Prelude.{◌≡◌, ℕ, ◌+◌, ◌-◌, ◌*◌, ◌<◌, ◌≤◌, List, ◌++◌, length, drop, take}
use Rattle.std.specs.Prelude.{Some, None, Result, Ok, Err}
use Rattle.first_fault.specs.Parts.{IsEmpty}
use Rattle.raster_values.specs.Raster.{Pixels, IsRaster}
use Rattle.raster_values.specs.Order.{IsMaskOf}
use Rattle.raster_values.specs.Bands.{MayBeBands}
use Rattle.lerc_header.specs.declared.header.Header.{Header}
use Rattle.lerc_header.specs.declared.fault.BlobReason.TheVariants.{Leftover}
use Rattle.lerc_header.specs.HeadFaults.{HasKey}
use Rattle.lerc_grammar.specs.declared.bands.BandReason.TheVariants.{Blob as OfBlob}
use Rattle.lerc_grammar.specs.Mask.{previous_of}
use Rattle.lerc_grammar.specs.Bands.{BlobsAfter, last_after, unlike_faults}
use Rattle.lerc_decode.specs.OverBands.{HoldBands, band_bytes, mask_bytes}
use Rattle.lerc_decode.specs.declared.over_bands.BandsOverFault.{BandsOverFault}
use Rattle.lerc_decode.specs.declared.over_bands.BandsOverFault.TheVariants.{Tile, Sizes, Count}
use Rattle.lerc_decode.specs.inside.Body.{HasHeadShape}
use Rattle.lerc_decode.specs.inside.OverNext.{IsNextBand}

-- the last `size` bytes of the first `end`
abbrev pub last_part : ℕ → ℕ → List ℕ → List ℕ
last_part size end bytes = take size (drop (end - size) bytes)

-- they are the mask of the last of these bands, which has the first header's type and shape
pub record IsLastMask (bands : List Pixels) (first : Header) (masks : List ℕ) (end : ℕ) :
    Type 0 where
  pub raster : Pixels
  pub sound : IsRaster raster
  pub last : last_after None bands ≡ Some (previous_of raster)
  pub shape : HasHeadShape first raster
  pub mask : IsMaskOf raster (last_part (mask_bytes first) end masks)

-- so many blobs stand in the first `at` bytes of a tile, and the arrays begin with their bands
pub record HaveFront (tile : List ℕ) (at : ℕ) (first : Header) (n : ℕ) (values masks : List ℕ) :
    Type 0 where
  pub bands : List Pixels
  pub count : length bands ≡ n
  pub some : 1 ≤ n
  pub within : at ≤ length tile
  pub may_be : MayBeBands bands
  pub stand : BlobsAfter None (take at tile) bands
  pub like : (n + 1) * (first.rows * first.cols * first.depth) ≤ 16777216 →
      IsEmpty (unlike_faults bands first)
  pub held : HoldBands bands (take (n * band_bytes first) values)
      (take (n * mask_bytes first) masks)
  pub last : IsLastMask bands first masks (n * mask_bytes first)

-- the blob behind these bands is laid behind the `count` bands of the arrays
pub record IsBandLaid (bands : List Pixels) (first : Header) (rest : List ℕ) (size count : ℕ)
    (old_values old_masks new_values new_masks : List ℕ) : Type 0 where
  pub own : List ℕ
  pub mask : List ℕ
  pub next : IsNextBand bands first rest size own mask
  pub own_size : length own ≡ band_bytes first
  pub mask_size : length mask ≡ mask_bytes first
  pub values : new_values ≡ take (count * band_bytes first) old_values
      ++ (own ++ drop (count * band_bytes first + band_bytes first) old_values)
  pub masks : new_masks ≡ take (count * mask_bytes first) old_masks
      ++ (mask ++ drop (count * mask_bytes first + mask_bytes first) old_masks)

-- behind so many blobs: nothing, the key of a further one, or other bytes
abbrev pub IsEndAt : List ℕ → ℕ → ℕ → Result (Unit {0}) BandsOverFault → Type 0
IsEndAt tile at n (Ok u) = at ≡ length tile
IsEndAt tile at n (Err Count) = (n < 16) × HasKey (drop at tile)
IsEndAt tile at n (Err Sizes) = ⊥
IsEndAt tile at n (Err (Tile f)) = (f ≡ record { reason = OfBlob Leftover; place = at })
    × ((at < length tile) × (n < 16 → ¬ HasKey (drop at tile)))
