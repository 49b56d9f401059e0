-- Bands as arrays that lie band behind band.
use Rattle.std.specs.Prelude.{◌≡◌, ℕ, ◌*◌, ◌<◌, ◌≤◌, ◌⊎◌, List, [], ◌∷◌, ◌++◌, suc, length, take}
use Rattle.std.specs.Prelude.{All, drop, nat_lt, if◌then◌else◌}
use Rattle.raster_cells.specs.declared.kind.PixelType.{PixelType}
use Rattle.raster_values.specs.Raster.{Pixels}
use Rattle.raster_cells.specs.Shapes.{HasZero, IsTooLarge}
use Rattle.raster_values.specs.Bands.{AreBands}
use Rattle.lerc_header.specs.declared.header.Version.{Version}
use Rattle.lerc_encode.specs.Choice.{chosen_bands}
use Rattle.lerc_encode.specs.Encoded.{AreEncodedOnce, BandsNeedV4}
use Rattle.std.specs.Prelude.{None}
use Rattle.std.specs.List.{flat_map}
use Rattle.raster_cells.specs.Values.{values_bytes}
use Rattle.raster_values.specs.Flat.{all_values}
use Rattle.raster_values.specs.Order.{IsMaskOf}
use Rattle.lerc_grammar.specs.Bands.{BandsBlob}
use Rattle.lerc_c.specs.Arrays.{IsFull, IsGiven, values_size, mask_array_size}

-- part number i of an array whose parts have this size
abbrev pub part_at : ℕ → ℕ → List ℕ → List ℕ
part_at size i array = take size (drop (i * size) array)

-- the mask of band number i: none where there are no masks, the one where there is one for all, and
-- else its own
abbrev pub mask_for : ℕ → ℕ → List ℕ → List ℕ
mask_for size i masks = if nat_lt size (length masks) then part_at size i masks else masks

-- the arrays are these bands, the first of which has number k
abbrev pub AreGivenFrom : PixelType → ℕ → ℕ → ℕ → List ℕ → List ℕ → ℕ → List Pixels → Type 0
AreGivenFrom kind rows cols depth values masks k [] = Unit {0}
AreGivenFrom kind rows cols depth values masks k (r ∷ more) =
    IsGiven kind rows cols depth (part_at (values_size kind rows cols depth) k values)
    (mask_for (mask_array_size rows cols) k masks) r
    × AreGivenFrom kind rows cols depth values masks (suc k) more

-- the arrays are so many bands
pub record AreGiven (kind : PixelType) (rows cols depth n : ℕ) (values masks : List ℕ)
    (bands : List Pixels) : Type 0 where
  pub bands_are : AreBands bands
  pub count : length bands ≡ n
  pub each : AreGivenFrom kind rows cols depth values masks 0 bands

-- the array of values has the length of so many bands, and that of masks has no bytes, those of one
-- mask, or those of as many
pub record GiveBandSizes (kind : PixelType) (rows cols depth n values masks : ℕ) : Type 0 where
  pub values_are : values ≡ n * values_size kind rows cols depth
  pub masks_are : (masks ≡ 0)
      ⊎ ((masks ≡ mask_array_size rows cols) ⊎ (masks ≡ n * mask_array_size rows cols))

-- there are so many bands of the shape: 1 to 16, with at most 2 ^ 24 values together
pub record AreAllowed (rows cols depth n : ℕ) : Type 0 where
  pub no_zero : ¬ HasZero rows cols depth
  pub small : ¬ IsTooLarge rows cols depth
  pub some : 1 ≤ n
  pub few : n ≤ 16
  pub together : n * (rows * cols * depth) ≤ 16777216

-- the blobs of the bands that the arrays are, which have a place in the version, have so many
-- bytes: they are those that are chosen for the bands, and of exactly one list of bands, each near
-- the given one
pub record HaveBlobs (kind : PixelType) (rows cols depth n : ℕ) (values masks : List ℕ)
    (version : Version) (step size : ℕ) (blobs : List ℕ) : Type 0 where
  pub bands : List Pixels
  pub sizes : GiveBandSizes kind rows cols depth n (length values) (length masks)
  pub given : AreGiven kind rows cols depth n values masks bands
  pub fits : ¬ BandsNeedV4 version bands
  pub chosen : blobs ≡ chosen_bands None bands version step
  pub once : AreEncodedOnce blobs bands step
  pub size_is : size ≡ length blobs

-- they stand in front of the array, and nothing behind them was changed
abbrev pub AreEncodedInto : PixelType → ℕ → ℕ → ℕ → ℕ → List ℕ → List ℕ → Version → ℕ → ℕ
    → List ℕ → List ℕ → Type 0
AreEncodedInto kind rows cols depth n values masks version step size old new =
    (blobs : List ℕ) × (HaveBlobs kind rows cols depth n values masks version step size blobs
    × ((size ≤ length old) × (new ≡ blobs ++ drop size old)))

-- they are longer than the array
abbrev pub AreTooLong : PixelType → ℕ → ℕ → ℕ → ℕ → List ℕ → List ℕ → Version → ℕ → ℕ → ℕ → Type 0
AreTooLong kind rows cols depth n values masks version step size room =
    (blobs : List ℕ) × (HaveBlobs kind rows cols depth n values masks version step size blobs
    × (room < size))

-- ---- blobs in

-- the bytes of the masks of these rasters, one behind the other
abbrev pub AreMasks : List ℕ → List Pixels → Type 0
AreMasks bytes [] = bytes ≡ []
AreMasks bytes (r ∷ more) = (front : List ℕ) × ((rest : List ℕ) ×
    ((bytes ≡ front ++ rest) × (IsMaskOf r front × AreMasks rest more)))

-- the bytes of all values of a raster, 0 at the places of invalid pixels
abbrev pub cells_of : Pixels → List ℕ
cells_of r = values_bytes r.kind (all_values r)

-- so many bands are asked for, and the arrays are as long as they ask for
abbrev pub HaveBandSizes : List Pixels → ℕ → ℕ → ℕ → Type 0
HaveBandSizes [] n values masks = ⊥
HaveBandSizes (r ∷ more) n values masks = (n ≡ length (r ∷ more))
    × ((values ≡ n * values_size r.kind r.rows r.cols r.depth)
    × (masks ≡ n * mask_array_size r.rows r.cols))

-- the bytes are the blobs of so many bands, and the arrays have their values and their masks, band
-- behind band
pub record AreBandsDecoded (bytes : List ℕ) (n : ℕ) (values masks : List ℕ) : Type 0 where
  pub bands : List Pixels
  pub blobs : BandsBlob bytes bands
  pub count : length bands ≡ n
  pub values_are : values ≡ flat_map cells_of bands
  pub masks_are : AreMasks masks bands

-- every pixel of each band is valid, there is no array of masks, and that of values is as long as
-- so many bands ask for
pub record NeedNoMasks (bands : List Pixels) (n values masks : ℕ) : Type 0 where
  pub none : masks ≡ 0
  pub full : All IsFull bands
  pub fit : (size : ℕ) × HaveBandSizes bands n values size

-- the bytes are the blobs of so many bands every pixel of which is valid, the array of values has
-- theirs, and there is no array of masks
pub record AreWholeBandsDecoded (bytes : List ℕ) (n : ℕ) (values : List ℕ) (masks : ℕ) :
    Type 0 where
  pub bands : List Pixels
  pub blobs : BandsBlob bytes bands
  pub count : length bands ≡ n
  pub none : masks ≡ 0
  pub full : All IsFull bands
  pub values_are : values ≡ flat_map cells_of bands

-- the one or the other
abbrev pub AreBandsDecodedInto : List ℕ → ℕ → List ℕ → List ℕ → Type 0
AreBandsDecodedInto bytes n values masks =
    AreBandsDecoded bytes n values masks ⊎ AreWholeBandsDecoded bytes n values (length masks)

-- the bytes are the blobs of bands, of another number than is asked for or for other arrays, with
-- masks or without
pub record AreBandsMisfit (bytes : List ℕ) (n values masks : ℕ) : Type 0 where
  pub bands : List Pixels
  pub blobs : BandsBlob bytes bands
  pub other : ¬ HaveBandSizes bands n values masks
  pub needed : ¬ NeedNoMasks bands n values masks
