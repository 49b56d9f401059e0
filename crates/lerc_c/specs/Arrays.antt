-- Rasters as arrays of their values and of the bytes of their masks.
use Rattle.std.specs.Prelude.{◌≡◌, ℕ, ◌+◌, ◌*◌, ◌/◌, ◌<◌, ◌≤◌, ◌⊎◌, Bool, true, List, length, get_or}
use Rattle.std.specs.Prelude.{drop, ◌++◌, is_some, None, nat_eq, if◌then◌else◌}
use Rattle.raster_cells.specs.declared.kind.PixelType.{PixelType}
use Rattle.raster_cells.specs.PixelType.{bytes_of, code_of, Spells}
use Rattle.raster_values.specs.Raster.{Pixels, IsRaster, valid_count}
use Rattle.raster_cells.specs.Shapes.{HasZero, IsTooLarge}
use Rattle.raster_cells.specs.Values.{values_bytes}
use Rattle.raster_values.specs.Flat.{all_values, value_in}
use Rattle.raster_cells.specs.Masks.{mask_bit}
use Rattle.raster_values.specs.Order.{IsMaskOf}
use Rattle.lerc_header.specs.declared.header.Version.{Version}
use Rattle.lerc_header.specs.Head.{version_number}
use Rattle.lerc_grammar.specs.Verdict.{IsDone}
use Rattle.lerc_encode.specs.Encoded.{IsEncodedOnce, NeedsV4}
use Rattle.lerc_encode.specs.Choice.{chosen_blob}

-- ---- how long the arrays are

-- a value for each pixel and depth, in the width of the type
abbrev pub values_size : PixelType → ℕ → ℕ → ℕ → ℕ
values_size kind rows cols depth = rows * cols * depth * bytes_of kind

-- a bit for each pixel
abbrev pub mask_array_size : ℕ → ℕ → ℕ
mask_array_size rows cols = (rows * cols + 7) / 8

pub record HaveSizes (r : Pixels) (values mask : ℕ) : Type 0 where
  pub values_is : values ≡ values_size r.kind r.rows r.cols r.depth
  pub mask_is : mask ≡ mask_array_size r.rows r.cols

-- every pixel is valid
abbrev pub IsFull : Pixels → Type 0
IsFull r = valid_count r ≡ r.rows * r.cols

-- and there is no array of a mask, which then says nothing that is not known
pub record NeedsNoMask (r : Pixels) (values mask : ℕ) : Type 0 where
  pub none : mask ≡ 0
  pub full : IsFull r
  pub values_is : values ≡ values_size r.kind r.rows r.cols r.depth

-- ---- a blob in

-- some first bytes are a blob, and the arrays have the values of its raster, 0 where a pixel is
-- invalid, and its mask
pub record AreDecoded (bytes values mask : List ℕ) : Type 0 where
  pub raster : Pixels
  pub size : ℕ
  pub done : IsDone bytes raster size
  pub values_are : values ≡ values_bytes raster.kind (all_values raster)
  pub mask_is : IsMaskOf raster mask

-- some first bytes are a blob every pixel of which is valid, the array of values has those of its
-- raster, and there is no array of a mask
pub record AreWholeDecoded (bytes values : List ℕ) (mask : ℕ) : Type 0 where
  pub raster : Pixels
  pub size : ℕ
  pub done : IsDone bytes raster size
  pub none : mask ≡ 0
  pub full : IsFull raster
  pub values_are : values ≡ values_bytes raster.kind (all_values raster)

-- the one or the other
abbrev pub AreDecodedInto : List ℕ → List ℕ → List ℕ → Type 0
AreDecodedInto bytes values mask =
    AreDecoded bytes values mask ⊎ AreWholeDecoded bytes values (length mask)

-- some first bytes are a blob, and the arrays are not as long as its raster asks for, with a mask
-- or without one
pub record IsMisfit (bytes : List ℕ) (values mask : ℕ) : Type 0 where
  pub raster : Pixels
  pub size : ℕ
  pub done : IsDone bytes raster size
  pub other : ¬ HaveSizes raster values mask
  pub needed : ¬ NeedsNoMask raster values mask

-- ---- a blob out

-- the bits say which pixels are valid; where there are none, all are
abbrev pub mark_at : List ℕ → ℕ → Bool
mark_at mask k = if nat_eq (length mask) 0 then true else mask_bit mask k

-- the arrays are this raster
pub record IsGiven (kind : PixelType) (rows cols depth : ℕ) (values mask : List ℕ)
    (r : Pixels) : Type 0 where
  pub raster : IsRaster r
  pub kind_is : r.kind ≡ kind
  pub rows_are : r.rows ≡ rows
  pub cols_are : r.cols ≡ cols
  pub depth_is : r.depth ≡ depth
  pub marks : (k : ℕ) → k < rows * cols → is_some (get_or r.pixels k None) ≡ mark_at mask k
  pub each : (k d : ℕ) → k < rows * cols → mark_at mask k ≡ true → d < depth
      → Spells kind (drop ((k * depth + d) * bytes_of kind) values) (value_in r d k)

-- the array of values has the length of such a raster's, and that of mask bytes too, or none
pub record GivesSizes (kind : PixelType) (rows cols depth values mask : ℕ) : Type 0 where
  pub values_is : values ≡ values_size kind rows cols depth
  pub mask_is : (mask ≡ 0 → ⊥) → mask ≡ mask_array_size rows cols

-- there are rasters of the shape
abbrev pub IsAllowed : ℕ → ℕ → ℕ → Type 0
IsAllowed rows cols depth = (¬ HasZero rows cols depth) × (¬ IsTooLarge rows cols depth)

-- the blob that is chosen for a raster, which has a place in the version: a blob of exactly one
-- raster near it
pub record IsBlobOf (blob : List ℕ) (r : Pixels) (version : Version) (step : ℕ) : Type 0 where
  pub fits : ¬ NeedsV4 version r
  pub chosen : blob ≡ chosen_blob r version step
  pub once : IsEncodedOnce blob r step

-- the blob of the raster that the arrays are has so many bytes
pub record HasBlob (kind : PixelType) (rows cols depth : ℕ) (values mask : List ℕ)
    (version : Version) (step size : ℕ) (blob : List ℕ) : Type 0 where
  pub raster : Pixels
  pub sizes : GivesSizes kind rows cols depth (length values) (length mask)
  pub given : IsGiven kind rows cols depth values mask raster
  pub blob_of : IsBlobOf blob raster version step
  pub size_is : size ≡ length blob

-- it stands in front of the array, and nothing behind it was changed
abbrev pub IsEncoded : PixelType → ℕ → ℕ → ℕ → List ℕ → List ℕ → Version → ℕ → ℕ → List ℕ
    → List ℕ → Type 0
IsEncoded kind rows cols depth values mask version step size old new =
    (blob : List ℕ) × (HasBlob kind rows cols depth values mask version step size blob
    × ((size ≤ length old) × (new ≡ blob ++ drop size old)))

-- it is longer than the array
abbrev pub IsTooLong : PixelType → ℕ → ℕ → ℕ → List ℕ → List ℕ → Version → ℕ → ℕ → ℕ → Type 0
IsTooLong kind rows cols depth values mask version step size room =
    (blob : List ℕ) × (HasBlob kind rows cols depth values mask version step size blob
    × (room < size))

-- ---- the numbers of a type and a version

-- a type has the number, and P holds of it
abbrev pub WithKind : ℕ → (PixelType → Type 0) → Type 0
WithKind number P = (kind : PixelType) × ((number ≡ code_of kind) × P kind)

abbrev pub WithVersion : ℕ → (Version → Type 0) → Type 0
WithVersion number P = (version : Version) × ((number ≡ version_number version) × P version)

-- both numbers name something
abbrev pub AreNamed : ℕ → ℕ → Type 0
AreNamed kind version =
    WithKind kind (λ _. Unit {0}) × WithVersion version (λ _. Unit {0})
