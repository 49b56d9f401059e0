-- A raster by the numbers of its pixels: row by row, from 0.
use Rattle.std.specs.Prelude.{[], Bool, List, map, is_some, ℕ, ℤ, pos, get_or, None, unwrap_or, ◌<◌, length, IfSome, ◌≡◌, ◌≤◌, ◌+◌, ◌*◌, true, ◌∷◌, Option, Some, replicate, drop, ◌-◌, min, false, take, All}
use Rattle.std.specs.List.{filter, range_with_len, flat_map, count_by}
use Rattle.raster_cells.specs.PixelType.{Spells, bytes_of, InRange}
use Rattle.raster_cells.specs.Values.{values_bytes}
use Rattle.raster_cells.specs.declared.kind.PixelType.{PixelType}
use Rattle.raster_cells.specs.Shapes.{IsShape}
use Rattle.raster_cells.specs.Masks.{marks_in}
use Rattle.raster_values.specs.Raster.{Pixels, IsRaster, values_of}
use Rattle.raster_values.specs.Block.{SameMask, block_values}
use Rattle.raster_values.specs.Places.{SameShape}
use Rattle.raster_values.specs.Order.{MarksBits, IsMaskOf}

-- which pixels are valid
abbrev pub marks_of : Pixels → List Bool
marks_of r = map is_some r.pixels

-- the value at a depth of pixel number k, and 0 of an invalid one
abbrev pub value_in : Pixels → ℕ → ℕ → ℤ
value_in r d k = get_or (unwrap_or (get_or r.pixels k None) []) d (pos 0)

-- the numbers of the valid ones among n pixels from number k on
abbrev pub valid_from : Pixels → ℕ → ℕ → List ℕ
valid_from r k n = filter (λ i. is_some (get_or r.pixels i None)) (range_with_len k n)

-- their values at a depth
abbrev pub values_among : Pixels → ℕ → ℕ → ℕ → List ℤ
values_among r d k n = map (value_in r d) (valid_from r k n)

-- each valid pixel has such values
abbrev pub EachValid : Pixels → (List ℤ → Type 0) → Type 0
EachValid r P = (k : ℕ) → k < length r.pixels → IfSome (get_or r.pixels k None) P

-- The valid ones among the pixels from number `place` on have these values at a depth. All else is
-- as it was: type, shape, mask, and every other value.
pub record PutsFrom (old new : Pixels) (place d : ℕ) (values : List ℤ) : Type 0 where
  pub same : SameMask old new
  pub put : (i : ℕ) → i < length values → is_some (get_or old.pixels (place + i) None) ≡ true
      → value_in new d (place + i) ≡ get_or values i (pos 0)
  pub rest : (k e : ℕ) → k < old.rows * old.cols → e < old.depth
      → (place ≤ k → k < place + length values → e ≡ d → ⊥) → value_in new e k ≡ value_in old e k

-- ---- the values at one depth

-- the value of a pixel at a depth, where it is valid
abbrev pub at_depth : ℕ → Option (List ℤ) → List ℤ
at_depth d None = []
at_depth d (Some values) = get_or values d (pos 0) ∷ []

-- the values of the valid pixels at one depth, row by row
unfoldable pub depth_values : Pixels → ℕ → List ℤ
depth_values r d = flat_map (at_depth d) r.pixels

-- ---- the values of all pixels

-- one list for each pixel, row by row: the values of a valid one, and 0 at each depth of an invalid
-- one
unfoldable pub all_values : Pixels → List ℤ
all_values r = flat_map (λ p. unwrap_or p (replicate r.depth (pos 0))) r.pixels

-- The valid pixels have the values that the bytes stand for, which are the bytes of the values of
-- all pixels: those at the places of invalid ones are free.
pub record PutsAll (old new : Pixels) (bytes : List ℕ) : Type 0 where
  pub same : SameMask old new
  pub put : (k d : ℕ) → k < old.rows * old.cols → is_some (get_or old.pixels k None) ≡ true
      → d < old.depth
      → Spells old.kind (drop ((k * old.depth + d) * bytes_of old.kind) bytes) (value_in new d k)

-- where each value stands among all, and how many these are
pub record AllStand (r : Pixels) : Type 0 where
  pub size : length (all_values r) ≡ r.rows * r.cols * r.depth
  pub each : (k d : ℕ) → k < r.rows * r.cols → d < r.depth
      → get_or (all_values r) (k * r.depth + d) (pos 0) ≡ value_in r d k

abbrev pub AllValuesStand : Type 0
AllValuesStand = (r : Pixels) → IsRaster r → AllStand r

-- no two rasters come of one putting of all values
abbrev pub PuttingAllIsOne : Type 0
PuttingAllIsOne = (old r s : Pixels) (bytes : List ℕ) → IsRaster r → IsRaster s
    → PutsAll old r bytes → PutsAll old s bytes → r ≡ s

-- the values of all pixels of a raster, put into one with its mask, give the raster
abbrev pub AllPutGive : Type 0
AllPutGive = (r old new : Pixels) → IsRaster r → IsRaster new → SameMask r old
    → PutsAll old new (values_bytes r.kind (all_values r)) → new ≡ r

-- ---- other values at the same valid pixels

abbrev pub new_pixel : ℕ → (ℕ → ℤ → ℤ) → Option (List ℤ) → Option (List ℤ)
new_pixel depth g None = None
new_pixel depth g (Some values) =
    Some (map (λ d. g d (get_or values d (pos 0))) (range_with_len 0 depth))

-- pixel number k has g k d v at the depth d where it had v
unfoldable pub revalued : Pixels → (ℕ → ℕ → ℤ → ℤ) → Pixels
revalued r g =
    record r {
      pixels = map
          (λ k. new_pixel r.depth (g k) (get_or r.pixels k None))
          (range_with_len 0 (length r.pixels));
    }

-- ---- blocks

-- the numbers of the pixels of the block of `side` rows and columns from (row, col) on, cut off at
-- the edges
abbrev pub block_numbers : Pixels → ℕ → ℕ → ℕ → List ℕ
block_numbers r row col side = flat_map
    (λ i. map
    (λ j. i * r.cols + j) (range_with_len col (min side (r.cols - col))))
    (range_with_len row (min side (r.rows - row)))

-- those of its valid pixels
abbrev pub valid_numbers : Pixels → ℕ → ℕ → ℕ → List ℕ
valid_numbers r row col side = filter
    (λ k. get_or (marks_of r) k false) (block_numbers r row col side)

-- ---- rasters there are

-- pixels with these marks and these values in order
abbrev pub pixels_with : ℕ → List Bool → List ℤ → List (Option (List ℤ))
pixels_with depth [] values = []
pixels_with depth (true ∷ marks) values =
    Some (take depth values) ∷ pixels_with depth marks (drop depth values)
pixels_with depth (false ∷ marks) values = None ∷ pixels_with depth marks values

-- a raster with other values in range, which differs in these alone
pub record ChangesValues (r new : Pixels) (g : ℕ → ℕ → ℤ → ℤ) : Type 0 where
  pub raster : IsRaster new
  pub shape : SameShape r new
  pub marks : marks_of new ≡ marks_of r
  pub values : (k d : ℕ) → k < length r.pixels → get_or (marks_of r) k false ≡ true → d < r.depth
      → value_in new d k ≡ g k d (value_in r d k)

-- the valid pixels of a raster may be given any values of its type
abbrev pub ValuesMayChange : Type 0
ValuesMayChange = (r : Pixels) (g : ℕ → ℕ → ℤ → ℤ) → IsRaster r
    → ((k d : ℕ) → k < length r.pixels → get_or (marks_of r) k false ≡ true → d < r.depth
    → InRange r.kind (g k d (value_in r d k))) → ChangesValues r (revalued r g) g

pub record HasInOrder (r : Pixels) (marks : List Bool) (values : List ℤ) : Type 0 where
  pub raster : IsRaster r
  pub has_marks : marks_of r ≡ marks
  pub has_values : values_of r.pixels ≡ values

-- there is a raster of each shape with any marks, and as many values of its type as they ask for
abbrev pub RasterInOrder : Type 0
RasterInOrder = (kind : PixelType) (rows cols depth : ℕ) (marks : List Bool) (values : List ℤ)
    → IsShape rows cols depth → length marks ≡ rows * cols → All (InRange kind) values
    → length values ≡ count_by (λ mark. mark) marks * depth
    → HasInOrder
    (record {
      kind = kind;
      rows = rows;
      cols = cols;
      depth = depth;
      pixels =
          pixels_with depth marks values;
    }) marks values

-- and one: type, shape, marks and the values in order determine a raster
abbrev pub OrderDetermines : Type 0
OrderDetermines = (r s : Pixels) → IsRaster r → IsRaster s → SameShape r s → marks_of r ≡ marks_of s
    → values_of r.pixels ≡ values_of s.pixels → r ≡ s

-- ---- laws of blocks and masks

-- a block's values are those of its numbered valid pixels
abbrev pub BlockIsNumbered : Type 0
BlockIsNumbered = (r : Pixels) (row col side d : ℕ)
    → block_values r row col side d ≡ map (value_in r d) (valid_numbers r row col side)

-- a raster marked by a mask has the marks that the mask's bits say
abbrev pub MarkedByBits : Type 0
MarkedByBits = (old new : Pixels) (mask : List ℕ) → IsRaster new → MarksBits old new mask
    → marks_of new ≡ marks_in (old.rows * old.cols) mask

-- and a raster's mask says its marks
abbrev pub MaskSaysMarks : Type 0
MaskSaysMarks = (r : Pixels) (mask : List ℕ) → IsRaster r → IsMaskOf r mask
    → marks_in (r.rows * r.cols) mask ≡ marks_of r
