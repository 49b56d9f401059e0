-- Four neighbouring rasters of one shape as one raster of that shape.
use Rattle.std.specs.Prelude.{◌≡◌, ◌↔◌, ℕ, ℤ, pos, ◌+◌, ◌*◌, ◌/◌, ◌%◌, ◌<◌, ◌+ℤ◌, ◌*ℤ◌, List, [], ◌∷◌, length, get_or, Option, Some, None, IfSome}
use Rattle.std.specs.Int.{int_div_euclid}
use Rattle.raster_values.specs.Raster.{Pixels, IsRaster, InShape, IsValidAt, pixel_at, value_at}
use Rattle.raster_values.specs.Places.{SameShape}

-- The rasters of the four quarters, or None where one is missing: 0 is the upper left one, 1 the
-- upper right, 2 the lower left and 3 the lower right.
abbrev pub Quarters : Type 0
Quarters = ℕ → Option Pixels

-- the pixel of a quarter, which has none where it is missing
abbrev pub pixel_in : Option Pixels → ℕ → ℕ → Option (List ℤ)
pixel_in None row col = None
pixel_in (Some r) row col = pixel_at r row col

-- The pixel (y, x) of the mosaic of four quarters of this shape, which has twice the rows and twice
-- the columns.
abbrev pub mosaic_at : ℕ → ℕ → Quarters → ℕ → ℕ → Option (List ℤ)
mosaic_at rows cols quarters y x =
    pixel_in (quarters (2 * (y / rows) + x / cols)) (y % rows) (x % cols)

-- the values of those pixels that are valid
abbrev pub valid_of : List (Option (List ℤ)) → List (List ℤ)
valid_of [] = []
valid_of (None ∷ ps) = valid_of ps
valid_of (Some values ∷ ps) = values ∷ valid_of ps

-- the four pixels of the mosaic that become one
abbrev pub four_pixels : ℕ → ℕ → Quarters → ℕ → ℕ → List (Option (List ℤ))
four_pixels rows cols quarters row col =
    mosaic_at rows cols quarters (2 * row) (2 * col)
    ∷ mosaic_at rows cols quarters (2 * row) (2 * col + 1)
    ∷ mosaic_at rows cols quarters (2 * row + 1) (2 * col)
    ∷ mosaic_at rows cols quarters (2 * row + 1) (2 * col + 1) ∷ []

-- the values of the valid ones of these
abbrev pub valid_four : ℕ → ℕ → Quarters → ℕ → ℕ → List (List ℤ)
valid_four rows cols quarters row col = valid_of (four_pixels rows cols quarters row col)

-- the sum of the values at a depth
abbrev pub sum_at : ℕ → List (List ℤ) → ℤ
sum_at d [] = pos 0
sum_at d (v ∷ vs) = get_or v d (pos 0) +ℤ sum_at d vs

-- The mean of n values with this sum, rounded to the nearest whole number, and up where two are as
-- near: the division rounds down, of negative numbers, too.
abbrev pub mean_of : ℤ → ℤ → ℤ
mean_of s n = int_div_euclid (pos 2 *ℤ s +ℤ n) (pos 2 *ℤ n)

-- each quarter that is there is a raster of the type and the shape of r
abbrev pub AreAlike : Pixels → Quarters → Type 0
AreAlike r quarters = (q : ℕ) → IfSome (quarters q) (λ s. IsRaster s × SameShape s r)

-- The raster is half of the four: a pixel is valid where one of its four is, and has at each depth
-- the mean of the valid ones.
pub record IsHalf (quarters : Quarters) (r : Pixels) : Type 0 where
  pub raster : IsRaster r
  pub alike : AreAlike r quarters
  pub valid : (row col : ℕ) → InShape r row col
      → IsValidAt r row col ↔ (0 < length (valid_four r.rows r.cols quarters row col))
  pub values : (row col d : ℕ) → InShape r row col → IsValidAt r row col → d < r.depth
      → value_at r row col d
      ≡ mean_of (sum_at d (valid_four r.rows r.cols quarters row col))
      (pos (length (valid_four r.rows r.cols quarters row col)))

-- Four quarters, of which one is there, have one half.
abbrev pub HalfIsOne : Type 0
HalfIsOne = (quarters : Quarters) (q : ℕ) (s r t : Pixels) → quarters q ≡ Some s
    → IsHalf quarters r → IsHalf quarters t → r ≡ t
