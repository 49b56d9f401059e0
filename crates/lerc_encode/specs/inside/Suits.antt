-- What a header and its maxima are for a raster whose blocks are written.
use Rattle.std.specs.Prelude.{◌≡◌, ℕ, ◌<◌, ◌≤◌, ◌≤ℤ◌, true, false, length, get_or, Option}
use Rattle.raster_values.specs.Raster.{Pixels, IsRaster}
use Rattle.raster_cells.specs.PixelType.{InRange}
use Rattle.raster_values.specs.Places.{SameShape}
use Rattle.raster_values.specs.Flat.{marks_of, value_in}
use Rattle.lerc_header.specs.declared.header.Header.{Header}
use Rattle.micro_block.specs.Near.{IsNear}
use Rattle.lerc_grammar.specs.Image.{Ends, top_of}

pub record Suits (h : Header) (front : Option Ends) (r : Pixels) : Type 0 where
  pub sound : IsRaster r
  pub kind_is : h.kind ≡ r.kind
  pub rows_is : h.rows ≡ r.rows
  pub cols_is : h.cols ≡ r.cols
  pub depth_is : h.depth ≡ r.depth
  pub side : 0 < h.side
  pub side_below : h.side ≤ 16
  pub step : 0 < h.step
  pub maxima : (p d : ℕ) → p < length r.pixels → get_or (marks_of r) p false ≡ true → d < r.depth
      → value_in r d p ≤ℤ top_of h front d
  pub maxima_in_range : (d : ℕ) → d < r.depth → InRange r.kind (top_of h front d)

-- one type, shape and mask, and each value of a valid pixel near the other's, by the numbers of
-- pixels
pub record IsBeside (r s : Pixels) (step : ℕ) : Type 0 where
  pub shape : SameShape r s
  pub marks : marks_of r ≡ marks_of s
  pub each : (k d : ℕ) → k < length r.pixels → get_or (marks_of r) k false ≡ true → d < r.depth
      → IsNear step (value_in r d k) (value_in s d k)
