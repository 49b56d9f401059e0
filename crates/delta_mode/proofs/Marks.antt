-- Rasters of one mask, by the numbers of their pixels.
use Rattle.std.proofs.Common.{◌≡◌, ℕ, ℤ, pos, ◌+◌, ◌*◌, ◌/◌, ◌%◌, ◌<◌, List, [], length, get_or, Option, Some, None, refl, sym, ap, ◌∙◌, subst, arith, inl, inr}
use Rattle.std.specs.Prelude.{is_some, unwrap_or}
use Rattle.std.proofs.lemmas.Bool.{cases_lt}
use Rattle.std.proofs.lemmas.List.{get_or_past}
use Rattle.raster_cells.specs.declared.kind.PixelType.{PixelType}
use Rattle.raster_cells.specs.declared.kind.PixelType.TheVariants.{I8, U8, I16, U16, I32, U32}
use Rattle.raster_cells.specs.PixelType.{InRange}
use Rattle.raster_values.specs.Raster.{Pixels, IsRaster, IsPixel}
use Rattle.raster_values.specs.Block.{SameMask}
use Rattle.raster_values.specs.Flat.{value_in}
use Rattle.delta_mode.specs.Deltas.{is_valid}

pub zero_in_range : (kind : PixelType) → InRange kind (pos 0)
zero_in_range I8 = (omega arith, omega arith)
zero_in_range U8 = (omega arith, omega arith)
zero_in_range I16 = (omega arith, omega arith)
zero_in_range U16 = (omega arith, omega arith)
zero_in_range I32 = (omega arith, omega arith)
zero_in_range U32 = (omega arith, omega arith)

value_of_pixel : (kind : PixelType) (depth : ℕ) (p : Option (List ℤ)) (d : ℕ) → IsPixel kind depth p → InRange kind (get_or (unwrap_or p []) d (pos 0))
value_of_pixel kind depth None d h = zero_in_range kind
value_of_pixel kind depth (Some values) d h = elim (cases_lt d (length values)) [
  | inl lt ↦ h.1 d (pos 0) lt
  | inr ge ↦ subst (InRange kind) (sym (get_or_past values d (pos 0) ge)) (zero_in_range kind)
]

-- every value is one of the type, 0 where there is none
pub value_in_range : (r : Pixels) (d k : ℕ) → IsRaster r → InRange r.kind (value_in r d k)
value_in_range r d k h = elim (cases_lt k (length r.pixels)) [
  | inl lt ↦ value_of_pixel r.kind r.depth (get_or r.pixels k None) d (h.each k lt)
  | inr ge ↦ subst (λ p. InRange r.kind (get_or (unwrap_or p []) d (pos 0))) (sym (get_or_past r.pixels k None ge)) (zero_in_range r.kind)
]

-- a pixel's row and column, by its number
pub row_and_col : (k rows cols : ℕ) → k < rows * cols → (k / cols < rows) × ((k % cols < cols) × (k / cols * cols + k % cols ≡ k))
row_and_col k rows cols lt = grind arith

pub place_below : (row col rows cols : ℕ) → row < rows → col < cols → row * cols + col < rows * cols
place_below row col rows cols r c = grind arith

pub same_mark : (r s : Pixels) (k : ℕ) → SameMask r s → k < r.rows * r.cols → is_valid s k ≡ is_valid r k
same_mark r s k same lt =
    let at = row_and_col k r.rows r.cols lt in
    ap (λ n. is_some (get_or s.pixels n None)) (sym at.1.1 ∙ ap (λ c. k / r.cols * c + k % r.cols) same.shape.cols) ∙ same.places (k / r.cols) (k % r.cols) (at.0, at.1.0)
    ∙ ap (λ n. is_some (get_or r.pixels n None)) at.1.1

pub same_size : (r s : Pixels) → SameMask r s → r.rows * r.cols ≡ s.rows * s.cols
same_size r s same = λ i. same.shape.rows i * same.shape.cols i

pub same_marks : (r s : Pixels) → IsRaster r → IsRaster s → SameMask r s → (k : ℕ) → is_valid s k ≡ is_valid r k
same_marks r s hr hs same k = elim (cases_lt k (r.rows * r.cols)) [
  | inl lt ↦ same_mark r s k same lt
  | inr ge ↦ ap is_some (get_or_past s.pixels k None (omega (arith, ge, hs.places, same_size r s same))) ∙ sym (ap is_some (get_or_past r.pixels k None (omega (arith, ge, hr.places))))
]

-- a raster has its own mask, and masks that are the same as one are the same
pub mask_itself : (r : Pixels) → SameMask r r
mask_itself r = record { shape = record { kind = refl; rows = refl; cols = refl; depth = refl }; places = λ i j h. refl }

pub mask_through : (r s t : Pixels) → SameMask r s → SameMask s t → SameMask r t
mask_through r s t a b = record {
  shape = record { kind = a.shape.kind ∙ b.shape.kind; rows = a.shape.rows ∙ b.shape.rows; cols = a.shape.cols ∙ b.shape.cols; depth = a.shape.depth ∙ b.shape.depth };
  places = λ i j h. b.places i j (subst (λ n. i < n) a.shape.rows h.0, subst (λ n. j < n) a.shape.cols h.1) ∙ a.places i j h;
}

pub all_marks : (r s : Pixels) → IsRaster r → IsRaster s → SameMask r s → is_valid s ≡ is_valid r
all_marks r s hr hs same = λ i k. same_marks r s hr hs same k i

-- past the end there is 0
pub each_in_range : (kind : PixelType) (values : List ℤ) (n : ℕ) → length values ≡ n
    → ((i : ℕ) → i < n → InRange kind (get_or values i (pos 0))) → (i : ℕ) → InRange kind (get_or values i (pos 0))
each_in_range kind values n long within i = elim (cases_lt i n) [
  | inl lt ↦ within i lt
  | inr ge ↦ subst (InRange kind) (sym (get_or_past values i (pos 0) (omega (arith, long, ge)))) (zero_in_range kind)
]
