-- The marks of the raster before.
use Rattle.std.proofs.Common.{◌≡◌, ℕ, ◌*◌, Bool, true, false, cond, ◌&&◌, nat_eq, List, length, None, Some, refl, sym, ap, ◌∙◌}
use Rattle.std.proofs.lemmas.Bool.{eqb-true}
use Rattle.raster_values.specs.Raster.{Pixels, IsRaster, valid_count}
use Rattle.raster_values.specs.Flat.{marks_of}
use Rattle.raster_values.specs.Order.{IsMaskOf}
use Rattle.raster_cells.specs.Masks.{marks_in}
use Rattle.raster_values.proofs.NumberedBlocks.{mask_says_marks}
use Rattle.lerc_grammar.specs.Mask.{Previous, count_before, count_of, marks_before, mask_size}
use Rattle.lerc_grammar.proofs.Counts.{counted}

-- it has these rows and columns, so its marks are taken
pub record IsSameShape (p : Previous) (rows cols : ℕ) : Type 0 where
  pub rows_same : p.rows ≡ rows
  pub cols_same : p.cols ≡ cols
  pub taken : marks_before (Some p) rows cols ≡ Some p.marks

pub same_shape : (p : Previous) (rows cols n : ℕ) → count_before (marks_before (Some p) rows cols) ≡ Some n → IsSameShape p rows cols
same_shape p rows cols n w = by (nat_eq p.rows rows) (nat_eq p.cols cols) refl refl w
  where
    by : (a b : Bool) → nat_eq p.rows rows ≡ a → nat_eq p.cols cols ≡ b → count_before (cond (a && b) (Some p.marks) None) ≡ Some n → IsSameShape p rows cols
    by true true e f w = record {
      rows_same = eqb-true p.rows rows e;
      cols_same = eqb-true p.cols cols f;
      taken = λ i. cond (e i && f i) (Some p.marks) None;
    }
    by true false e f w = absurd (cc)
    by false b e f w = absurd (cc)

-- what is kept of a raster
pub said : (r : Pixels) (rows cols : ℕ) (mask : List ℕ) → IsRaster r → rows ≡ r.rows → cols ≡ r.cols → IsMaskOf r mask → marks_in (rows * cols) mask ≡ marks_of r
said r rows cols mask sound e f m = (λ i. marks_in (e i * f i) mask) ∙ mask_says_marks r mask sound m

pub kept_size : (r : Pixels) (rows cols : ℕ) (mask : List ℕ) → rows ≡ r.rows → cols ≡ r.cols → IsMaskOf r mask → length mask ≡ mask_size (rows * cols)
kept_size r rows cols mask e f m = m.size ∙ sym (λ i. mask_size (e i * f i))

pub kept_count : (r : Pixels) (rows cols valid : ℕ) (mask : List ℕ) → IsRaster r → rows ≡ r.rows → cols ≡ r.cols → valid ≡ valid_count r → IsMaskOf r mask → valid ≡ count_of (marks_in (rows * cols) mask)
kept_count r rows cols valid mask sound e f v m = v ∙ counted r.pixels ∙ sym (ap count_of (said r rows cols mask sound e f m))
