-- Rasters that are read in a caller's arrays.
use Rattle.std.proofs.Common.{ℕ, ◌*◌, List, ◌≡◌, length, sym, ap, ◌∙◌, subst, ◌+◌, ◌<◌, true, false, get_or, drop, arith, Bool, cond, refl}
use Rattle.std.specs.Prelude.{All, count_by, pos, ℤ}
use Rattle.std.proofs.lemmas.Bool.{false≢true}
use Rattle.std.proofs.lemmas.Nat.{mul-add-lt}
use Rattle.raster_cells.specs.declared.kind.PixelType.{PixelType}
use Rattle.raster_cells.specs.CellList.{CellList, values_in}
use Rattle.raster_cells.specs.PixelType.{InRange, bytes_of, value_of}
use Rattle.raster_cells.specs.Shapes.{IsShape}
use Rattle.raster_cells.proofs.CellRuns.{length-values_in}
use Rattle.raster_cells.proofs.Spelled.{AreBytes, values_fit, value_in-at}
use Rattle.raster_cells.proofs.MaskCounts.{all_set}
use Rattle.byteorder.specs.Endian.{little_number}
use Rattle.raster_values.specs.declared.rasters.raster_ref.RasterRef.TheInside.{Inside as Arrays}
use Rattle.raster_values.specs.inside.RasterRefView.{AreSeen, seen_there, vectors_of}
use Rattle.raster_values.specs.Raster.{IsRaster, valid_count}
use Rattle.raster_values.proofs.Views.{sound_vectors, count-pixels_of}
use Rattle.raster_values.specs.Flat.{all_values, value_in}
use Rattle.raster_values.proofs.AllCells.{all_of_vectors}
use Rattle.raster_values.proofs.FlatViews.{value_marked, value_unmarked}

-- the values of a raster of a shape, as a caller's bytes have them
abbrev pub lying : PixelType → ℕ → ℕ → ℕ → List ℕ → CellList
lying kind rows cols depth bytes = record { kind = kind; values = values_in kind (rows * cols * depth) bytes }

-- arrays of a shape are a raster, whatever stands at invalid pixels
pub are_seen : (a : Arrays) (kind : PixelType) (bytes : List ℕ) → IsShape a.rows a.cols a.depth → length a.marks ≡ a.rows * a.cols → AreBytes bytes → a.values ≡ lying kind a.rows a.cols a.depth bytes → AreSeen a
are_seen a kind bytes shape marks are is = record {
  shape = shape;
  marks = marks;
  values = ap (λ (l : CellList). length l.values) is ∙ length-values_in kind (a.rows * a.cols * a.depth) bytes;
  in_range = subst (λ (l : CellList). All (InRange l.kind) l.values) (sym is) (values_fit kind (a.rows * a.cols * a.depth) bytes are);
}

pub seen_raster : (a : Arrays) → AreSeen a → IsRaster (seen_there a)
seen_raster a h = sound_vectors (vectors_of a) h.shape h.marks h.values h.in_range

-- where every pixel is valid the values are those of all
pub seen_whole : (a : Arrays) → AreSeen a → valid_count (seen_there a) ≡ a.rows * a.cols → all_values (seen_there a) ≡ a.values.values
unfolding all_values
seen_whole a h full =
    let count : count_by (λ m. m) a.marks ≡ length a.marks = sym (count-pixels_of a.depth a.marks a.values.values) ∙ full ∙ sym h.marks in
    all_of_vectors a.depth a.marks a.values.values (h.values ∙ ap (λ n. n * a.depth) (sym h.marks)) (λ k d below less off. absurd (false≢true (sym off ∙ all_set a.marks k count below)))

-- a valid pixel has the values that its bytes stand for
pub seen_value : (a : Arrays) (kind : PixelType) (bytes : List ℕ) (k d : ℕ) → a.values ≡ lying kind a.rows a.cols a.depth bytes → k < a.rows * a.cols → d < a.depth → get_or a.marks k false ≡ true
    → value_in (seen_there a) d k ≡ value_of kind (little_number (bytes_of kind) (drop ((k * a.depth + d) * bytes_of kind) bytes))
seen_value a kind bytes k d is below less on =
    let inner : k * a.depth + d < a.rows * a.cols * a.depth = omega (arith, mul-add-lt k a.depth d (a.rows * a.cols) below less) in
    value_marked (vectors_of a) k d on less
    ∙ ap (λ (l : CellList). get_or l.values (k * a.depth + d) (pos 0)) is
    ∙ value_in-at kind (a.rows * a.cols * a.depth) bytes (k * a.depth + d) inner

-- and an invalid one has none, which are read as 0
pub seen_or_none : (a : Arrays) (k d : ℕ) → d < a.depth → value_in (seen_there a) d k ≡ cond (get_or a.marks k false) (get_or a.values.values (k * a.depth + d) (pos 0)) (pos 0)
seen_or_none a k d less =
    by_mark (get_or a.marks k false) (value_in (seen_there a) d k) (get_or a.values.values (k * a.depth + d) (pos 0))
    (λ on. value_marked (vectors_of a) k d on less) (λ off. value_unmarked (vectors_of a) k d off)
  where
    by_mark : (b : Bool) (x y : ℤ) → (b ≡ true → x ≡ y) → (b ≡ false → x ≡ pos 0) → x ≡ cond b y (pos 0)
    by_mark true x y on off = on refl
    by_mark false x y on off = off refl
