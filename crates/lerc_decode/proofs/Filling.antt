-- What the calls on the raster leave.
use Rattle.std.proofs.Common.{◌≡◌, ℕ, ◌+◌, ◌*◌, ◌<◌, List, length, refl, sym, ap, ◌∙◌, subst, arith, inl, inr, ◌⊎◌}
use Rattle.std.proofs.lemmas.Bool.{cases_order}
use Rattle.std.proofs.lemmas.List.{length-drop}
use Rattle.first_fault.specs.Faults.{moved}
use Rattle.raster_cells.specs.declared.kind.PixelType.{PixelType}
use Rattle.raster_cells.specs.PixelType.{bytes_of}
use Rattle.raster_cells.specs.Values.{AreValues}
use Rattle.raster_values.specs.Order.{ScattersBytes}
use Rattle.raster_cells.proofs.Spelled.{same_count}
use Rattle.lerc_header.specs.declared.header.Header.{Header}
use Rattle.lerc_header.specs.declared.fault.BlobReason.TheVariants.{Leftover}
use Rattle.lerc_grammar.specs.Image.{sweep_faults, value_count}
use Rattle.raster_values.specs.Raster.{Pixels, IsRaster, valid_count, values_of}
use Rattle.raster_values.specs.Flat.{marks_of}
use Rattle.raster_values.specs.Block.{SameMask}
use Rattle.lerc_grammar.specs.Mask.{count_of}
use Rattle.lerc_grammar.proofs.Counts.{counted}
use Rattle.lerc_decode.specs.inside.Body.{HasHeadShape, IsShapedAs, IsSwept, KeepsFrame, KeepsMarks}
use Rattle.lerc_decode.proofs.Marks.{same_marks}

pub keeps : (old new : Pixels) → IsRaster old → IsRaster new → SameMask old new → KeepsMarks old new
keeps old new was is s = record { kind = s.shape.kind; rows = s.shape.rows; cols = s.shape.cols; depth = s.shape.depth; marks = same_marks old new was is s }

pub keeps_then : (a b c : Pixels) → KeepsMarks a b → KeepsMarks b c → KeepsMarks a c
keeps_then a b c x y = record { kind = x.kind ∙ y.kind; rows = x.rows ∙ y.rows; cols = x.cols ∙ y.cols; depth = x.depth ∙ y.depth; marks = x.marks ∙ y.marks }

-- nothing has changed
pub same_frame : {K : Type 0} (r : Pixels) (k : K) → IsRaster r → KeepsFrame r r k k
same_frame r k is = record { raster = is; marks = record { kind = refl; rows = refl; cols = refl; depth = refl; marks = refl }; kept = refl }

-- what stays of a call and of the next stays of both
pub frame_then : {K : Type 0} {k m n : K} {a b c : Pixels} → KeepsFrame a b k m → KeepsFrame b c m n → KeepsFrame a c k n
frame_then {a = a} {b = b} {c = c} x y = record { raster = y.raster; marks = keeps_then a b c x.marks y.marks; kept = y.kept ∙ x.kept }

-- a raster that is filled in has the header's type and shape still
pub shaped_then : {K : Type 0} {before after : K} (h : Header) (old new : Pixels) → IsShapedAs h old → KeepsFrame old new before after → IsShapedAs h new
shaped_then h old new s f =
    let m = f.marks in
    record { raster = f.raster; shape = record { kind = s.shape.kind ∙ m.kind; rows = s.shape.rows ∙ m.rows; cols = s.shape.cols ∙ m.cols; depth = s.shape.depth ∙ m.depth } }

-- a byte behind a sweep
pub left_over : (h : Header) (bytes : List ℕ) (place need : ℕ) → need ≡ value_count h * bytes_of h.kind → need < length bytes → moved place (sweep_faults h bytes) (place + need) Leftover
left_over h bytes place need is more =
    let n = value_count h * bytes_of h.kind in
    (need, (refl, inl (omega (arith, is, more), (0, ((let t : need ≡ n + 0 = omega (arith, is) in t), inr ((λ e. absurd (omega (arith, ap length e, length-drop n bytes, is, more))), (refl, refl)))))))

-- as many bytes as the raster wants
pub sweep_size : (h : Header) (r : Pixels) (size need : ℕ) → HasHeadShape h r → count_of (marks_of r) ≡ h.valid → need ≡ value_count h * bytes_of h.kind → ¬ (size < need) → ¬ (need < size) → size ≡ valid_count r * r.depth * bytes_of r.kind
sweep_size h r size need shape valid is low high =
    let same : size ≡ need = which (cases_order size need) in
    same ∙ is ∙ (λ i. (sym valid ∙ sym (counted r.pixels)) i * shape.depth i * bytes_of (shape.kind i))
  where
    which : (size ≡ need) ⊎ ((size < need) ⊎ (need < size)) → size ≡ need
    which (inl e) = e
    which (inr (inl less)) = absurd (low less)
    which (inr (inr more)) = absurd (high more)

-- as many pixels are valid as are to be, while the marks stay
pub marked_count : (r s : Pixels) (valid : ℕ) → KeepsMarks r s → count_of (marks_of r) ≡ valid → valid_count s ≡ valid
marked_count r s valid keeps e = counted s.pixels ∙ ap count_of (sym keeps.marks) ∙ e

pub swept : (h : Header) (old new : Pixels) (bytes : List ℕ) (need : ℕ) → HasHeadShape h old → ScattersBytes old new bytes → need ≡ value_count h * bytes_of h.kind → length bytes ≡ need → IsSwept h bytes new
swept h old new bytes need shape p is size =
    let stands : AreValues h.kind bytes (values_of new.pixels) = subst (λ (k : PixelType). AreValues k bytes (values_of new.pixels)) (sym shape.kind) p.scattered in
    record { stands = stands; count = same_count h.kind (length (values_of new.pixels)) (value_count h) (sym stands.size ∙ size ∙ is) }
