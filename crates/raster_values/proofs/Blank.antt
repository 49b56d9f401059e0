-- The vectors of a raster of which no pixel is valid.
use Rattle.std.proofs.Common.{[], ◌≡◌, ℕ, ◌+◌, zero, suc, Bool, true, false, cond, List, ◌∷◌, get_or, refl, arith, ◌*◌, ◌/◌, ◌%◌, ◌<◌, length, replicate, sym, ap, ◌∙◌}
use Rattle.std.specs.Prelude.{count_by, pos}
use Rattle.std.proofs.lemmas.List.Sums.{sum_by-cons}
use Rattle.std.proofs.lemmas.List.{ext_get_or, length-replicate, get_or-replicate}
use Rattle.std.proofs.lemmas.Nat.{div_below, mul-add-lt}
use Rattle.raster_cells.specs.Masks.{mask_bit}
use Rattle.raster_values.specs.declared.rasters.raster.Raster.TheInside.{Inside}
use Rattle.raster_values.specs.Raster.{valid_count}
use Rattle.raster_values.specs.View.{seen, IsInside, pixels_of}
use Rattle.raster_values.proofs.Views.{count-pixels_of, full, valid-pixels_of}
use Rattle.raster_values.specs.Order.{MarksBits}
use Rattle.raster_values.proofs.BlockViews.{value_there}

pub none_on : (ms : List Bool) → count_by (λ m. m) ms ≡ 0 → (k : ℕ) → get_or ms k false ≡ false
none_on [] none k = refl
none_on (m ∷ ms) none k =
    (elim m as (λ b. count_by (λ m. m) (m ∷ ms) ≡ cond b 1 0 + count_by (λ m. m) ms → get_or (b ∷ ms) k false ≡ false) [
      | true ↦ λ e. absurd (let no : ⊥ = omega (arith, e, none) in no)
      | false ↦ λ e. (elim k as (λ j. get_or (false ∷ ms) j false ≡ false) [
        | zero ↦ refl
        | suc j ↦ none_on ms (omega (arith, e, none)) j
      ])
    ]) (sum_by-cons (λ m. cond m 1 0) m ms)

pub all_zero : (a : Inside) → IsInside a → valid_count (seen a) ≡ 0 → a.values.values ≡ replicate (length a.values.values) (pos 0)
all_zero a h none =
    let marks : count_by (λ m. m) a.marks ≡ 0 = sym (count-pixels_of a.depth a.marks a.values.values) ∙ none in
    ext_get_or (pos 0) _ _ (sym (length-replicate (length a.values.values) (pos 0))) (λ x below.
    let deep : 0 < a.depth = h.shape.depth_above in
    let place : x / a.depth < length a.marks = div_below x a.depth (length a.marks) deep (omega (arith, full a h)) in
    let at : x ≡ x / a.depth * a.depth + x % a.depth = omega arith in
    let inner : x % a.depth < a.depth = omega arith in
    ap (λ j. get_or a.values.values j (pos 0)) at ∙ h.zeros (x / a.depth) (x % a.depth) place inner (none_on a.marks marks (x / a.depth))
    ∙ sym (get_or-replicate (length a.values.values) x (pos 0) (pos 0) below))

-- ---- marked by the bits of a mask

pub still_zero : (a : Inside) (ms : List Bool) → IsInside a → valid_count (seen a) ≡ 0 → length ms ≡ length a.marks
    → (k d : ℕ) → k < length ms → d < a.depth → get_or ms k false ≡ false → get_or a.values.values (k * a.depth + d) (pos 0) ≡ pos 0
still_zero a ms h none size k d within below off =
    let marks : count_by (λ m. m) a.marks ≡ 0 = sym (count-pixels_of a.depth a.marks a.values.values) ∙ none in
    h.zeros k d (omega (arith, size)) below (none_on a.marks marks k)

pub bits_mark : (a : Inside) (ms : List Bool) (mask : List ℕ) → IsInside a → valid_count (seen a) ≡ 0 → length ms ≡ length a.marks
    → ((k : ℕ) → k < length a.marks → get_or ms k false ≡ mask_bit mask k)
    → MarksBits (seen a) (record (seen a) { pixels = pixels_of a.depth ms a.values.values }) mask
bits_mark a ms mask h none size bits = record {
  shape = record { kind = refl; rows = refl; cols = refl; depth = refl };
  places = λ i j within. valid-pixels_of a.depth ms a.values.values (i * a.cols + j) ∙ bits (i * a.cols + j) (omega (arith, mul-add-lt i a.cols j a.rows within.0 within.1, h.marks));
  zeros = λ i j d within below.
      let marks : count_by (λ m. m) a.marks ≡ 0 = sym (count-pixels_of a.depth a.marks a.values.values) ∙ none in
      value_there a.values.kind a.rows a.cols a.depth ms a.values.values i j d (still_zero a ms h none size) (size ∙ h.marks) within.0 within.1 below
      ∙ h.zeros (i * a.cols + j) d (omega (arith, mul-add-lt i a.cols j a.rows within.0 within.1, h.marks)) below (none_on a.marks marks (i * a.cols + j));
}
