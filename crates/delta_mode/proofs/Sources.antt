-- Symbols that are taken piece by piece.
use Rattle.std.proofs.Common.{◌≡◌, ℕ, zero, suc, ℤ, ◌+◌, ◌*◌, ◌≤◌, Bool, true, false, cond, List, ◌++◌, length, get_or, sym, ap, ◌∙◌, arith}
use Rattle.std.proofs.lemmas.List.{get_or_append_left, get_or-append-add}
use Rattle.std.proofs.Math.Nat.{mul-le-mul_left}
use Rattle.raster_cells.specs.declared.kind.PixelType.{PixelType}
use Rattle.raster_values.specs.Raster.{Pixels, IsRaster, valid_count}
use Rattle.raster_cells.specs.Shapes.{IsShape}
use Rattle.delta_mode.specs.Deltas.{is_valid}
use Rattle.delta_mode.specs.inside.Pieces.{rank, AreCoded}
use Rattle.delta_mode.proofs.WholeDepth.{coded_kept, rank_all}

pub rank_le : (mark : ℕ → Bool) (n : ℕ) → rank mark n ≤ n
rank_le mark zero = omega arith
rank_le mark (suc n) =
    let before = rank_le mark n in
    elim (mark n) as (λ b. cond b (rank mark n + 1) (rank mark n) ≤ suc n) [
      | true ↦ omega (arith, before)
      | false ↦ omega (arith, before)
    ]

-- a symbol of a piece among all that came
pub behind : (front piece : List ℕ) (n j : ℕ) → length front ≡ n → get_or (front ++ piece) (n + j) 0 ≡ get_or piece j 0
behind front piece n j e = ap (λ k. get_or (front ++ piece) (k + j) 0) (sym e) ∙ get_or-append-add front piece j 0

-- those that came before stay
pub coded_front : (kind : PixelType) (cols : ℕ) (valid : ℕ → Bool) (value : ℕ → ℤ) (m : ℕ) (front piece : List ℕ) → rank valid m ≡ length front
    → AreCoded kind cols valid value 0 m front → AreCoded kind cols valid value 0 m (front ++ piece)
coded_front kind cols valid value m front piece e =
    coded_kept kind cols valid value m front (front ++ piece) (λ j lt. get_or_append_left front piece 0 j (omega (arith, lt, e)))

-- at the end of the raster the valid pixels so far are all
pub count_whole : (r : Pixels) (place count : ℕ) {rows cols : ℕ} → IsRaster r → rows ≡ r.rows → cols ≡ r.cols → place ≤ r.rows * r.cols → rows * cols ≤ place → count ≡ rank (is_valid r) place → count ≡ valid_count r
count_whole r place count {rows} {cols} sound er ec within over e =
    let size : rows * cols ≡ r.rows * r.cols = λ i. er i * ec i in
    let end : place ≡ r.rows * r.cols = omega (arith, size, within, over) in
    e ∙ ap (rank (is_valid r)) end ∙ rank_all r sound

-- the pixels of a shape are few
pub area_few : (rows cols depth : ℕ) → IsShape rows cols depth → rows * cols ≤ 16777216
area_few rows cols depth shape =
    let up : rows * cols * 1 ≤ rows * cols * depth = mul-le-mul_left (rows * cols) (omega (arith, shape.depth_above)) in
    omega (arith, up, shape.size)
