-- The distances of values that stand as their bytes.
use Rattle.std.proofs.Common.{◌≡◌, ℕ, ◌+◌, ◌-◌, ◌*◌, ◌≤◌, List, length, get_or, map, sym, ap, ◌∙◌, subst, arith, ◌++◌, ◌<◌, suc, Bool, true, false}
use Rattle.std.specs.Prelude.{ℤ, pos}
use Rattle.std.specs.List.{range_with_len}
use Rattle.std.proofs.lemmas.List.{map-append}
use Rattle.std.proofs.lemmas.List.FromFn.{length-map-range_with_len}
use Rattle.std.proofs.lemmas.Simd.{map-map}
use Rattle.std.proofs.Math.Nat.{mul-le-mul_right, mul-le-mul_left}
use borrow.Rule.Slice.PartMut.{put_mid}
use Rattle.raster_values.specs.inside.Runs.{Gathers, whole_rows, rows_values, run_values}
use Rattle.raster_cells.proofs.Every.{every_range, same_flat_map}
use Rattle.raster_values.proofs.RunSteps.{gathers_join}
use Rattle.raster_values.proofs.RowSteps.{pieces_more}
use Rattle.raster_values.proofs.PixelSteps.{gathers_piece, filter_all}

-- ---- rows of them

pub rows_pushed : (g : ℤ → ℕ) (depth d : ℕ) (values : List ℤ) (old mid piece : List ℕ) (cols row col h wide n next : ℕ) → next ≡ n + wide → next ≤ length mid
    → piece ≡ map (λ k. g (get_or values (k * depth + d) (pos 0))) (range_with_len ((row + h) * cols + col) wide)
    → Gathers (map g (whole_rows depth d values cols row col h wide)) old mid 0 n → Gathers (map g (whole_rows depth d values cols row col (h + 1) wide)) old (put_mid n (next - n) mid piece) 0 next
rows_pushed g depth d values old mid piece cols row col h wide n next is within cut before =
    let f : ℕ → ℤ = λ k. get_or values (k * depth + d) (pos 0) in
    let line : ℕ → List ℤ = λ i. map f (range_with_len (i * cols + col) wide) in
    let long : length piece ≡ wide = ap length cut ∙ length-map-range_with_len (λ k. g (f k)) ((row + h) * cols + col) wide in
    let one : Gathers piece mid (put_mid n (next - n) mid piece) n next = gathers_piece piece mid n next (omega (arith, is, long)) within in
    let run : piece ≡ map g (line (row + h)) = cut ∙ sym (map-map g f (range_with_len ((row + h) * cols + col) wide)) in
    subst (λ vs. Gathers vs old (put_mid n (next - n) mid piece) 0 next)
    (ap (λ vs. map g (whole_rows depth d values cols row col h wide) ++ vs) run
    ∙ sym (ap (map g) (pieces_more line row h) ∙ map-append g (whole_rows depth d values cols row col h wide) (line (row + h))))
    (gathers_join (map g (whole_rows depth d values cols row col h wide)) piece old mid (put_mid n (next - n) mid piece) 0 n next before one)

-- where all pixels are marked the rows of a block are whole
pub rows_are_whole : (depth d : ℕ) (marks : List Bool) (values : List ℤ) (cols row col high wide : ℕ) → ((k : ℕ) → k < length marks → get_or marks k false ≡ true) → col + wide ≤ cols → (row + high) * cols ≤ length marks
    → rows_values depth d marks values cols row col high wide ≡ whole_rows depth d values cols row col high wide
rows_are_whole depth d marks values cols row col high wide all across within =
    let f : ℕ → ℤ = λ k. get_or values (k * depth + d) (pos 0) in
    same_flat_map (λ i. run_values depth d marks values (i * cols + col) wide) (λ i. map f (range_with_len (i * cols + col) wide)) (range_with_len row high)
    (every_range (λ i. run_values depth d marks values (i * cols + col) wide ≡ map f (range_with_len (i * cols + col) wide)) row high (λ i from to.
    let up : suc i * cols ≤ (row + high) * cols = mul-le-mul_right cols (omega arith) in
    ap (map f) (filter_all (λ k. get_or marks k false) (i * cols + col) wide (λ k low below. all k (omega (arith, up))))))

-- such a row lies within all
pub row_within : (row h high cols col wide depth size : ℕ) → h < high → col + wide ≤ cols → (row + high) * cols * depth ≤ size → ((row + h) * cols + col + wide) * depth ≤ size
row_within row h high cols col wide depth size below across within =
    let up : suc (row + h) * cols ≤ (row + high) * cols = mul-le-mul_right cols (omega arith) in
    let line : (row + h) * cols + col + wide ≤ (row + high) * cols = omega (arith, up) in
    let all : ((row + h) * cols + col + wide) * depth ≤ (row + high) * cols * depth = mul-le-mul_right depth line in
    omega (arith, all)

-- and its place among the pixels is no greater than all of them
pub row_fits : (row h high cols col wide depth d size : ℕ) → h < high → d < depth → col + wide ≤ cols → (row + high) * cols * depth ≤ size → (row + h) * cols + col ≤ size
row_fits row h high cols col wide depth d size below deep across within =
    let line : ((row + h) * cols + col + wide) * depth ≤ size = row_within row h high cols col wide depth size below across within in
    let one : ((row + h) * cols + col + wide) * 1 ≤ ((row + h) * cols + col + wide) * depth = mul-le-mul_left ((row + h) * cols + col + wide) (omega arith) in
    omega (arith, line, one)

pub next_row : (h high wide n next size : ℕ) → h < high → n ≡ h * wide → next ≡ n + wide → high * wide ≤ size → next ≤ size
next_row h high wide n next size below is e room =
    let up : suc h * wide ≤ high * wide = mul-le-mul_right wide (omega arith) in
    omega (arith, up)
