-- Rows that are as wide as the raster lie one behind another: they are one run.
use Rattle.std.proofs.Common.{[], ◌≡◌, ℕ, ◌+◌, ◌*◌, zero, suc, List, ◌++◌, sym, ap, ◌∙◌, arith, append-nil, ◌≤◌, Bool, refl, ◌/◌, ◌%◌, ◌<◌, ⊎_elim, subst}
use Rattle.std.specs.List.{flat_map, range_with_len}
use Rattle.std.proofs.Math.Nat.{add-mul, div-add-mod', mod-lt, mul-le-mul_right}
use Rattle.std.specs.Prelude.{ℤ}
use Rattle.std.proofs.lemmas.Bool.{cases_lt}
use Rattle.raster_cells.specs.Runs.{run_places}
use Rattle.raster_values.proofs.RowSteps.{pieces_more}
use Rattle.raster_values.specs.inside.Runs.{rows_places, run_values, rows_values, LeavesRows}
use Rattle.raster_values.proofs.ScatteredWords.{places_join, values_join}

-- pieces that are those of one run
one_run : {Y : Type 0} (piece : ℕ → ℕ → List Y) (cols row high : ℕ) → ((from : ℕ) → piece from 0 ≡ []) → ((from a b : ℕ) → piece from (a + b) ≡ piece from a ++ piece (from + a) b)
    → flat_map (λ i. piece (i * cols + 0) cols) (range_with_len row high) ≡ piece (row * cols) (high * cols)
one_run {Y = Y} piece cols row zero none join = sym (ap (piece (row * cols)) (let e : 0 * cols ≡ 0 = omega arith in e) ∙ none (row * cols))
one_run {Y = Y} piece cols row (suc high) none join =
    let f : ℕ → List Y = λ i. piece (i * cols + 0) cols in
    ap (λ n. flat_map f (range_with_len row n)) (let e : suc high ≡ high + 1 = omega arith in e) ∙ pieces_more f row high
    ∙ ap (λ xs. xs ++ f (row + high)) (one_run piece cols row high none join)
    ∙ ap (λ n. piece (row * cols) (high * cols) ++ piece n cols) (let e : (row + high) * cols + 0 ≡ row * cols + high * cols = omega (arith, add-mul row high cols) in e)
    ∙ sym (join (row * cols) (high * cols) cols) ∙ ap (piece (row * cols)) (let e : high * cols + cols ≡ suc high * cols = omega arith in e)

-- the only row of a block of one
one_row : {Y : Type 0} (piece : ℕ → ℕ → List Y) (end col wide : ℕ) → flat_map (λ i. piece (i * end + col) wide) (range_with_len 0 1) ≡ piece col wide
one_row piece end col wide = append-nil (piece (0 * end + col) wide) ∙ ap (λ n. piece n wide) (let e : 0 * end + col ≡ col = omega arith in e)

-- the marked pixels of rows of full width are those of one run, and so are their values
pub places_are : (marks : List Bool) (cols row col high wide : ℕ) → wide ≡ cols → col + wide ≤ cols → rows_places marks cols row col high wide ≡ run_places marks (row * cols) (high * cols)
places_are marks cols row col high wide whole across =
    let none : col ≡ 0 = omega arith in
    ap (λ n. rows_places marks cols row n high wide) none ∙ ap (λ n. rows_places marks cols row 0 high n) whole ∙ one_run (run_places marks) cols row high (λ from. refl) (places_join marks)

pub values_are : (depth d : ℕ) (marks : List Bool) (vs : List ℤ) (cols row col high wide : ℕ) → wide ≡ cols → col + wide ≤ cols → rows_values depth d marks vs cols row col high wide ≡ run_values depth d marks vs (row * cols) (high * cols)
values_are depth d marks vs cols row col high wide whole across =
    let none : col ≡ 0 = omega arith in
    ap (λ n. rows_values depth d marks vs cols row n high wide) none ∙ ap (λ n. rows_values depth d marks vs cols row 0 high n) whole ∙ one_run (run_values depth d marks vs) cols row high (λ from. refl) (values_join depth d marks vs)

-- and those of a block of one row, which is all of them
pub full_places : (marks : List Bool) (cols row col high wide : ℕ) → wide ≡ cols → col + wide ≤ cols → rows_places marks ((row + high) * cols) 0 (row * cols) 1 (high * cols) ≡ rows_places marks cols row col high wide
full_places marks cols row col high wide whole across =
    one_row (run_places marks) ((row + high) * cols) (row * cols) (high * cols) ∙ sym (places_are marks cols row col high wide whole across)

pub full_values : (depth d : ℕ) (marks : List Bool) (vs : List ℤ) (cols row col high wide : ℕ) → wide ≡ cols → col + wide ≤ cols → rows_values depth d marks vs ((row + high) * cols) 0 (row * cols) 1 (high * cols) ≡ rows_values depth d marks vs cols row col high wide
full_values depth d marks vs cols row col high wide whole across =
    one_row (run_values depth d marks vs) ((row + high) * cols) (row * cols) (high * cols) ∙ sym (values_are depth d marks vs cols row col high wide whole across)

-- the row that a pixel is in
in_row : (cols row high k : ℕ) → row * cols ≤ k → k < row * cols + high * cols → (row ≤ k / cols) × (k / cols < row + high) × (k / cols * cols ≤ k) × (k < k / cols * cols + cols)
in_row zero row high k low above = absurd (omega arith)
in_row (suc c) row high k low above =
    let cols = suc c in
    let q = k / cols in
    let split : k ≡ q * cols + k % cols = sym (div-add-mod' k cols) in
    let rest : k % cols < cols = mod-lt k (omega arith) in
    let from : row ≤ q = ⊎_elim (λ (lt : q < row). absurd (let up : suc q * cols ≤ row * cols = mul-le-mul_right cols lt in let no : ⊥ = omega (arith, up, split, rest) in no)) (λ (ge : row ≤ q). ge) (cases_lt q row) in
    let to : q < row + high = ⊎_elim (λ (lt : q < row + high). lt) (λ (ge : row + high ≤ q). absurd (let up : (row + high) * cols ≤ q * cols = mul-le-mul_right cols ge in let no : ⊥ = omega (arith, up, split, add-mul row high cols) in no)) (cases_lt q (row + high)) in
    (from, to, omega (arith, split), omega (arith, split, rest))

pub full_leaves : (depth d : ℕ) (marks : List Bool) (cols row col high wide : ℕ) (old new : List ℤ) → wide ≡ cols → col + wide ≤ cols → LeavesRows depth d marks ((row + high) * cols) 0 (row * cols) 1 (high * cols) old new
    → LeavesRows depth d marks cols row col high wide old new
full_leaves depth d marks cols row col high wide old new whole across h = record {
  rest = λ k e less out.
      h.rest k e less (λ i from to lo hi valid is.
      let first : i ≡ 0 = omega arith in
      let low : 0 * ((row + high) * cols) + row * cols ≤ k = subst (λ n. n * ((row + high) * cols) + row * cols ≤ k) first lo in
      let above : k < 0 * ((row + high) * cols) + row * cols + high * cols = subst (λ n. k < n * ((row + high) * cols) + row * cols + high * cols) first hi in
      let place = in_row cols row high k (omega (arith, low)) (omega (arith, above)) in
      out (k / cols) place.0 place.1 (omega (arith, place.2)) (omega (arith, place.3)) valid is);
}
