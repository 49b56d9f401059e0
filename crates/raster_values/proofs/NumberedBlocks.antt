-- Blocks by the numbers of their pixels, and masks by their marks.
use Rattle.std.proofs.Common.{◌≡◌, ℕ, ◌<◌, ◌≤◌, false, length, get_or, None, sym, ap, ◌∙◌, arith, ⊎_elim, ◌+◌, ◌-◌, ◌*◌, min, Bool, map, refl, ◌/◌, ◌%◌}
use Rattle.std.specs.Prelude.{is_some, ℤ}
use Rattle.std.proofs.lemmas.List.{get_or-map, length-map, get_or_past, ext_get_or}
use Rattle.std.proofs.lemmas.Bool.{cases_lt}
use Rattle.std.specs.List.{filter, range_with_len}
use Rattle.std.proofs.lemmas.List.FromFn.{length-map-range_with_len, get_or-map-range_with_len}
use Rattle.std.proofs.lemmas.Nat.{div_below}
use Rattle.raster_cells.proofs.Every.{every_range, same_flat_map}
use Rattle.raster_cells.specs.Masks.{mask_bit, marks_in}
use Rattle.raster_values.specs.Raster.{Pixels, valid_at, value_at}
use Rattle.raster_values.specs.Flat.{marks_of, value_in, BlockIsNumbered, MarkedByBits, MaskSaysMarks}
use Rattle.raster_values.specs.Block.{block_values}
use Rattle.raster_values.proofs.BlockViews.{picks_flat, picks_same}

pub marks_at : (r : Pixels) (k : ℕ) → get_or (marks_of r) k false ≡ is_some (get_or r.pixels k None)
marks_at r k =
    ⊎_elim
    (λ (less : k < length r.pixels). get_or-map is_some r.pixels k None false less)
    (λ (past : length r.pixels ≤ k). get_or_past (marks_of r) k false (omega (arith, length-map r.pixels is_some)) ∙ ap is_some (sym (get_or_past r.pixels k None past)))
    (cases_lt k (length r.pixels))

pub block_numbered : BlockIsNumbered
unfolding block_values
block_numbered r row col side d =
    let f : ℕ × ℕ → ℤ = λ p. value_at r p.0 p.1 d in
    let q : ℕ × ℕ → Bool = λ p. valid_at r p.0 p.1 in
    let F : ℕ → ℤ = value_in r d in
    let Q : ℕ → Bool = λ k. get_or (marks_of r) k false in
    let wide = min side (r.cols - col) in
    let high = min side (r.rows - row) in
    picks_flat f q (λ i. map (λ j. (i, j)) (range_with_len col wide)) (range_with_len row high)
    ∙ same_flat_map (λ i. map f (filter q (map (λ j. (i, j)) (range_with_len col wide)))) (λ i. map F (filter Q (map (λ j. i * r.cols + j) (range_with_len col wide)))) (range_with_len row high)
    (every_range (λ i. map f (filter q (map (λ j. (i, j)) (range_with_len col wide))) ≡ map F (filter Q (map (λ j. i * r.cols + j) (range_with_len col wide)))) row high (λ i from to.
    picks_same f q (λ j. (i, j)) (λ j. F (i * r.cols + j)) (λ j. Q (i * r.cols + j)) col col wide (λ k less. sym (marks_at r (i * r.cols + (col + k)))) (λ k less on. refl)
    ∙ sym (picks_same F Q (λ j. i * r.cols + j) (λ j. F (i * r.cols + j)) (λ j. Q (i * r.cols + j)) col col wide (λ k less. refl) (λ k less on. refl))))
    ∙ sym (picks_flat F Q (λ i. map (λ j. i * r.cols + j) (range_with_len col wide)) (range_with_len row high))

pub marked_by_bits : MarkedByBits
unfolding marks_in
marked_by_bits old new mask sound h =
    let n : new.rows * new.cols ≡ old.rows * old.cols = ap (λ m. m * new.cols) (sym h.shape.rows) ∙ ap (λ m. old.rows * m) (sym h.shape.cols) in
    let long : length (marks_of new) ≡ old.rows * old.cols = length-map new.pixels is_some ∙ sound.places ∙ n in
    ext_get_or false (marks_of new) (map (mask_bit mask) (range_with_len 0 (old.rows * old.cols))) (long ∙ sym (length-map-range_with_len (mask_bit mask) 0 (old.rows * old.cols))) (λ k below.
    let less : k < old.rows * old.cols = omega (arith, long) in
    let wide : 0 < old.cols = omega (arith, sound.shape.cols_above, h.shape.cols) in
    let row : k / old.cols < old.rows = div_below k old.cols old.rows wide less in
    let col : k % old.cols < old.cols = omega arith in
    let at : k / old.cols * old.cols + k % old.cols ≡ k = omega arith in
    let there : k / old.cols * new.cols + k % old.cols ≡ k = ap (λ m. k / old.cols * m + k % old.cols) (sym h.shape.cols) ∙ at in
    marks_at new k ∙ ap (λ j. is_some (get_or new.pixels j None)) (sym there) ∙ h.places (k / old.cols) (k % old.cols) (row, col) ∙ ap (mask_bit mask) at
    ∙ sym (get_or-map-range_with_len (mask_bit mask) 0 (old.rows * old.cols) k k false less (let e : 0 + k ≡ k = omega arith in e)))

pub mask_says_marks : MaskSaysMarks
unfolding marks_in
mask_says_marks r mask sound h =
    let long : length (marks_of r) ≡ r.rows * r.cols = length-map r.pixels is_some ∙ sound.places in
    ext_get_or false (map (mask_bit mask) (range_with_len 0 (r.rows * r.cols))) (marks_of r) (length-map-range_with_len (mask_bit mask) 0 (r.rows * r.cols) ∙ sym long) (λ k below.
    let less : k < r.rows * r.cols = omega (arith, length-map-range_with_len (mask_bit mask) 0 (r.rows * r.cols)) in
    get_or-map-range_with_len (mask_bit mask) 0 (r.rows * r.cols) k k false less (let e : 0 + k ≡ k = omega arith in e) ∙ h.bits k less ∙ sym (marks_at r k))
