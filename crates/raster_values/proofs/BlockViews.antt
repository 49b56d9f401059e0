-- How the runs of the vectors stand for the blocks of a raster.
use Rattle.std.proofs.Common.{[], ◌≡◌, Bool, List, ◌∷◌, ◌++◌, map, refl, sym, ap, ◌∙◌, ℕ, ◌+◌, ◌<◌, zero, suc, true, false, cond, arith, ◌*◌, length, get_or, ◌-◌, min, length-append, drop, ◌≤◌}
use Rattle.std.specs.List.{filter, flat_map, range_with_len}
use Rattle.std.proofs.lemmas.List.{map-append, length-map, take-append-drop}
use Rattle.std.proofs.lemmas.List.Elements.{filter-append}
use Rattle.std.proofs.lemmas.List.Concat.{flat_map-cons}
use Rattle.std.specs.Prelude.{ℤ, pos, unwrap_or, All}
use Rattle.std.proofs.lemmas.Nat.{mul-add-lt, same_from_place}
use Rattle.std.proofs.lemmas.Bool.{false≢true}
use Rattle.raster_cells.specs.declared.kind.PixelType.{PixelType}
use Rattle.raster_cells.proofs.Every.{every_range, same_flat_map}
use Rattle.raster_cells.specs.Runs.{run_places}
use Rattle.raster_values.specs.inside.Runs.{Gathers, run_values, rows_values, rows_places, LeavesRows}
use Rattle.raster_cells.specs.PixelType.{InRange}
use Rattle.raster_values.specs.Raster.{Pixels, value_at, valid_at}
use Rattle.raster_values.specs.View.{pixels_of, seen, IsInside}
use Rattle.raster_values.proofs.Views.{get_or-pixels_of, value-pixel_of, valid-pixels_of, KeepsValues}
use Rattle.raster_values.specs.Block.{block_values, block_count, InBlock, ScattersBlock}
use Rattle.raster_values.proofs.RunSteps.{length_values}
use Rattle.raster_values.proofs.BlockLaws.{has_count}
use Rattle.raster_values.specs.declared.rasters.raster.Raster.TheInside.{Inside}

-- ---- places

pub picks_flat : {A X Y : Type 0} (f : X → Y) (q : X → Bool) (g : A → List X) (xs : List A) → map f (filter q (flat_map g xs)) ≡ flat_map (λ i. map f (filter q (g i))) xs
picks_flat f q g [] = refl
picks_flat f q g (x ∷ xs) =
    ap (λ ys. map f (filter q ys)) (flat_map-cons g x xs) ∙ ap (map f) (filter-append q (g x) (flat_map g xs)) ∙ map-append f (filter q (g x)) (filter q (flat_map g xs))
    ∙ ap (λ ys. map f (filter q (g x)) ++ ys) (picks_flat f q g xs) ∙ sym (flat_map-cons (λ i. map f (filter q (g i))) x xs)

pub picks_same : {X : Type 0} (f : X → ℤ) (q : X → Bool) (g : ℕ → X) (F : ℕ → ℤ) (Q : ℕ → Bool) (c s n : ℕ)
    → ((k : ℕ) → k < n → q (g (c + k)) ≡ Q (s + k)) → ((k : ℕ) → k < n → Q (s + k) ≡ true → f (g (c + k)) ≡ F (s + k))
    → map f (filter q (map g (range_with_len c n))) ≡ map F (filter Q (range_with_len s n))
picks_same f q g F Q c s zero hq hf = refl
picks_same f q g F Q c s (suc n) hq hf =
    let rest : map f (filter q (map g (range_with_len (c + 1) n))) ≡ map F (filter Q (range_with_len (s + 1) n)) =
    picks_same f q g F Q (c + 1) (s + 1) n
    (λ k less. ap (λ i. q (g i)) (let e : c + 1 + k ≡ c + suc k = omega arith in e) ∙ hq (suc k) (omega arith) ∙ ap Q (let e : s + suc k ≡ s + 1 + k = omega arith in e))
    (λ k less on. ap (λ i. f (g i)) (let e : c + 1 + k ≡ c + suc k = omega arith in e) ∙ hf (suc k) (omega arith) (ap Q (let e : s + suc k ≡ s + 1 + k = omega arith in e) ∙ on) ∙ ap F (let e : s + suc k ≡ s + 1 + k = omega arith in e)) in
    let here : q (g c) ≡ Q s = ap (λ i. q (g i)) (let e : c ≡ c + 0 = omega arith in e) ∙ hq 0 (omega arith) ∙ ap Q (let e : s + 0 ≡ s = omega arith in e) in
    let value : Q s ≡ true → f (g c) ≡ F s = λ on. ap (λ i. f (g i)) (let e : c ≡ c + 0 = omega arith in e) ∙ hf 0 (omega arith) (ap Q (let e : s + 0 ≡ s = omega arith in e) ∙ on) ∙ ap F (let e : s + 0 ≡ s = omega arith in e) in
    ap (λ b. map f (cond b (g c ∷ filter q (map g (range_with_len (c + 1) n))) (filter q (map g (range_with_len (c + 1) n))))) here
    ∙ (elim (Q s) as (λ b. (b ≡ true → f (g c) ≡ F s) → map f (cond b (g c ∷ filter q (map g (range_with_len (c + 1) n))) (filter q (map g (range_with_len (c + 1) n)))) ≡ map F (cond b (s ∷ filter Q (range_with_len (s + 1) n)) (filter Q (range_with_len (s + 1) n)))) [
      | true ↦ λ is. ap (λ y. y ∷ map f (filter q (map g (range_with_len (c + 1) n)))) (is refl) ∙ ap (λ ys. F s ∷ ys) rest
      | false ↦ λ _. rest
    ]) value

-- ---- a raster of vectors

abbrev raster_of : PixelType → ℕ → ℕ → ℕ → List Bool → List ℤ → Pixels
raster_of kind rows cols depth marks values = record { kind = kind; rows = rows; cols = cols; depth = depth; pixels = pixels_of depth marks values }

abbrev AreZero : ℕ → List Bool → List ℤ → Type 0
AreZero depth marks values = (k d : ℕ) → k < length marks → d < depth → get_or marks k false ≡ false → get_or values (k * depth + d) (pos 0) ≡ pos 0

pub value_there : (kind : PixelType) (rows cols depth : ℕ) (marks : List Bool) (values : List ℤ) (i j d : ℕ) → AreZero depth marks values → length marks ≡ rows * cols → i < rows → j < cols → d < depth
    → value_at (raster_of kind rows cols depth marks values) i j d ≡ get_or values ((i * cols + j) * depth + d) (pos 0)
value_there kind rows cols depth marks values i j d zeros size high wide below =
    ap (λ p. get_or (unwrap_or p []) d (pos 0)) (get_or-pixels_of depth marks values (i * cols + j))
    ∙ value-pixel_of depth marks values (i * cols + j) d below (zeros (i * cols + j) d (omega (arith, mul-add-lt i cols j rows high wide, size)) below)

pub value_marked : (kind : PixelType) (rows cols depth : ℕ) (marks : List Bool) (values : List ℤ) (i j d : ℕ) → get_or marks (i * cols + j) false ≡ true → d < depth
    → value_at (raster_of kind rows cols depth marks values) i j d ≡ get_or values ((i * cols + j) * depth + d) (pos 0)
value_marked kind rows cols depth marks values i j d on below =
    ap (λ p. get_or (unwrap_or p []) d (pos 0)) (get_or-pixels_of depth marks values (i * cols + j))
    ∙ value-pixel_of depth marks values (i * cols + j) d below (λ off. absurd (false≢true (sym off ∙ on)))

pub block_of_rows : (kind : PixelType) (rows cols depth : ℕ) (marks : List Bool) (values : List ℤ) (row col side d : ℕ) → d < depth
    → block_values (raster_of kind rows cols depth marks values) row col side d ≡ rows_values depth d marks values cols row col (min side (rows - row)) (min side (cols - col))
unfolding block_values
block_of_rows kind rows cols depth marks values row col side d below =
    let r = raster_of kind rows cols depth marks values in
    let f : ℕ × ℕ → ℤ = λ p. value_at r p.0 p.1 d in
    let q : ℕ × ℕ → Bool = λ p. valid_at r p.0 p.1 in
    picks_flat f q (λ i. map (λ j. (i, j)) (range_with_len col (min side (cols - col)))) (range_with_len row (min side (rows - row)))
    ∙ same_flat_map (λ i. map f (filter q (map (λ j. (i, j)) (range_with_len col (min side (cols - col)))))) (λ i. run_values depth d marks values (i * cols + col) (min side (cols - col)))
    (range_with_len row (min side (rows - row)))
    (every_range (λ i. map f (filter q (map (λ j. (i, j)) (range_with_len col (min side (cols - col))))) ≡ run_values depth d marks values (i * cols + col) (min side (cols - col))) row (min side (rows - row)) (λ i from to.
    picks_same f q (λ j. (i, j)) (λ k. get_or values (k * depth + d) (pos 0)) (λ k. get_or marks k false) col (i * cols + col) (min side (cols - col))
    (λ k less. valid-pixels_of depth marks values (i * cols + (col + k)) ∙ ap (λ n. get_or marks n false) (let e : i * cols + (col + k) ≡ i * cols + col + k = omega arith in e))
    (λ k less on.
    let at : i * cols + (col + k) ≡ i * cols + col + k = omega arith in
    value_marked kind rows cols depth marks values i (col + k) d (ap (λ n. get_or marks n false) at ∙ on) below ∙ ap (λ n. get_or values (n * depth + d) (pos 0)) at)))

length_rows : (depth d : ℕ) (marks : List Bool) (values : List ℤ) (cols col wide : ℕ) (is : List ℕ)
    → length (flat_map (λ i. run_values depth d marks values (i * cols + col) wide) is) ≡ length (flat_map (λ i. run_places marks (i * cols + col) wide) is)
length_rows depth d marks values cols col wide [] = refl
length_rows depth d marks values cols col wide (i ∷ is) =
    let f : ℕ → List ℤ = λ i. run_values depth d marks values (i * cols + col) wide in
    let g : ℕ → List ℕ = λ i. run_places marks (i * cols + col) wide in
    omega (
      arith,
      ap length (flat_map-cons f i is),
      length-append (f i) (flat_map f is),
      ap length (flat_map-cons g i is),
      length-append (g i) (flat_map g is),
      length_values depth d marks values (i * cols + col) wide,
      length_rows depth d marks values cols col wide is,
    )

pub count_of_rows : (kind : PixelType) (rows cols depth : ℕ) (marks : List Bool) (values : List ℤ) (row col side : ℕ) → AreZero depth marks values → length marks ≡ rows * cols → 0 < depth
    → block_count (raster_of kind rows cols depth marks values) row col side ≡ length (rows_places marks cols row col (min side (rows - row)) (min side (cols - col)))
count_of_rows kind rows cols depth marks values row col side zeros size below =
    sym (has_count (raster_of kind rows cols depth marks values) row col side 0)
    ∙ ap length (block_of_rows kind rows cols depth marks values row col side 0 below)
    ∙ length_rows depth 0 marks values cols col (min side (cols - col)) (range_with_len row (min side (rows - row)))

-- ---- what the calls answer

pub count_is : (a : Inside) (row col side n : ℕ) → IsInside a → n ≡ length (rows_places a.marks a.cols row col (min side (a.rows - row)) (min side (a.cols - col))) → n ≡ block_count (seen a) row col side
count_is a row col side n h found = found ∙ sym (count_of_rows a.values.kind a.rows a.cols a.depth a.marks a.values.values row col side h.zeros h.marks h.shape.depth_above)

pub gathered_is : {X : Type 0} (g : ℤ → X) (a : Inside) (row col side d n : ℕ) (old new : List X) → d < a.depth
    → Gathers (map g (rows_values a.depth d a.marks a.values.values a.cols row col (min side (a.rows - row)) (min side (a.cols - col)))) old new 0 n
    → (n ≡ block_count (seen a) row col side) × (new ≡ map g (block_values (seen a) row col side d) ++ drop (block_count (seen a) row col side) old)
gathered_is g a row col side d n old new below gathers =
    let r = seen a in
    let rows = rows_values a.depth d a.marks a.values.values a.cols row col (min side (a.rows - row)) (min side (a.cols - col)) in
    let same : block_values r row col side d ≡ rows = block_of_rows a.values.kind a.rows a.cols a.depth a.marks a.values.values row col side d below in
    let bare : n ≡ length rows = omega (arith, gathers.ends, length-map rows g) in
    let count : n ≡ block_count r row col side = bare ∙ ap length (sym same) ∙ has_count r row col side d in
    (count, sym (take-append-drop n new) ∙ ap (λ t. t ++ drop n new) (gathers.front ∙ ap (map g) (sym same)) ∙ ap (λ t. map g (block_values r row col side d) ++ t) (gathers.rest ∙ ap (λ m. drop m old) count))

-- ---- what scattering leaves

out_of_block : (i j row col side rows cols i' : ℕ) → j < cols → i < rows → row ≤ i' → i' < row + min side (rows - row) → i' * cols + col ≤ i * cols + j → i * cols + j < i' * cols + col + min side (cols - col)
    → InBlock row col side i j
out_of_block i j row col side rows cols i' across within from to lo hi =
    let t = i * cols + j - (i' * cols + col) in
    let here : i * cols + j ≡ i' * cols + (col + t) = omega arith in
    let inside : col + t < cols = omega arith in
    let is = same_from_place i j i' (col + t) cols across inside here in
    let rows_same : i ≡ i' = is.0 in
    let cols_same : j ≡ col + t = is.1 in
    record { below = omega arith; above = omega arith; right = omega arith; left = omega arith }

pub scatter_keeps : (a : Inside) (row col side d : ℕ) (input vs : List ℤ) → IsInside a → length vs ≡ length a.values.values → All (InRange a.values.kind) vs
    → LeavesRows a.depth d a.marks a.cols row col (min side (a.rows - row)) (min side (a.cols - col)) a.values.values vs → KeepsValues a a.marks vs
scatter_keeps a row col side d input vs h size fits leaves = record {
  values = size ∙ h.values;
  in_range = fits;
  zeros = λ k e within below off. leaves.rest k e below (λ i from to lo hi on is. absurd (false≢true (sym off ∙ on))) ∙ h.zeros k e within below off;
}

pub scatter_scatters : (a : Inside) (row col side d : ℕ) (input vs : List ℤ) → IsInside a → d < a.depth → KeepsValues a a.marks vs
    → rows_values a.depth d a.marks vs a.cols row col (min side (a.rows - row)) (min side (a.cols - col)) ≡ input
    → LeavesRows a.depth d a.marks a.cols row col (min side (a.rows - row)) (min side (a.cols - col)) a.values.values vs
    → ScattersBlock (seen a) (record (seen a) { pixels = pixels_of a.depth a.marks vs }) row col side d input
scatter_scatters a row col side d input vs h below are scattered leaves = record {
  same = record {
    shape = record { kind = refl; rows = refl; cols = refl; depth = refl };
    places = λ i j within. valid-pixels_of a.depth a.marks vs (i * a.cols + j) ∙ sym (valid-pixels_of a.depth a.marks a.values.values (i * a.cols + j));
  };
  block = block_of_rows a.values.kind a.rows a.cols a.depth a.marks vs row col side d below ∙ scattered;
  rest = λ i j e within less out.
      value_there a.values.kind a.rows a.cols a.depth a.marks vs i j e are.zeros h.marks within.0 within.1 less
      ∙ leaves.rest (i * a.cols + j) e less (λ i' from to lo hi on is. out (out_of_block i j row col side a.rows a.cols i' within.1 within.0 from to lo hi) is)
      ∙ sym (value_there a.values.kind a.rows a.cols a.depth a.marks a.values.values i j e h.zeros h.marks within.0 within.1 less);
}
