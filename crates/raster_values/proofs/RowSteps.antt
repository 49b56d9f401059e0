-- The loops over the rows of a block.
use Rattle.std.proofs.Common.{[], ◌≡◌, ℕ, ◌+◌, List, ◌++◌, sym, ap, ◌∙◌, ◌≤◌, zero, suc, length, subst, arith, length-append, ◌-◌, ◌<◌, ◌*◌, Bool, map, take, true, false, cond, ◌∷◌, get_or, refl, ⊎_elim}
use Rattle.std.specs.List.{flat_map, range_with_len}
use Rattle.std.proofs.lemmas.List.{flat_map_more, map-append}
use Rattle.std.proofs.Math.Nat.{mul-le-mul_left, mul-le-mul_right}
use Rattle.std.specs.Prelude.{ℤ}
use Rattle.std.proofs.lemmas.Bool.{cases_lt}
use Rattle.raster_cells.proofs.RunSteps.{range_more}
use Rattle.raster_cells.specs.Runs.{run_places}
use Rattle.raster_values.specs.inside.Runs.{Gathers, rows_places, run_values, rows_values, LeavesRun, LeavesRows}
use Rattle.raster_cells.proofs.Every.{every_range, same_flat_map}
use Rattle.raster_values.proofs.RunSteps.{gathers_join, run_same, length_places}

pub pieces_more : {Y : Type 0} (f : ℕ → List Y) (a n : ℕ) → flat_map f (range_with_len a (n + 1)) ≡ flat_map f (range_with_len a n) ++ f (a + n)
pieces_more f a n = ap (flat_map f) (range_more a n) ∙ sym (flat_map_more f [] (range_with_len a n) (a + n))

pieces_rise : {Y : Type 0} (f : ℕ → List Y) (a n more : ℕ) → length (flat_map f (range_with_len a n)) ≤ length (flat_map f (range_with_len a (n + more)))
pieces_rise f a n zero = subst (λ m. length (flat_map f (range_with_len a n)) ≤ length (flat_map f (range_with_len a m))) (let e : n ≡ n + 0 = omega arith in e) (let same : length (flat_map f (range_with_len a n)) ≤ length (flat_map f (range_with_len a n)) = omega arith in same)
pieces_rise f a n (suc more) =
    let e : n + more + 1 ≡ n + suc more = omega arith in
    let up : length (flat_map f (range_with_len a n)) ≤ length (flat_map f (range_with_len a (n + more + 1))) =
    omega (arith, pieces_rise f a n more, ap length (pieces_more f a (n + more)), length-append (flat_map f (range_with_len a (n + more))) (f (a + (n + more)))) in
    subst (λ m. length (flat_map f (range_with_len a n)) ≤ length (flat_map f (range_with_len a m))) e up

-- the next piece is one of all
pub piece_fits : {Y : Type 0} (f : ℕ → List Y) (a n all : ℕ) → n < all → length (flat_map f (range_with_len a n)) + length (f (a + n)) ≤ length (flat_map f (range_with_len a all))
piece_fits f a n all below =
    let e : n + 1 + (all - n - 1) ≡ all = omega arith in
    let rise : length (flat_map f (range_with_len a (n + 1))) ≤ length (flat_map f (range_with_len a all)) =
    subst (λ m. length (flat_map f (range_with_len a (n + 1))) ≤ length (flat_map f (range_with_len a m))) e (pieces_rise f a (n + 1) (all - n - 1)) in
    omega (arith, rise, ap length (pieces_more f a n), length-append (flat_map f (range_with_len a n)) (f (a + n)))

-- the pixels of a row of a block stand among all, of which there are few
pub row_inside : (i end cols col wide places depth d size : ℕ) → i < end → end * cols ≤ places → col + wide ≤ cols → d < depth → size ≡ places * depth → size ≤ 16777216 → (i * cols + col + wide ≤ places) × (places ≤ 16777216)
row_inside i end cols col wide places depth d size below within across deep is few =
    let up : suc i * cols ≤ end * cols = mul-le-mul_right cols (omega arith) in
    let one : places * 1 ≤ places * depth = mul-le-mul_left places (omega arith) in
    (omega (arith, up), omega (arith, one))

pub area_inside : (h row high wide cols size : ℕ) → h < high → wide ≤ cols → (row + high) * cols ≤ size → h * wide + wide ≤ size
area_inside h row high wide cols size below across within =
    let first : suc h * wide ≤ suc h * cols = mul-le-mul_left (suc h) across in
    let second : suc h * cols ≤ (row + high) * cols = mul-le-mul_right cols (omega arith) in
    omega (arith, first, second)

pub count_more : (marks : List Bool) (cols row col h wide n found : ℕ) → n ≡ length (rows_places marks cols row col h wide) → found ≡ length (run_places marks ((row + h) * cols + col) wide)
    → n + found ≡ length (rows_places marks cols row col (h + 1) wide)
count_more marks cols row col h wide n found before here =
    let f : ℕ → List ℕ = λ i. run_places marks (i * cols + col) wide in
    let e : length (rows_places marks cols row col (h + 1) wide) ≡ length (rows_places marks cols row col h wide) + length (f (row + h)) = ap length (pieces_more f row h) ∙ length-append (flat_map f (range_with_len row h)) (f (row + h)) in
    omega (arith, e)

pub gather_more : {X : Type 0} (g : ℤ → X) (depth d : ℕ) (marks : List Bool) (values : List ℤ) (old mid new : List X) (cols row col h wide n end : ℕ)
    → Gathers (map g (rows_values depth d marks values cols row col h wide)) old mid 0 n → Gathers (map g (run_values depth d marks values ((row + h) * cols + col) wide)) mid new n end
    → Gathers (map g (rows_values depth d marks values cols row col (h + 1) wide)) old new 0 end
gather_more g depth d marks values old mid new cols row col h wide n end before here =
    let f : ℕ → List ℤ = λ i. run_values depth d marks values (i * cols + col) wide in
    let rows = rows_values depth d marks values cols row col h wide in
    subst (λ vs. Gathers vs old new 0 end) (sym (ap (map g) (pieces_more f row h) ∙ map-append g rows (f (row + h))))
    (gathers_join (map g rows) (map g (f (row + h))) old mid new 0 n end before here)

-- the rows above a run are as they were
above_same : (depth d : ℕ) (marks : List Bool) (values new : List ℤ) (cols row col h wide : ℕ) → d < depth → col + wide ≤ cols
    → LeavesRun depth d marks ((row + h) * cols + col) wide values new → rows_values depth d marks new cols row col h wide ≡ rows_values depth d marks values cols row col h wide
above_same depth d marks values new cols row col h wide below across leaves =
    same_flat_map (λ i. run_values depth d marks new (i * cols + col) wide) (λ i. run_values depth d marks values (i * cols + col) wide) (range_with_len row h)
    (every_range (λ i. run_values depth d marks new (i * cols + col) wide ≡ run_values depth d marks values (i * cols + col) wide) row h (λ i lo hi.
    run_same depth d marks values new (i * cols + col) wide (λ k from to.
    leaves.rest k d below (λ after _ _ _.
    let up : suc i * cols ≤ (row + h) * cols = mul-le-mul_right cols (omega arith) in
    let no : ⊥ = omega (arith, up) in no))))

pub scatter_more : (depth d : ℕ) (marks : List Bool) (input values new : List ℤ) (cols row col h wide n end : ℕ) → d < depth → col + wide ≤ cols
    → rows_values depth d marks values cols row col h wide ≡ take n input → LeavesRun depth d marks ((row + h) * cols + col) wide values new
    → take n input ++ run_values depth d marks new ((row + h) * cols + col) wide ≡ take end input
    → rows_values depth d marks new cols row col (h + 1) wide ≡ take end input
scatter_more depth d marks input values new cols row col h wide n end below across before leaves here =
    let f : ℕ → List ℤ = λ i. run_values depth d marks new (i * cols + col) wide in
    pieces_more f row h
    ∙ ap (λ vs. vs ++ f (row + h)) (above_same depth d marks values new cols row col h wide below across leaves ∙ before)
    ∙ here

pub leaves_more : (depth d : ℕ) (marks : List Bool) (old values new : List ℤ) (cols row col h wide : ℕ)
    → LeavesRows depth d marks cols row col h wide old values → LeavesRun depth d marks ((row + h) * cols + col) wide values new
    → LeavesRows depth d marks cols row col (h + 1) wide old new
leaves_more depth d marks old values new cols row col h wide before here = record {
  rest = λ k e less out.
      here.rest k e less (λ lo hi valid is. out (row + h) (omega arith) (omega arith) lo hi valid is)
      ∙ before.rest k e less (λ i from to lo hi valid is. out i from (omega arith) lo hi valid is);
}

-- so many rows have no more marked pixels than pixels
rows_most : (marks : List Bool) (cols row col wide n : ℕ) → length (rows_places marks cols row col n wide) ≤ n * wide
rows_most marks cols row col wide zero = omega arith
rows_most marks cols row col wide (suc n) =
    let f : ℕ → List ℕ = λ i. run_places marks (i * cols + col) wide in
    let more : length (flat_map f (range_with_len row (suc n))) ≡ length (flat_map f (range_with_len row n)) + length (f (row + n)) =
    ap (λ m. length (flat_map f (range_with_len row m))) (let e : suc n ≡ n + 1 = omega arith in e) ∙ ap length (pieces_more f row n) ∙ length-append (flat_map f (range_with_len row n)) (f (row + n)) in
    omega (arith, more, rows_most marks cols row col wide n, length_places marks ((row + n) * cols + col) wide)

-- so many rows behind others add no more either
rows_rise : (marks : List Bool) (cols row col wide n more : ℕ) → length (rows_places marks cols row col (n + more) wide) ≤ length (rows_places marks cols row col n wide) + more * wide
rows_rise marks cols row col wide n zero = subst (λ m. length (rows_places marks cols row col m wide) ≤ length (rows_places marks cols row col n wide) + 0 * wide) (let e : n ≡ n + 0 = omega arith in e) (omega arith)
rows_rise marks cols row col wide n (suc more) =
    let f : ℕ → List ℕ = λ i. run_places marks (i * cols + col) wide in
    let last : length (rows_places marks cols row col (n + suc more) wide) ≡ length (rows_places marks cols row col (n + more) wide) + length (f (row + (n + more))) =
    ap (λ m. length (flat_map f (range_with_len row m))) (let e : n + suc more ≡ n + more + 1 = omega arith in e) ∙ ap length (pieces_more f row (n + more)) ∙ length-append (flat_map f (range_with_len row (n + more))) (f (row + (n + more))) in
    omega (arith, last, rows_rise marks cols row col wide n more, length_places marks ((row + (n + more)) * cols + col) wide)

-- where all pixels of a block are marked, so are those of each row
pub row_full : (marks : List Bool) (cols row col high wide h : ℕ) → length (rows_places marks cols row col high wide) ≡ high * wide → h < high → length (run_places marks ((row + h) * cols + col) wide) ≡ wide
row_full marks cols row col high wide h all below =
    let f : ℕ → List ℕ = λ i. run_places marks (i * cols + col) wide in
    let more = high - h - 1 in
    let split : h + 1 + more ≡ high = omega arith in
    let rise : length (rows_places marks cols row col high wide) ≤ length (rows_places marks cols row col (h + 1) wide) + more * wide =
    subst (λ m. length (rows_places marks cols row col m wide) ≤ length (rows_places marks cols row col (h + 1) wide) + more * wide) split (rows_rise marks cols row col wide (h + 1) more) in
    let here : length (rows_places marks cols row col (h + 1) wide) ≡ length (rows_places marks cols row col h wide) + length (f (row + h)) = ap length (pieces_more f row h) ∙ length-append (flat_map f (range_with_len row h)) (f (row + h)) in
    let area : high * wide ≡ h * wide + wide + more * wide = ap (λ m. m * wide) (sym split) ∙ omega arith in
    omega (arith, all, rise, here, area, rows_most marks cols row col wide h, length_places marks ((row + h) * cols + col) wide)

-- and each pixel of a row of which all are marked is
pub all_marked : (marks : List Bool) (from n : ℕ) → length (run_places marks from n) ≡ n → (k : ℕ) → from ≤ k → k < from + n → get_or marks k false ≡ true
all_marked marks from zero full k low high = absurd (omega arith)
all_marked marks from (suc n) full k low high =
    first (get_or marks from false) refl full (λ rest lt. all_marked marks (from + 1) n rest k (omega (arith, lt)) (omega (arith, high)))
  where
    first : (b : Bool) → get_or marks from false ≡ b → length (cond b (from ∷ run_places marks (from + 1) n) (run_places marks (from + 1) n)) ≡ suc n
        → (length (run_places marks (from + 1) n) ≡ n → from < k → get_or marks k false ≡ true) → get_or marks k false ≡ true
    first true e size later = ⊎_elim
        (λ (lt : from < k). later (omega (arith, size)) lt)
        (λ (ge : k ≤ from). let same : from ≡ k = omega arith in subst (λ (j : ℕ). get_or marks j false ≡ true) same e)
        (cases_lt from k)
    first false e size later = absurd (let no : ⊥ = omega (arith, size, length_places marks (from + 1) n) in no)
