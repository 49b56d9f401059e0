-- Runs of pixels in the two vectors of a raster.
use Rattle.std.specs.Prelude.{[], ℕ, ℤ, pos, ◌+◌, ◌*◌, Bool, List, map, get_or, ◌≡◌, Option, Some, None, ◌<◌, ◌≤◌, true, false, ◌++◌, length, take, drop}
use Rattle.std.specs.List.{flat_map, range_with_len}
use Rattle.raster_cells.specs.Runs.{run_places}
use Rattle.lane_kernels.specs.Kernels.{IsLeast, IsGreatest}

-- their values at a depth
abbrev pub run_values : ℕ → ℕ → List Bool → List ℤ → ℕ → ℕ → List ℤ
run_values depth d marks values from count = map
    (λ k. get_or values (k * depth + d) (pos 0)) (run_places marks from count)

-- the same of `high` runs of `wide` pixels, one in each row, from (row, col) on
abbrev pub rows_places : List Bool → ℕ → ℕ → ℕ → ℕ → ℕ → List ℕ
rows_places marks cols row col high wide = flat_map
    (λ i. run_places marks (i * cols + col) wide) (range_with_len row high)

abbrev pub rows_values : ℕ → ℕ → List Bool → List ℤ → ℕ → ℕ → ℕ → ℕ → ℕ → List ℤ
rows_values depth d marks values cols row col high wide = flat_map
    (λ i. run_values depth d marks values (i * cols + col) wide) (range_with_len row high)

-- a pair is the least and the greatest of the values, and there is none of no values
abbrev pub IsRange : Option (ℤ × ℤ) → List ℤ → Type 0
IsRange None values = values ≡ []
IsRange (Some pair) values = IsLeast values pair.0 × IsGreatest values pair.1

-- the values at a depth of the marked pixels among `count` from `from` on were replaced, and no
-- other value
pub record LeavesRun (depth d : ℕ) (marks : List Bool) (from count : ℕ)
    (old new : List ℤ) : Type 0 where
  pub rest : (k e : ℕ) → e < depth
      → (from ≤ k → k < from + count → get_or marks k false ≡ true → e ≡ d → ⊥)
      → get_or new (k * depth + e) (pos 0) ≡ get_or old (k * depth + e) (pos 0)

-- the values at a depth of the marked pixels among `count` from `from` on are those of the input
-- from number `at` up to `end`, and no other value was replaced
pub record ScattersRun (depth d : ℕ) (marks : List Bool) (input old new : List ℤ)
    (from count at end : ℕ) : Type 0 where
  pub ends : end ≡ at + length (run_places marks from count)
  pub scattered : take at input ++ run_values depth d marks new from count ≡ take end input
  pub rest : LeavesRun depth d marks from count old new

-- the same of runs of rows
pub record LeavesRows (depth d : ℕ) (marks : List Bool) (cols row col high wide : ℕ)
    (old new : List ℤ) : Type 0 where
  pub rest : (k e : ℕ) → e < depth
      → ((i : ℕ) → row ≤ i → i < row + high → i * cols + col ≤ k → k < i * cols + col + wide
      → get_or marks k false ≡ true → e ≡ d → ⊥)
      → get_or new (k * depth + e) (pos 0) ≡ get_or old (k * depth + e) (pos 0)

-- the values were put behind the first `at` of `old`, up to `end`, and nothing else was changed
pub record Gathers {X : Type 0} (values old new : List X) (at end : ℕ) : Type 0 where
  pub ends : end ≡ at + length values
  pub front : take end new ≡ take at old ++ values
  pub rest : drop end new ≡ drop end old

-- the values at a depth of all pixels of these rows
abbrev pub whole_rows : ℕ → ℕ → List ℤ → ℕ → ℕ → ℕ → ℕ → ℕ → List ℤ
whole_rows depth d values cols row col high wide = flat_map
    (λ i. map (λ k. get_or values (k * depth + d) (pos 0)) (range_with_len (i * cols + col) wide))
    (range_with_len row high)
