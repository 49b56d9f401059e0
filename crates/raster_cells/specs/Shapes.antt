-- The shapes of rasters.
use Rattle.std.specs.Prelude.{ℕ, ◌*◌, ◌<◌, ◌≤◌, ◌≡◌, ◌⊎◌}

-- the limits of a shape: no number is 0, at most 65,536 depths and 2 ^ 24 values
pub record IsShape (rows cols depth : ℕ) : Type 0 where
  pub rows_above : 0 < rows
  pub cols_above : 0 < cols
  pub depth_above : 0 < depth
  pub depth_below : depth ≤ 65536
  pub size : rows * cols * depth ≤ 16777216

-- a number of the shape is 0
abbrev pub HasZero : ℕ → ℕ → ℕ → Type 0
HasZero rows cols depth = (rows ≡ 0) ⊎ ((cols ≡ 0) ⊎ (depth ≡ 0))

-- the depth or the number of values is above its limit
abbrev pub IsTooLarge : ℕ → ℕ → ℕ → Type 0
IsTooLarge rows cols depth = (65536 < depth) ⊎ (16777216 < rows * cols * depth)
