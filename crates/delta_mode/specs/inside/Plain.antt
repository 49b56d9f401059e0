-- Symbols of all depths: those of a valid pixel stand one behind the other.
use Rattle.std.specs.Prelude.{ℕ, ◌≡◌, ◌+◌, ◌*◌, ◌<◌, ◌≤◌, Bool, true, ℤ, List, get_or}
use Rattle.raster_cells.specs.declared.kind.PixelType.{PixelType}
use Rattle.delta_mode.specs.Symbols.{symbol_of}
use Rattle.delta_mode.specs.inside.Pieces.{rank}

-- the valid pixels from number `from` on and below `to` have values with the symbols of a list;
-- `value` says which value each has at a depth
pub record ArePlaced (kind : PixelType) (depth : ℕ) (valid : ℕ → Bool) (value : ℕ → ℕ → ℤ)
    (from to : ℕ) (symbols : List ℕ) : Type 0 where
  pub each : (k e : ℕ) → from ≤ k → k < to → e < depth → valid k ≡ true
      → symbol_of kind (value e k) ≡ get_or symbols (rank valid k * depth + e) 0
