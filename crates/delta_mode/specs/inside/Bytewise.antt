-- Bytes that stand for values, and their symbols.
use Rattle.std.specs.Prelude.{ℕ, ℤ, ◌+◌, ◌-◌, ◌%◌}
use Rattle.raster_cells.specs.PixelType.{complement_of}

-- the byte that stands for a value
abbrev pub byte_of : ℤ → ℕ
byte_of v = complement_of 1 v % 256

-- a byte less another, and what is added to it, modulo 256
abbrev pub wrapped : ℕ → ℕ → ℕ → ℕ
wrapped bias here before = ((here + (256 - before)) % 256 + bias) % 256
