-- How far from 0 values are.
use Rattle.std.specs.Prelude.{ℕ}
use Rattle.raster_cells.specs.declared.kind.PixelType.{PixelType}
use Rattle.raster_cells.specs.declared.kind.PixelType.TheVariants.{I8, U8, I16, U16, I32, U32}

-- how far from 0 the values of a type are, as it is said for all types whose values have as many
-- bits for their sums: 32 bits where they have at most 16 themselves, and else 64
abbrev pub reach_of : PixelType → ℕ
reach_of I8 = 65536
reach_of U8 = 65536
reach_of I16 = 65536
reach_of U16 = 65536
reach_of I32 = 4294967296
reach_of U32 = 4294967296
