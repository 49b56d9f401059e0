-- The tiles of a sample: numbers that each follow from the one before, and the pixels that they
-- stand for.
use Rattle.std.specs.Prelude.{ℕ, ℤ, pos, zero, suc, ◌+◌, ◌*◌, ◌/◌, ◌%◌, ◌^◌, nat_eq, if◌then◌else◌, List, [], ◌∷◌, map, Option, None, Some}
use Rattle.std.specs.List.{range_with_len}
use Rattle.raster_cells.specs.declared.kind.PixelType.TheVariants.{I16}
use Rattle.raster_values.specs.Raster.{Pixels}

-- the number that follows
abbrev pub follower : ℕ → ℕ
follower x = (1664525 * x + 1013904223) % 2 ^ 32

-- the number after so many steps
unfoldable pub drawn : ℕ → ℕ → ℕ
drawn start zero = start
drawn start (suc n) = follower (drawn start n)

-- the pixel at a row and a column for which this number is drawn: invalid for one in sixteen
abbrev pub drawn_pixel : ℕ → ℕ → ℕ → Option (List ℤ)
drawn_pixel row col x = if nat_eq (x / 2 ^ 28) 0 then None
    else Some (pos (4 * row + 2 * col + x / 65536 % 16) ∷ [])

-- pixel number k of tile number t: the numbers go on from pixel to pixel and from tile to tile
unfoldable pub sample_pixel : ℕ → ℕ → ℕ → Option (List ℤ)
sample_pixel start t k = drawn_pixel (k / 64) (k % 64) (drawn start (4096 * t + k + 1))

-- tile number t, of 64 rows and columns
unfoldable pub sample_tile : ℕ → ℕ → Pixels
sample_tile start t =
    record {
      kind = I16;
      rows = 64;
      cols = 64;
      depth = 1;
      pixels = map (sample_pixel start t) (range_with_len 0 4096);
    }
