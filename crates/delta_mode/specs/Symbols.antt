-- The symbol of a number: a byte.
use Rattle.std.specs.Prelude.{ℕ, ◌≡◌, ℤ, pos, ◌+ℤ◌, unsigned_abs, if◌then◌else◌}
use Rattle.std.specs.Int.{int_rem_euclid}
use Rattle.raster_cells.specs.declared.kind.PixelType.{PixelType}
use Rattle.raster_cells.specs.PixelType.{bytes_of, is_signed}

-- a value of the type takes one byte: it is i8 or u8
abbrev pub IsByteType : PixelType → Type 0
IsByteType kind = bytes_of kind ≡ 1

-- what is added to a number of the type, so that it is not below 0: 128 for i8
abbrev pub bias : PixelType → ℕ
bias kind = if is_signed kind then 128 else 0

-- the number with its bias, modulo 256; so a number wrapped into the type has the same symbol
unfoldable pub symbol_of : PixelType → ℤ → ℕ
symbol_of kind number = unsigned_abs (int_rem_euclid (number +ℤ pos (bias kind)) (pos 256))
