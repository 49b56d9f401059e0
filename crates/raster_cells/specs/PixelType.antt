-- The six pixel types: their codes, their ranges, and the bytes that stand for a value.
use Rattle.std.specs.Prelude.{ℕ, Bool, true, false, ℤ, pos, negsuc, ◌≤ℤ◌, if◌then◌else◌, ◌≡◌, List, suc, ◌-◌, ◌*◌, ◌^◌}
use Rattle.byteorder.specs.Endian.{twos_complement, little_number, little_bytes}
use Rattle.raster_cells.specs.declared.kind.PixelType.{PixelType}
use Rattle.raster_cells.specs.declared.kind.PixelType.TheVariants.{I8, U8, I16, U16, I32, U32}

-- the number by which files name the type
abbrev pub code_of : PixelType → ℕ
code_of I8 = 0
code_of U8 = 1
code_of I16 = 2
code_of U16 = 3
code_of I32 = 4
code_of U32 = 5

-- how many bytes a value takes
abbrev pub bytes_of : PixelType → ℕ
bytes_of I8 = 1
bytes_of U8 = 1
bytes_of I16 = 2
bytes_of U16 = 2
bytes_of I32 = 4
bytes_of U32 = 4

-- the values of the type may be negative
abbrev pub is_signed : PixelType → Bool
is_signed I8 = true
is_signed U8 = false
is_signed I16 = true
is_signed U16 = false
is_signed I32 = true
is_signed U32 = false

-- the least value
abbrev pub type_least : PixelType → ℤ
type_least I8 = negsuc 127
type_least U8 = pos 0
type_least I16 = negsuc 32767
type_least U16 = pos 0
type_least I32 = negsuc 2147483647
type_least U32 = pos 0

-- the greatest value
abbrev pub type_greatest : PixelType → ℤ
type_greatest I8 = pos 127
type_greatest U8 = pos 255
type_greatest I16 = pos 32767
type_greatest U16 = pos 65535
type_greatest I32 = pos 2147483647
type_greatest U32 = pos 4294967295

-- the value is one of the type
abbrev pub InRange : PixelType → ℤ → Type 0
InRange kind z = (type_least kind ≤ℤ z) × (z ≤ℤ type_greatest kind)

-- the value that a number of the type's width stands for: in two's complement where the type is
-- signed
abbrev pub value_of : PixelType → ℕ → ℤ
value_of kind n = if is_signed kind then twos_complement (bytes_of kind) n else pos n

-- the list begins with bytes that stand for the value: their little-endian number does
abbrev pub Spells : PixelType → List ℕ → ℤ → Type 0
Spells kind bytes value = value ≡ value_of kind (little_number (bytes_of kind) bytes)

-- the number below 2 ^ (8 * n) that stands for a value in two's complement
abbrev pub complement_of : ℕ → ℤ → ℕ
complement_of n (pos m) = m
complement_of n (negsuc m) = 2 ^ (8 * n) - suc m

-- the bytes of a value
abbrev pub value_bytes : PixelType → ℤ → List ℕ
value_bytes kind value = little_bytes (bytes_of kind) (complement_of (bytes_of kind) value)
