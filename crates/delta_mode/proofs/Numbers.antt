-- Symbols as numbers modulo 256.
use Rattle.std.proofs.Common.{◌≡◌, ℕ, ℤ, pos, negsuc, ◌+ℤ◌, ◌-ℤ◌, ◌≤ℤ◌, ◌+◌, ◌*◌, ◌%◌, ◌<◌, true, false, cond, refl, ap, arith}
use Rattle.std.specs.Prelude.{unsigned_abs}
use Rattle.std.proofs.lemmas.Int.{ints, int_rem_euclid_is}
use Rattle.raster_cells.specs.declared.kind.PixelType.{PixelType}
use Rattle.raster_cells.specs.declared.kind.PixelType.TheVariants.{I8, U8, I16, U16, I32, U32}
use Rattle.raster_cells.specs.PixelType.{is_signed}
use Rattle.delta_mode.specs.Symbols.{IsByteType, bias, symbol_of}

-- what holds for i8 and for u8 holds for each type of bytes
pub by_byte : (P : PixelType → Type 0) → P I8 → P U8 → (kind : PixelType) → IsByteType kind → P kind
by_byte P i8 u8 I8 byte = i8
by_byte P i8 u8 U8 byte = u8
by_byte P i8 u8 I16 byte = absurd (omega arith)
by_byte P i8 u8 U16 byte = absurd (omega arith)
by_byte P i8 u8 I32 byte = absurd (omega arith)
by_byte P i8 u8 U32 byte = absurd (omega arith)

pub low_bias : (kind : PixelType) → bias kind < 256
low_bias kind = elim (is_signed kind) as (λ b. cond b 128 0 < 256) [
  | true ↦ omega arith
  | false ↦ omega arith
]

-- a symbol by a natural number, where the number is not far below 0
pub symbol-is : (kind : PixelType) (z : ℤ) (m : ℕ) → (z +ℤ pos (bias kind)) +ℤ pos (2 * 256) ≡ pos m → symbol_of kind z ≡ m % 256
unfolding symbol_of
symbol-is kind z m e = ap unsigned_abs (int_rem_euclid_is (z +ℤ pos (bias kind)) (pos 256) 256 2 m (omega arith) refl e)

-- a natural number that a number is with its bias and 512 more
pub lifted : (z : ℤ) (b : ℕ) → negsuc 511 ≤ℤ z → (z +ℤ pos b) +ℤ pos (2 * 256) ≡ pos (unsigned_abs (z +ℤ pos (b + 512)))
lifted z b low = omega (arith, ints)

-- two numbers of the type that differ by a multiple of 256 are equal
pub same_residue : (a b p : ℤ) (k m n : ℕ) (least : ℤ) → (a -ℤ p) +ℤ pos k ≡ pos m → (b -ℤ p) +ℤ pos k ≡ pos n → m % 256 ≡ n % 256
    → least ≤ℤ a → a ≤ℤ (least +ℤ pos 255) → least ≤ℤ b → b ≤ℤ (least +ℤ pos 255) → a ≡ b
same_residue a b p k m n least e f same al ah bl bh = omega (arith, ints)
