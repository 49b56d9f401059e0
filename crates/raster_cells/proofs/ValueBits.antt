-- Values as signed numbers of 64 bits, and runs of them.
use Rattle.std.proofs.Common.{ℕ, ◌+◌, ◌*◌, ◌<◌, ◌≤◌, suc, arith, ◌≡◌, List, length}
use Rattle.std.proofs.Math.Nat.{mul-le-mul_right}
use Rattle.std.proofs.lemmas.List.{places}
use Rattle.std.specs.Prelude.{ℤ, pos}
use Rattle.std.proofs.lemmas.Int.{ints, to_z-of_z}
use mir.Syntax.{w64}
use mir.Val.{SFits, to_z, of_z}
use Rattle.raster_cells.specs.Cleared.{cleared}
use Rattle.raster_cells.specs.declared.kind.PixelType.{PixelType}
use Rattle.raster_cells.specs.declared.kind.PixelType.TheVariants.{I8, U8, I16, U16, I32, U32}
use Rattle.raster_cells.specs.PixelType.{InRange}

-- a pixel's values lie within the vector
pub pixel_fits : (k depth places : ℕ) → k < places → k * depth + depth ≤ places * depth
pixel_fits k depth places h =
    let up : suc k * depth ≤ places * depth = mul-le-mul_right depth (omega arith) in
    omega (arith, up)

pub length-cleared : (values : List ℤ) (at count : ℕ) → at + count ≤ length values → length (cleared values at count) ≡ length values
length-cleared values at count h = grind (arith, places)

pub fits_in_range : (kind : PixelType) (z : ℤ) → InRange kind z → SFits w64 z
fits_in_range I8 z h = omega (arith, ints)
fits_in_range U8 z h = omega (arith, ints)
fits_in_range I16 z h = omega (arith, ints)
fits_in_range U16 z h = omega (arith, ints)
fits_in_range I32 z h = omega (arith, ints)
fits_in_range U32 z h = omega (arith, ints)

pub same_bits : (kind : PixelType) (z : ℤ) → InRange kind z → to_z w64 (of_z w64 z) ≡ z
same_bits kind z h = to_z-of_z w64 z (fits_in_range kind z h)

pub zero_in_range : (kind : PixelType) → InRange kind (pos 0)
zero_in_range I8 = (omega (arith, ints), omega (arith, ints))
zero_in_range U8 = (omega (arith, ints), omega (arith, ints))
zero_in_range I16 = (omega (arith, ints), omega (arith, ints))
zero_in_range U16 = (omega (arith, ints), omega (arith, ints))
zero_in_range I32 = (omega (arith, ints), omega (arith, ints))
zero_in_range U32 = (omega (arith, ints), omega (arith, ints))
