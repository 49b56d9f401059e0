use Rattle.std.proofs.Common.{◌*◌, ◌≤◌, arith}
use Rattle.std.proofs.Math.Nat.{mul-le-mul}
use Rattle.raster_cells.specs.declared.kind.PixelType.{PixelType}
use Rattle.raster_cells.specs.declared.kind.PixelType.TheVariants.{I8, U8, I16, U16, I32, U32}
use Rattle.raster_cells.specs.PixelType.{bytes_of}
use Rattle.raster_cells.proofs.values.value_bytes.place.Goals as goal

few_bytes : (kind : PixelType) → bytes_of kind ≤ 4
few_bytes I8 = omega arith
few_bytes U8 = omega arith
few_bytes I16 = omega arith
few_bytes U16 = omega arith
few_bytes I32 = omega arith
few_bytes U32 = omega arith

pub overflow_mul-result : goal.overflow_mul-result
overflow_mul-result c =
    let small : c.bytes.result ≤ 4 = omega (arith, c.bytes.ensures, few_bytes c.args.kind) in
    let few : c.args.at ≤ 16777216 = omega (arith, c.requires.few, c.requires.within) in
    let most : c.args.at * c.bytes.result ≤ 16777216 * 4 = mul-le-mul few small in
    omega (arith, most)
