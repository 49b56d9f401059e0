use Rattle.std.proofs.Common.{◌≡◌, ℕ, ℤ, pos, ◌-ℤ◌, refl, sym, subst, arith}
use Rattle.std.specs.Prelude.{unsigned_abs}
use mir.Syntax.{w64}
use mir.Val.{of_z, to_z}
use Rattle.raster_cells.specs.declared.kind.PixelType.{PixelType}
use Rattle.raster_cells.specs.declared.kind.PixelType.TheVariants.{I8, U8, I16, U16, I32, U32}
use Rattle.raster_cells.specs.Distance.{IsDistance, value_above}
use Rattle.raster_cells.specs.PixelType.{type_least}
use Rattle.micro_block.proofs.Above.{spread_none}
use Rattle.micro_block.proofs.spreading.no_spread.Goals as goal

-- how far 0 is above the least, as the code computes it
abbrev far : ℤ → ℕ
far z = unsigned_abs (to_z w64 (of_z w64 (pos 0 -ℤ to_z w64 (of_z w64 z))))

at_zero : (kind : PixelType) → (value_above kind (far (type_least kind)) ≡ pos 0) × IsDistance kind (far (type_least kind))
at_zero I8 = (refl, omega arith)
at_zero U8 = (refl, omega arith)
at_zero I16 = (refl, omega arith)
at_zero U16 = (refl, omega arith)
at_zero I32 = (refl, omega arith)
at_zero U32 = (refl, omega arith)

at : (kind : PixelType) (z : ℤ) → z ≡ type_least kind → (value_above kind (far z) ≡ pos 0) × IsDistance kind (far z)
at kind z e = subst (λ (y : ℤ). (value_above kind (far y) ≡ pos 0) × IsDistance kind (far y)) (sym e) (at_zero kind)

pub returns : goal.returns
returns c step some fits =
    let h = at c.args.kind c.least.result c.least.ensures in
    spread_none c.args.kind step (far c.least.result) some fits h.0 h.1
