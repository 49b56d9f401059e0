use Rattle.std.proofs.Common.{ap, ◌∙◌, sym, cond}
use Rattle.std.specs.Prelude.{nat_eq}
use Rattle.raster_cells.specs.inside.Bits.{byte_bit}
use Rattle.raster_cells.proofs.MaskBits.{bit_put, bit_cleared}
use Rattle.raster_cells.proofs.marks.mask.with_bit.Goals as goal

pub returns-then-mark : goal.returns-then-mark
returns-then-mark c q h = bit_put c.args.byte c.args.place q c.requires h ∙ ap (λ b. cond (nat_eq q c.args.place) b (byte_bit c.args.byte q)) (sym c.if-mark.true)

pub returns-else-mark : goal.returns-else-mark
returns-else-mark c q h = bit_cleared c.args.byte c.args.place q c.requires h ∙ ap (λ b. cond (nat_eq q c.args.place) b (byte_bit c.args.byte q)) (sym c.if-mark.false)
