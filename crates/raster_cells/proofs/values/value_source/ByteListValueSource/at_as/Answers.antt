use Rattle.std.proofs.Common.{◌≡◌, ◌<◌, ◌∙◌, sym, subst, length, get_or, arith}
use Rattle.std.specs.Prelude.{pos}
use Rattle.raster_cells.specs.PixelType.{InRange}
use Rattle.raster_cells.specs.Listed.{told_by}
use Rattle.raster_cells.proofs.ValueBits.{same_bits}
use Rattle.raster_cells.proofs.GivenBytes.{above_at, length-above}
use Rattle.raster_cells.proofs.values.value_source.ByteListValueSource.at_as.Goals as goal

pub returns-then-i-self-clause-in_range : goal.returns-then-i-self-clause-in_range
returns-then-i-self-clause-in_range c =
    let b = c.args.self.now in
    let bytes = b.bytes.now in
    let is : c.value_above.result ≡ get_or (told_by b) c.args.i (pos 0) = c.value_above.ensures ∙ sym (above_at b.below bytes c.args.i c.if-i-self.true) in
    let fits : InRange c.args.kind c.value_above.result = subst (InRange c.args.kind) (sym is) (c.requires.in_range c.args.i (pos 0) (let e : c.args.i < length (told_by b) = omega (arith, c.if-i-self.true, length-above b.below bytes) in e)) in
    subst (InRange c.args.kind) (sym (same_bits c.args.kind c.value_above.result fits)) fits
