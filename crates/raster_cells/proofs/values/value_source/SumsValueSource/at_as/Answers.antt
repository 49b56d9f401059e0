use Rattle.std.proofs.Common.{◌≡◌, ◌<◌, ◌∙◌, sym, subst, length, get_or, arith}
use Rattle.std.specs.Prelude.{pos}
use Rattle.raster_cells.specs.PixelType.{InRange}
use Rattle.raster_cells.specs.Listed.{sums_of}
use Rattle.raster_cells.proofs.ValueBits.{same_bits}
use Rattle.raster_cells.proofs.GivenSums.{length-sums, sum_at}
use Rattle.raster_cells.proofs.values.value_source.SumsValueSource.at_as.Goals as goal

pub returns-then-i-self-clause-in_range : goal.returns-then-i-self-clause-in_range
returns-then-i-self-clause-in_range c =
    let s = c.args.self.now in
    let qs = s.numbers.now in
    let is : c.sum_of.result ≡ get_or (sums_of s) c.args.i (pos 0) =
    c.sum_of.ensures ∙ sym (sum_at qs s.offset s.step s.gap c.args.i c.if-i-self.true) in
    let fits : InRange c.args.kind c.sum_of.result = subst (InRange c.args.kind) (sym is) (c.requires.in_range c.args.i (pos 0) (let e : c.args.i < length (sums_of s) = omega (arith, c.if-i-self.true, length-sums qs s.offset s.step s.gap) in e)) in
    subst (InRange c.args.kind) (sym (same_bits c.args.kind c.sum_of.result fits)) fits
