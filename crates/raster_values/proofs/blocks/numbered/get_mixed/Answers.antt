use Rattle.std.proofs.Common.{◌≡◌, ◌≢◌, ◌<◌, ◌+◌, ◌*◌, ◌∙◌, [], subst, cond, length, get_or, false, arith, get_or-set_other, get_or-set_same, below_more}
use Rattle.std.specs.Prelude.{pos}
use Rattle.raster_cells.specs.PixelType.{InRange}
use Rattle.raster_cells.proofs.ValueBits.{same_bits, zero_in_range}
use Rattle.raster_cells.proofs.GivenRuns.{fits_either}
use Rattle.raster_cells.proofs.MarkWords.{word_tells}
use Rattle.raster_values.proofs.blocks.numbered.get_mixed.Goals as goal

pub loop-i-preserved : goal.loop-i-preserved
loop-i-preserved c =
    let i = c.loop-i.i in
    let kind = c.args.plane.now.samples.now.kind in
    let marks = c.args.plane.now.marks.now in
    let values = c.args.plane.now.samples.now.values in
    let k = c.args.place + i in
    let mark = get_or marks k false in
    let value = get_or values (k * c.args.plane.now.depth + c.args.plane.now.d) (pos 0) in
    let tells = word_tells marks c.args.place (length c.args.out.now) c.args.word i c.requires.word c.loop-i-test.true in
    let read = same_bits kind c.value_as-value.result c.value_as-value.ensures.in_range ∙ c.value_as-value.ensures.value in
    let fits : InRange kind value = subst (InRange kind) c.value_as-value.ensures.value c.value_as-value.ensures.in_range in
    let is : c.one_of.result ≡ cond mark value (pos 0) = c.one_of.ensures ∙ (λ j. cond (tells j) (read j) (pos 0)) in
    let either = fits_either kind [] 0 mark value c.one_of.result fits (zero_in_range kind) is in
    let here = same_bits kind c.one_of.result either ∙ is in
    below_more _ _
    (λ j h. let ne : j ≢ i = omega arith in rw get_or-set_other (c.loop-i.invariant j h))
    (let lt : i < length c.loop-i.out = omega (arith, c.loop-i-test.true, c.loop-i.auto.out) in rw get_or-set_same here)

pub returns : goal.returns
returns c = record {
  size = omega (arith, c.loop-i.auto.out);
  values = λ i below. c.loop-i.invariant i (omega arith);
}
