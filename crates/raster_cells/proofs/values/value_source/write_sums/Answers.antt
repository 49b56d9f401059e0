use Rattle.std.proofs.Common.{◌≡◌, ◌*◌, ◌<◌, ◌≤◌, ◌-◌, ◌++◌, ap, sym, subst, ◌∙◌, length, take, drop, get_or, arith}
use Rattle.std.specs.Prelude.{pos}
use Rattle.lane_kernels.specs.Within.{sums_within}
use Rattle.raster_cells.specs.PixelType.{InRange, bytes_of, value_bytes}
use Rattle.raster_cells.proofs.ValueBits.{same_bits}
use Rattle.raster_cells.proofs.GivenRuns.{given_laid}
use Rattle.raster_cells.proofs.GivenSums.{length-sums, sum_at}
use Rattle.raster_cells.proofs.values.value_source.write_sums.Goals as goal

pub write_value-requires-clause-in_range : goal.write_value-requires-clause-in_range
write_value-requires-clause-in_range c =
    let kind = c.args.kind in
    let i = c.loop-i.i in
    let qs = c.args.numbers.now in
    let o = c.args.sums.now.offset in
    let vs = sums_within qs o c.args.sums.now.step c.args.sums.now.gap in
    let below : i < length vs = omega (arith, c.loop-i-test.true, length-sums qs o c.args.sums.now.step c.args.sums.now.gap) in
    let is : c.sum_of.result ≡ get_or vs i (pos 0) = c.sum_of.ensures ∙ sym (sum_at qs o c.args.sums.now.step c.args.sums.now.gap i c.loop-i-test.true) in
    let fits : InRange kind c.sum_of.result = subst (InRange kind) (sym is) (c.requires.in_range i (pos 0) below) in
    subst (InRange kind) (sym (same_bits kind c.sum_of.result fits)) fits

pub loop-i-preserved : goal.loop-i-preserved
loop-i-preserved c =
    let kind = c.args.kind in
    let i = c.loop-i.i in
    let qs = c.args.numbers.now in
    let o = c.args.sums.now.offset in
    let vs = sums_within qs o c.args.sums.now.step c.args.sums.now.gap in
    let below : i < length vs = omega (arith, c.loop-i-test.true, length-sums qs o c.args.sums.now.step c.args.sums.now.gap) in
    let is : c.sum_of.result ≡ get_or vs i (pos 0) = c.sum_of.ensures ∙ sym (sum_at qs o c.args.sums.now.step c.args.sums.now.gap i c.loop-i-test.true) in
    let fits : InRange kind c.sum_of.result = subst (InRange kind) (sym is) (c.requires.in_range i (pos 0) below) in
    let same = same_bits kind c.sum_of.result fits ∙ is in
    let room : length vs * bytes_of kind ≤ length c.args.out.now = subst (λ n. n * bytes_of kind ≤ length c.args.out.now) (sym (length-sums qs o c.args.sums.now.step c.args.sums.now.gap)) c.requires.room in
    given_laid kind vs c.loop-i.out c.args.out.now c.write_value.new.out i c.bytes-size.result below room c.loop-i.auto.out c.bytes-size.ensures c.loop-i.invariant
    (c.write_value.ensures.bytes ∙ ap (λ v. value_bytes kind v ++ drop (bytes_of kind) (take (length c.loop-i.out - i * c.bytes-size.result) (drop (i * c.bytes-size.result) c.loop-i.out))) same)
