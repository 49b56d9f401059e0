use Rattle.std.proofs.Common.{◌≡◌, ◌*◌, ◌<◌, ◌≤◌, ◌-◌, ◌++◌, ap, sym, subst, ◌∙◌, length, take, drop, get_or, arith}
use Rattle.std.specs.Prelude.{pos}
use Rattle.raster_cells.specs.PixelType.{InRange, bytes_of, value_bytes}
use Rattle.raster_cells.specs.Values.{values_above}
use Rattle.raster_cells.proofs.ValueBits.{same_bits}
use Rattle.raster_cells.proofs.GivenBytes.{above_at, length-above}
use Rattle.raster_cells.proofs.GivenRuns.{given_laid}
use Rattle.raster_cells.proofs.values.value_source.write_above.Goals as goal

pub write_value-requires-clause-in_range : goal.write_value-requires-clause-in_range
write_value-requires-clause-in_range c =
    let kind = c.args.kind in
    let i = c.loop-i.i in
    let bytes = c.args.bytes.now in
    let vs = values_above c.args.below bytes in
    let below : i < length vs = omega (arith, c.loop-i-test.true, length-above c.args.below bytes) in
    let is : c.value_above.result ≡ get_or vs i (pos 0) = c.value_above.ensures ∙ sym (above_at c.args.below bytes i c.loop-i-test.true) in
    let fits : InRange kind c.value_above.result = subst (InRange kind) (sym is) (c.requires.in_range i (pos 0) below) in
    subst (InRange kind) (sym (same_bits kind c.value_above.result fits)) fits

pub loop-i-preserved : goal.loop-i-preserved
loop-i-preserved c =
    let kind = c.args.kind in
    let i = c.loop-i.i in
    let bytes = c.args.bytes.now in
    let vs = values_above c.args.below bytes in
    let long = length-above c.args.below bytes in
    let below : i < length vs = omega (arith, c.loop-i-test.true, long) in
    let is : c.value_above.result ≡ get_or vs i (pos 0) = c.value_above.ensures ∙ sym (above_at c.args.below bytes i c.loop-i-test.true) in
    let fits : InRange kind c.value_above.result = subst (InRange kind) (sym is) (c.requires.in_range i (pos 0) below) in
    let same = same_bits kind c.value_above.result fits ∙ is in
    let room : length vs * bytes_of kind ≤ length c.args.out.now = subst (λ n. n * bytes_of kind ≤ length c.args.out.now) (sym long) c.requires.room in
    given_laid kind vs c.loop-i.out c.args.out.now c.write_value.new.out i c.bytes-size.result below room c.loop-i.auto.out c.bytes-size.ensures c.loop-i.invariant
    (c.write_value.ensures.bytes ∙ ap (λ v. value_bytes kind v ++ drop (bytes_of kind) (take (length c.loop-i.out - i * c.bytes-size.result) (drop (i * c.bytes-size.result) c.loop-i.out))) same)
