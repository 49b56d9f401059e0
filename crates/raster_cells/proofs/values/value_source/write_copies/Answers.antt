use Rattle.std.proofs.Common.{◌≡◌, ◌*◌, ◌<◌, ◌≤◌, ◌-◌, ◌++◌, ap, sym, subst, ◌∙◌, length, take, drop, replicate, arith}
use Rattle.std.specs.Prelude.{pos}
use Rattle.std.proofs.lemmas.List.{length-replicate, get_or-replicate, take_all}
use mir.Syntax.{w64}
use mir.Val.{to_z, of_z}
use Rattle.raster_cells.specs.PixelType.{bytes_of, value_bytes}
use Rattle.raster_cells.specs.Values.{values_bytes}
use Rattle.raster_cells.proofs.ValueBits.{same_bits}
use Rattle.raster_cells.proofs.GivenRuns.{given_laid}
use Rattle.raster_cells.proofs.values.value_source.write_copies.Goals as goal

pub loop-i-preserved : goal.loop-i-preserved
loop-i-preserved c =
    let kind = c.args.kind in
    let i = c.loop-i.i in
    let value = to_z w64 (of_z w64 c.args.value) in
    let vs = replicate c.args.count value in
    let long = length-replicate c.args.count value in
    let below : i < length vs = omega (arith, c.loop-i-test.true, long) in
    let same = sym (get_or-replicate c.args.count i value (pos 0) c.loop-i-test.true) in
    let room : length vs * bytes_of kind ≤ length c.args.out.now = subst (λ n. n * bytes_of kind ≤ length c.args.out.now) (sym long) c.requires.room in
    given_laid kind vs c.loop-i.out c.args.out.now c.write_value.new.out i c.bytes-size.result below room c.loop-i.auto.out c.bytes-size.ensures c.loop-i.invariant
    (c.write_value.ensures.bytes ∙ ap (λ v. value_bytes kind v ++ drop (bytes_of kind) (take (length c.loop-i.out - i * c.bytes-size.result) (drop (i * c.bytes-size.result) c.loop-i.out))) same)

pub returns : goal.returns
returns c =
    let kind = c.args.kind in
    let value = to_z w64 (of_z w64 c.args.value) in
    let long = length-replicate c.args.count value in
    let whole : c.loop-i.i ≡ c.args.count = omega (arith, c.loop-i-test.false, c.loop-i.auto.i-end) in
    c.loop-i.invariant
    ∙ ap (λ n. values_bytes kind (take n (replicate c.args.count value)) ++ drop (n * bytes_of kind) c.args.out.now) whole
    ∙ ap (λ vs. values_bytes kind vs ++ drop (c.args.count * bytes_of kind) c.args.out.now) (take_all c.args.count (replicate c.args.count value) (omega (arith, long)) ∙ ap (replicate c.args.count) (same_bits kind c.args.value c.requires.in_range))
