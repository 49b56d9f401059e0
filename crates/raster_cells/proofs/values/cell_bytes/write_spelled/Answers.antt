use Rattle.std.proofs.Common.{◌≡◌, ◌+◌, ◌*◌, ◌<◌, ◌≤◌, ◌-◌, ◌++◌, ap, sym, subst, ◌∙◌, length, take, drop, get_or, arith}
use Rattle.std.specs.Prelude.{pos}
use Rattle.std.proofs.lemmas.List.{get_or-take, get_or-drop}
use Rattle.raster_cells.specs.PixelType.{InRange, bytes_of, value_bytes}
use Rattle.raster_cells.specs.CellList.{values_in}
use Rattle.raster_cells.proofs.ValueBits.{same_bits}
use Rattle.raster_cells.proofs.CellRuns.{length-values_in}
use Rattle.raster_cells.proofs.GivenRuns.{given_laid, given_long}
use Rattle.raster_cells.proofs.values.cell_bytes.write_spelled.Goals as goal

pub write_value-requires-clause-in_range : goal.write_value-requires-clause-in_range
write_value-requires-clause-in_range c =
    let all = values_in c.args.of c.args.count c.args.bytes.now in
    let fits : InRange c.args.kind c.value_at-value.result =
    subst (InRange c.args.kind) (sym c.value_at-value.ensures.value)
    (c.requires.in_range (c.args.n + c.loop-i.i) (pos 0) (omega (arith, c.loop-i-test.true, c.requires.within, length-values_in c.args.of c.args.count c.args.bytes.now))) in
    subst (InRange c.args.kind) (sym (same_bits c.args.kind c.value_at-value.result fits)) fits

pub loop-i-preserved : goal.loop-i-preserved
loop-i-preserved c =
    let kind = c.args.kind in
    let i = c.loop-i.i in
    let n = c.args.n in
    let all = values_in c.args.of c.args.count c.args.bytes.now in
    let many = length-values_in c.args.of c.args.count c.args.bytes.now in
    let vs = take c.args.some (drop n all) in
    let long : length vs ≡ c.args.some = given_long all n c.args.some (omega (arith, c.requires.within, many)) in
    let below : i < length vs = omega (arith, c.loop-i-test.true, long) in
    let is : c.value_at-value.result ≡ get_or vs i (pos 0) = c.value_at-value.ensures.value
    ∙ sym (get_or-take c.args.some (drop n all) i (pos 0) c.loop-i-test.true ∙ get_or-drop n all i (pos 0)) in
    let fits : InRange kind c.value_at-value.result =
    subst (InRange kind) (sym c.value_at-value.ensures.value) (c.requires.in_range (n + i) (pos 0) (omega (arith, c.loop-i-test.true, c.requires.within, many))) in
    let same = same_bits kind c.value_at-value.result fits ∙ is in
    let room : length vs * bytes_of kind ≤ length c.args.out.now = subst (λ m. m * bytes_of kind ≤ length c.args.out.now) (sym long) c.requires.room in
    given_laid kind vs c.loop-i.out c.args.out.now c.write_value.new.out i c.bytes-size.result below room c.loop-i.auto.out c.bytes-size.ensures c.loop-i.invariant
    (c.write_value.ensures.bytes ∙ ap (λ v. value_bytes kind v ++ drop (bytes_of kind) (take (length c.loop-i.out - i * c.bytes-size.result) (drop (i * c.bytes-size.result) c.loop-i.out))) same)
