use Rattle.std.proofs.Common.{◌≡◌, ◌<◌, ◌≤◌, ◌+◌, ◌-◌, ◌*◌, ◌/◌, ◌%◌, ◌^◌, suc, false, cond, get_or, set, length, ap, ◌∙◌, subst, refl, arith}
use Rattle.std.specs.Prelude.{pos}
use mir.Syntax.{w64}
use mir.Val.{to_z, of_z}
use Rattle.std.proofs.Math.Nat.{mul-le-mul_right}
use Rattle.raster_cells.specs.PixelType.{InRange}
use Rattle.raster_cells.proofs.GivenRuns.{put_in_range, put_size}
use Rattle.raster_cells.proofs.MarkWords.{word_mark, word_tells}
use Rattle.raster_values.proofs.ScatteredWords.{next_room, next_fits, scatters_pixel, at_room}
use Rattle.raster_cells.proofs.ValueBits.{same_bits}
use Rattle.raster_values.proofs.blocks.scattering.scatter_mixed.Goals as goal

pub overflow_shr-mark : goal.overflow_shr-mark
overflow_shr-mark g c = omega (arith, c.requires.short, c.loop-i-test.true)

pub overflow_add-n : goal.overflow_add-n
overflow_add-n g c =
    let marks = g.M.MarkSource.marks c.args.channel.now.marks.now in
    let bit = word_mark marks c.args.from c.args.count c.args.word c.loop-i.i c.requires.word c.loop-i-test.true in
    let fits = next_fits marks c.args.from c.loop-i.i c.args.count c.args.at c.loop-i.n _ (length (g.G.ValueSource.listed c.args.given.now)) c.loop-i-test.true c.loop-i.invariant.scattered.ends bit c.requires.room in
    omega (arith, fits, c.len.ensures, c.len.type_inv)

pub put_marked_as-requires-clause-within : goal.put_marked_as-requires-clause-within
put_marked_as-requires-clause-within g c =
    let k = c.args.from + c.loop-i.i in
    let marks = g.M.MarkSource.marks c.args.channel.now.marks.now in
    let up : suc k * c.args.channel.now.depth ≤ length marks * c.args.channel.now.depth = mul-le-mul_right c.args.channel.now.depth (omega (arith, c.requires.within, c.loop-i-test.true)) in
    omega (arith, up, c.args.channel.now.below, c.requires.values.size, c.loop-i.invariant.form.size)

pub loop-i-preserved : goal.loop-i-preserved
loop-i-preserved g c =
    let k = c.args.from + c.loop-i.i in
    let depth = c.args.channel.now.depth in
    let marks = g.M.MarkSource.marks c.args.channel.now.marks.now in
    let up : suc k * depth ≤ length marks * depth = mul-le-mul_right depth (omega (arith, c.requires.within, c.loop-i-test.true)) in
    let d = c.args.channel.now.d in
    let listed = g.G.ValueSource.listed c.args.given.now in
    let kind = (g.V.CellStore.cells c.args.values.now).kind in
    let first = (g.V.CellStore.cells c.args.values.now).values in
    let old = (g.V.CellStore.cells c.loop-i.values).values in
    let new = (g.V.CellStore.cells c.put_marked_as.new.cells).values in
    let place = k * depth + d in
    let inv = c.loop-i.invariant in
    let mark = get_or marks k false in
    let inside : place < length old = omega (arith, up, c.args.channel.now.below, c.requires.values.size, inv.form.size) in
    let bit = word_mark marks c.args.from c.args.count c.args.word c.loop-i.i c.requires.word c.loop-i-test.true in
    let tells = word_tells marks c.args.from c.args.count c.args.word c.loop-i.i c.requires.word c.loop-i-test.true in
    let is : new ≡ cond mark (set old place (get_or listed c.loop-i.n (pos 0))) old =
    c.put_marked_as.ensures.put ∙ ap (λ b. cond b (set old place (to_z w64 (of_z w64 c.at_as-value.result))) old) tells
    ∙ ap (λ x. cond mark (set old place x) old) (same_bits c.args.channel.now.kind c.at_as-value.result c.at_as-value.ensures.in_range ∙ c.at_as-value.ensures.value) in
    let fits : InRange kind (get_or listed c.loop-i.n (pos 0)) = subst (InRange kind) c.at_as-value.ensures.value (subst (λ t. InRange t c.at_as-value.result) c.requires.values.kind c.at_as-value.ensures.in_range) in
    let within : c.loop-i.n ≤ length listed = at_room marks c.args.from c.loop-i.i c.args.count c.args.at c.loop-i.n (length listed) (omega (arith, c.loop-i-test.true)) inv.scattered.ends c.requires.room in
    record {
      scattered = scatters_pixel depth d marks listed first old new c.args.from c.loop-i.i c.args.at c.loop-i.n (c.loop-i.n + c.args.word / 2 ^ (c.args.count - 1 - c.loop-i.i) % 2) mark refl c.args.channel.now.below (omega (arith, c.requires.within, c.loop-i-test.true)) inside
          within (λ on. next_room marks c.args.from c.loop-i.i c.args.count c.args.at c.loop-i.n (length listed) on c.loop-i-test.true inv.scattered.ends c.requires.room) is (ap (λ m. c.loop-i.n + m) bit) inv.scattered;
      form = record {
        kind = c.put_marked_as.ensures.kind ∙ inv.form.kind;
        in_range = λ before. put_in_range kind old new place (get_or listed c.loop-i.n (pos 0)) mark is fits (inv.form.in_range before);
        size = put_size old new place (get_or listed c.loop-i.n (pos 0)) mark is ∙ inv.form.size;
      };
      kept = c.put_marked_as.ensures.kept ∙ inv.kept;
    }
