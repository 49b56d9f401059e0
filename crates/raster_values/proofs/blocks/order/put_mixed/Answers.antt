use Rattle.std.proofs.Common.{◌≡◌, ◌<◌, ◌+◌, ◌*◌, false, cond, get_or, set, length, ap, sym, ◌∙◌, subst, refl, arith}
use Rattle.std.specs.Prelude.{pos}
use mir.Syntax.{w64}
use mir.Val.{to_z, of_z}
use Rattle.raster_cells.specs.PixelType.{InRange}
use Rattle.raster_values.specs.Ordered.{PutsMarked}
use Rattle.raster_cells.proofs.GivenRuns.{put_in_range, put_size}
use Rattle.raster_cells.proofs.MarkWords.{word_tells}
use Rattle.raster_values.proofs.MarkedPuts.{puts_none, puts_pixel}
use Rattle.raster_cells.proofs.MarkedValues.{value_there}
use Rattle.raster_cells.proofs.ValueBits.{same_bits}
use Rattle.raster_values.proofs.Windows.{same_form}
use Rattle.raster_values.proofs.blocks.order.put_mixed.Goals as goal

pub loop-i-init : goal.loop-i-init
loop-i-init g c = record {
  kept = refl;
  within = omega arith;
  form = same_form (g.V.CellStore.cells c.args.values.now);
  put = puts_none c.args.channel.now.depth c.args.channel.now.d (g.M.MarkSource.marks c.args.channel.now.marks.now) c.args.place c.args.input.now (g.V.CellStore.cells c.args.values.now).values;
}

pub overflow_shr-mark : goal.overflow_shr-mark
overflow_shr-mark g c = omega (arith, c.requires.short, c.loop-i-test.true)

pub put_marked_as-requires-clause-within : goal.put_marked_as-requires-clause-within
put_marked_as-requires-clause-within g c =
    let marks = g.M.MarkSource.marks c.args.channel.now.marks.now in
    let first = (g.V.CellStore.cells c.args.values.now).values in
    let there = value_there {i = c.loop-i.i} {n = length c.args.input.now} {depth = c.args.channel.now.depth} {d = c.args.channel.now.d} marks first c.args.place c.requires.values.size c.requires.within c.args.channel.now.below c.loop-i-test.true in
    omega (arith, there, c.loop-i.invariant.form.size)

pub put_marked_as-requires-clause-in_range : goal.put_marked_as-requires-clause-in_range
put_marked_as-requires-clause-in_range g c =
    let kind = c.args.channel.now.kind in
    let x = get_or c.args.input.now c.loop-i.i (pos 0) in
    let fits : InRange kind x = c.requires.in_range c.loop-i.i (pos 0) c.loop-i-test.true in
    subst (λ t. InRange t (to_z w64 (of_z w64 x))) (c.requires.values.kind ∙ sym c.loop-i.invariant.form.kind) (subst (InRange kind) (sym (same_bits kind x fits)) fits)

pub loop-i-preserved : goal.loop-i-preserved
loop-i-preserved g c =
    let i = c.loop-i.i in
    let place = c.args.place in
    let depth = c.args.channel.now.depth in
    let d = c.args.channel.now.d in
    let input = c.args.input.now in
    let marks = g.M.MarkSource.marks c.args.channel.now.marks.now in
    let kind = (g.V.CellStore.cells c.args.values.now).kind in
    let first = (g.V.CellStore.cells c.args.values.now).values in
    let old = (g.V.CellStore.cells c.loop-i.values).values in
    let new = (g.V.CellStore.cells c.put_marked_as.new.cells).values in
    let inv = c.loop-i.invariant in
    let at = (place + i) * depth + d in
    let mark = get_or marks (place + i) false in
    let x = get_or input i (pos 0) in
    let there = value_there {i = i} {n = length input} {depth = depth} {d = d} marks first place c.requires.values.size c.requires.within c.args.channel.now.below c.loop-i-test.true in
    let inside : at < length old = omega (arith, there, inv.form.size) in
    let tells = word_tells marks place (length input) c.args.word i c.requires.word c.loop-i-test.true in
    let own : InRange c.args.channel.now.kind x = c.requires.in_range i (pos 0) c.loop-i-test.true in
    let fits : InRange kind x = subst (λ t. InRange t x) c.requires.values.kind own in
    let is : new ≡ cond mark (set old at x) old =
    c.put_marked_as.ensures.put ∙ ap (λ b. cond b (set old at (to_z w64 (of_z w64 x))) old) tells ∙ ap (λ y. cond mark (set old at y) old) (same_bits kind x fits) in
    record {
      kept = c.put_marked_as.ensures.kept ∙ inv.kept;
      within = omega (arith, c.loop-i-test.true);
      form = record {
        kind = c.put_marked_as.ensures.kind ∙ inv.form.kind;
        in_range = λ before. put_in_range kind old new at x mark is fits (inv.form.in_range before);
        size = put_size old new at x mark is ∙ inv.form.size;
      };
      put = puts_pixel depth d marks place i input first old new mark refl c.args.channel.now.below inside is inv.put;
    }

pub returns-clause-put : goal.returns-clause-put
returns-clause-put g c =
    let whole : c.loop-i.i ≡ length c.args.input.now = omega (arith, c.loop-i.invariant.within, c.loop-i-test.false) in
    subst (λ n. PutsMarked c.args.channel.now.depth c.args.channel.now.d (g.M.MarkSource.marks c.args.channel.now.marks.now) c.args.place n c.args.input.now (g.V.CellStore.cells c.args.values.now).values (g.V.CellStore.cells c.loop-i.values).values) whole c.loop-i.invariant.put
