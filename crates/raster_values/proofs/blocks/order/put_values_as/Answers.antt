use Rattle.std.proofs.Common.{◌≡◌, ◌≤◌, ◌+◌, ◌-◌, ◌∙◌, subst, length, take, drop, refl, arith}
use Rattle.std.proofs.lemmas.List.Elements.{All-take, All-drop}
use Rattle.raster_cells.specs.PixelType.{InRange}
use Rattle.raster_values.specs.Ordered.{PutsMarked}
use Rattle.raster_values.proofs.MarkedPuts.{puts_none, puts_join}
use Rattle.raster_values.proofs.Scattered.{piece_long}
use Rattle.raster_values.proofs.Windows.{same_form, forms_join, still_of}
use Rattle.raster_values.proofs.blocks.order.put_values_as.Goals as goal

pub loop-k-init : goal.loop-k-init
loop-k-init g c = record {
  kept = refl;
  within = omega arith;
  form = same_form (g.V.CellStore.cells c.args.values.now);
  put = puts_none c.args.channel.now.depth c.args.channel.now.d (g.M.MarkSource.marks c.args.channel.now.marks.now) c.args.place c.args.input.now (g.V.CellStore.cells c.args.values.now).values;
}

pub loop-k-preserved : goal.loop-k-preserved
loop-k-preserved g c =
    let place = c.args.place in
    let input = c.args.input.now in
    let k = c.loop-k.k in
    let next = k + c.min-more.result in
    let marks = g.M.MarkSource.marks c.args.channel.now.marks.now in
    let first = (g.V.CellStore.cells c.args.values.now).values in
    let old = (g.V.CellStore.cells c.loop-k.values).values in
    let new = (g.V.CellStore.cells c.put_word.new.values).values in
    let inv = c.loop-k.invariant in
    let piece = take (next - k) (drop k input) in
    let within : next ≤ length input = omega (arith, c.min-more.ensures, c.loop-k-test.true) in
    let long : length piece ≡ next - k = piece_long k c.min-more.result input within ∙ (let e : c.min-more.result ≡ next - k = omega arith in e) in
    let put : PutsMarked c.args.channel.now.depth c.args.channel.now.d marks (place + k) (next - k) piece old new = subst (λ n. PutsMarked c.args.channel.now.depth c.args.channel.now.d marks (place + k) n piece old new) long c.put_word.ensures.put in
    record {
      kept = c.put_word.ensures.kept ∙ inv.kept;
      within = within;
      form = forms_join (g.V.CellStore.cells c.args.values.now) (g.V.CellStore.cells c.loop-k.values) (g.V.CellStore.cells c.put_word.new.values) inv.form c.put_word.ensures.form;
      put = puts_join c.args.channel.now.depth c.args.channel.now.d marks place k next input first old new c.args.channel.now.below (omega arith) within put inv.put;
    }

pub put_word-requires-clause-within : goal.put_word-requires-clause-within
put_word-requires-clause-within g c =
    let long = piece_long c.loop-k.k c.min-more.result c.args.input.now (omega (arith, c.min-more.ensures, c.loop-k-test.true)) in
    omega (arith, long, c.min-more.ensures, c.loop-k-test.true, c.requires.within)

pub put_word-requires-clause-some : goal.put_word-requires-clause-some
put_word-requires-clause-some g c =
    let long = piece_long c.loop-k.k c.min-more.result c.args.input.now (omega (arith, c.min-more.ensures, c.loop-k-test.true)) in
    omega (arith, long, c.min-more.ensures, c.loop-k-test.true)

pub put_word-requires-clause-short : goal.put_word-requires-clause-short
put_word-requires-clause-short g c =
    let long = piece_long c.loop-k.k c.min-more.result c.args.input.now (omega (arith, c.min-more.ensures, c.loop-k-test.true)) in
    omega (arith, long, c.min-more.ensures)

pub put_word-requires-clause-values : goal.put_word-requires-clause-values
put_word-requires-clause-values g c = still_of c.args.channel.now.kind c.args.channel.now.depth (length (g.M.MarkSource.marks c.args.channel.now.marks.now)) (g.V.CellStore.cells c.args.values.now) (g.V.CellStore.cells c.loop-k.values) c.requires.values c.loop-k.invariant.form

pub put_word-requires-clause-in_range : goal.put_word-requires-clause-in_range
put_word-requires-clause-in_range g c =
    let kind = c.args.channel.now.kind in
    let count = c.loop-k.k + c.min-more.result - c.loop-k.k in
    All-take (InRange kind) count (drop c.loop-k.k c.args.input.now) (All-drop (InRange kind) c.loop-k.k c.args.input.now c.requires.in_range)

pub returns-clause-put : goal.returns-clause-put
returns-clause-put g c =
    let whole : c.loop-k.k ≡ length c.args.input.now = omega (arith, c.loop-k.invariant.within, c.loop-k-test.false) in
    subst (λ n. PutsMarked c.args.channel.now.depth c.args.channel.now.d (g.M.MarkSource.marks c.args.channel.now.marks.now) c.args.place n c.args.input.now (g.V.CellStore.cells c.args.values.now).values (g.V.CellStore.cells c.loop-k.values).values) whole c.loop-k.invariant.put
