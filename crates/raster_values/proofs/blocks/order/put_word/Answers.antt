use Rattle.std.proofs.Common.{length, subst}
use Rattle.std.specs.Prelude.{All}
use Rattle.raster_cells.specs.PixelType.{InRange}
use Rattle.raster_cells.specs.Ordered.{PutsPixels}
use Rattle.raster_cells.proofs.GivenRuns.{all_given}
use Rattle.raster_cells.proofs.MarkWords.{word_all, word_none}
use Rattle.raster_values.proofs.MarkedPuts.{puts_unmarked, puts_marked}
use Rattle.raster_cells.proofs.MarkedValues.{values_there}
use Rattle.raster_values.proofs.blocks.order.put_word.Goals as goal

pub returns-then-word-eq0-clause-put : goal.returns-then-word-eq0-clause-put
returns-then-word-eq0-clause-put g c =
    let marks = g.M.MarkSource.marks c.args.channel.now.marks.now in
    puts_unmarked c.args.channel.now.depth c.args.channel.now.d marks c.args.place (length c.args.input.now) c.args.input.now (g.V.CellStore.cells c.args.values.now).values
    (word_none marks c.args.place (length c.args.input.now) c.word-word.result c.if-word-eq0.true c.word-word.ensures)

pub put_pixels_as-requires-clause-within : goal.put_pixels_as-requires-clause-within
put_pixels_as-requires-clause-within g c =
    values_there (g.M.MarkSource.marks c.args.channel.now.marks.now) (g.V.CellStore.cells c.args.values.now).values c.args.place (length c.args.input.now) c.args.channel.now.depth c.requires.values.size c.requires.within

pub returns-then-word-count-clause-put : goal.returns-then-word-count-clause-put
returns-then-word-count-clause-put g c =
    let marks = g.M.MarkSource.marks c.args.channel.now.marks.now in
    puts_marked c.args.channel.now.depth c.args.channel.now.d marks c.args.place (length c.args.input.now) c.args.input.now (g.V.CellStore.cells c.args.values.now).values (g.V.CellStore.cells c.put_pixels_as.new.cells).values
    (word_all marks c.args.place (length c.args.input.now) c.word-word.result c.requires.short c.if-word-count.true c.word-word.ensures) (subst (λ run. PutsPixels c.args.channel.now.depth c.args.channel.now.d c.args.place (length c.args.input.now) run (g.V.CellStore.cells c.args.values.now).values (g.V.CellStore.cells c.put_pixels_as.new.cells).values) (all_given c.args.input.now) c.put_pixels_as.ensures.put)

pub put_pixels_as-requires-clause-in_range : goal.put_pixels_as-requires-clause-in_range
put_pixels_as-requires-clause-in_range g c = subst (λ t. All (InRange t) c.args.input.now) c.requires.values.kind c.requires.in_range
