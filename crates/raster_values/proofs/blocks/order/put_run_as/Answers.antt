use Rattle.std.proofs.Common.{ℕ, ◌+◌, ◌*◌, ◌≤◌, List, length, take, drop, sym, subst}
use Rattle.std.specs.Prelude.{ℤ, All}
use Rattle.raster_cells.specs.PixelType.{InRange}
use Rattle.raster_cells.specs.Ordered.{PutsPixels}
use Rattle.raster_cells.proofs.GivenRuns.{all_given}
use Rattle.raster_cells.proofs.MarkedValues.{values_there}
use Rattle.raster_values.proofs.MarkedPuts.{puts_marked}
use Rattle.raster_values.proofs.blocks.order.put_run_as.Goals as goal

pub put_pixels_as-requires-clause-within : goal.put_pixels_as-requires-clause-within
put_pixels_as-requires-clause-within g c =
    let marks = g.M.MarkSource.marks c.args.channel.now.marks.now in
    let old = (g.V.CellStore.cells c.args.values.now).values in
    let depth = c.args.channel.now.depth in
    subst (λ (n : ℕ). (c.args.place + n) * depth ≤ length old) (sym c.len.ensures)
    (values_there marks old c.args.place (length (g.G.ValueSource.listed c.args.given.now)) depth c.requires.values.size c.requires.within)

pub put_pixels_as-requires-clause-in_range : goal.put_pixels_as-requires-clause-in_range
put_pixels_as-requires-clause-in_range g c = subst (λ t. All (InRange t) (g.G.ValueSource.listed c.args.given.now)) c.requires.values.kind c.requires.in_range

pub returns-clause-put : goal.returns-clause-put
returns-clause-put g c =
    let marks = g.M.MarkSource.marks c.args.channel.now.marks.now in
    let listed = g.G.ValueSource.listed c.args.given.now in
    let old = (g.V.CellStore.cells c.args.values.now).values in
    let new = (g.V.CellStore.cells c.put_pixels_as.new.cells).values in
    let depth = c.args.channel.now.depth in
    let d = c.args.channel.now.d in
    let place = c.args.place in
    let count : PutsPixels depth d place (length listed) (take (length listed) (drop 0 listed)) old new =
    subst (λ (n : ℕ). PutsPixels depth d place n (take n (drop 0 listed)) old new) c.len.ensures c.put_pixels_as.ensures.put in
    let puts : PutsPixels depth d place (length listed) listed old new = subst (λ (vs : List ℤ). PutsPixels depth d place (length listed) vs old new) (all_given listed) count in
    puts_marked depth d marks place (length listed) listed old new c.requires.marked puts
