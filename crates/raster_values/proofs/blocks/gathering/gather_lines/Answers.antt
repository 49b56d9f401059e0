use Rattle.std.proofs.Common.{ℕ, map, sym, subst}
use Rattle.std.specs.Prelude.{ℤ}
use Rattle.raster_cells.specs.Distance.{distance_of}
use Rattle.raster_values.specs.inside.Runs.{Gathers}
use Rattle.raster_values.proofs.CellDistances.{rows_are_whole}
use Rattle.raster_values.proofs.blocks.gathering.gather_lines.Goals as goal

pub returns-then-is_whole-clause-gathered : goal.returns-then-is_whole-clause-gathered
returns-then-is_whole-clause-gathered c =
    let g : ℤ → ℕ = distance_of c.args.plane.now.samples.now.kind in
    subst (λ vs. Gathers (map g vs) c.args.out.now c.gather_whole.new.out 0 c.gather_whole.result)
    (sym (rows_are_whole c.args.plane.now.depth c.args.plane.now.d c.args.plane.now.marks.now c.args.plane.now.samples.now.values c.args.window.cols c.args.window.row c.args.window.col c.args.window.high c.args.window.wide (c.is_whole.ensures.0 c.if-is_whole.true) c.args.window.across c.requires.fits.within.all))
    c.gather_whole.ensures.gathered
