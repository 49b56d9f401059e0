use Rattle.std.proofs.Common.{ℕ, List, map, subst, ap}
use Rattle.std.specs.Prelude.{ℤ}
use Rattle.raster_cells.specs.Distance.{distance_of}
use Rattle.raster_values.specs.inside.Runs.{Gathers}
use Rattle.raster_values.proofs.Windows.{one_row_values}
use Rattle.raster_values.proofs.blocks.gathering.gather_rows.Goals as goal

pub returns-then-window-clause-gathered : goal.returns-then-window-clause-gathered
returns-then-window-clause-gathered c =
    let p = c.args.plane.now in
    let g : ℤ → ℕ = distance_of p.samples.now.kind in
    subst (λ (vs : List ℤ). Gathers (map g vs) c.args.out.now c.gather_lines.new.out 0 c.gather_lines.result)
    (one_row_values c.args.window c.one_row.result c.one_row.ensures c.if-window.true p.depth p.d p.marks.now p.samples.now.values)
    c.gather_lines.ensures.gathered
