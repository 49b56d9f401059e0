use Rattle.std.proofs.Common.{◌+◌, ◌*◌, map, get_or, pos, subst}
use Rattle.std.specs.List.{range_with_len}
use Rattle.raster_cells.specs.declared.values.pixels_from.PixelsFrom.{PixelsFrom}
use Rattle.raster_cells.specs.Runs.{AreEnds}
use Rattle.raster_cells.proofs.values.cell_bytes.CellBytes.ends_as.Goals as goal

pub returns-then-pixels-eq1 : goal.returns-then-pixels-eq1
returns-then-pixels-eq1 c =
    subst (λ (p : PixelsFrom). AreEnds c.args.self.now.kind (map (λ k. get_or c.args.self.now.values (k * p.depth + p.d) (pos 0)) (range_with_len p.first c.args.count)) c.step_ends_as.result.0 c.step_ends_as.result.1)
    c.of_depth.ensures c.step_ends_as.ensures
