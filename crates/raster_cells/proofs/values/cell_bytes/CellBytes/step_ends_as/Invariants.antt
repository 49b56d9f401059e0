use Rattle.std.proofs.Common.{◌+◌, ◌*◌, map, get_or}
use Rattle.std.specs.Prelude.{pos}
use Rattle.std.specs.List.{range_with_len}
use Rattle.raster_cells.specs.Runs.{AreEnds}
use Rattle.raster_cells.proofs.values.cell_bytes.CellBytes.step_ends_as.Given as goal

abbrev pub invariant-loop-i : goal.invariant-loop-i
invariant-loop-i l = AreEnds l.self.kind (map (λ k. get_or l.self.values (k * l.pixels.depth + l.pixels.d) (pos 0)) (range_with_len l.pixels.first l.i)) l.near l.far
