use Rattle.std.proofs.Common.{◌≡◌, ◌<◌, ◌+◌, ◌*◌, ℕ, get_or}
use Rattle.std.specs.Prelude.{pos}
use Rattle.raster_cells.specs.Distance.{distance_of}
use Rattle.raster_cells.proofs.values.cell_bytes.CellBytes.get_steps_as.Given as goal

abbrev pub invariant-loop-i : goal.invariant-loop-i
invariant-loop-i l = (k : ℕ) → k < l.i → get_or l.out k 0 ≡ distance_of l.self.kind (get_or l.self.values ((l.pixels.first + k) * l.pixels.depth + l.pixels.d) (pos 0))
