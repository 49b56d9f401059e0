use Rattle.std.proofs.Common.{◌≡◌, ◌<◌, ◌+◌, ◌*◌, ℕ, get_or}
use Rattle.std.specs.Prelude.{pos}
use Rattle.raster_cells.specs.CellList.{values_in}
use Rattle.raster_cells.proofs.values.value_bytes.read_steps_as.Given as goal

abbrev pub invariant-loop-i : goal.invariant-loop-i
invariant-loop-i l = (k : ℕ) → k < l.i → get_or l.out k (pos 0) ≡ get_or (values_in l.kind l.count l.bytes) ((l.pixels.first + k) * l.pixels.depth + l.pixels.d) (pos 0)
