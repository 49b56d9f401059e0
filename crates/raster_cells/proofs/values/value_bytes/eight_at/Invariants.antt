use Rattle.std.proofs.Common.{◌≡◌, ◌<◌, ◌+◌, ◌*◌, ℕ, length, get_or, drop}
use Rattle.byteorder.specs.Endian.{little_number}
use Rattle.raster_cells.specs.PixelType.{bytes_of, value_of}
use Rattle.raster_cells.specs.Distance.{distance_of}
use Rattle.raster_cells.proofs.values.value_bytes.eight_at.Given as goal

abbrev pub invariant-loop-i : goal.invariant-loop-i
invariant-loop-i l = (length l.read ≡ 8) × ((k : ℕ) → k < l.i → get_or l.read k 0 ≡ distance_of l.kind (value_of l.kind (little_number (bytes_of l.kind) (drop ((l.at + k) * bytes_of l.kind) l.bytes))))
