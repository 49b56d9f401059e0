use Rattle.std.proofs.Common.{◌≡◌, ◌*◌, length}
use Rattle.std.specs.List.{filter, range_with_len}
use Rattle.raster_cells.specs.Masks.{mask_bit}
use Rattle.raster_cells.proofs.marks.counting.count_bytes.Given as goal

abbrev pub invariant-loop-byte : goal.invariant-loop-byte
invariant-loop-byte l = l.n ≡ length (filter (mask_bit l.bytes) (range_with_len 0 (8 * l.byte-index)))
