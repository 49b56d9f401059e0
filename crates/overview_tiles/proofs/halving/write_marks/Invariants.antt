use Rattle.std.proofs.Common.{◌≡◌, ℕ, ◌*◌, ◌<◌, length, get_or}
use Rattle.std.specs.Prelude.{nat_lt}
use Rattle.raster_cells.specs.Masks.{mask_bit}
use Rattle.overview_tiles.proofs.halving.write_marks.Given as goal

abbrev pub invariant-loop-i : goal.invariant-loop-i
invariant-loop-i l = (k : ℕ) → k < 8 * l.i → k < length l.counts → mask_bit l.mask k ≡ nat_lt 0 (get_or l.counts k 0)
