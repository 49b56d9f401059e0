use Rattle.std.proofs.Common.{◌≡◌, ◌<◌, ℕ, length, get_or}
use Rattle.std.specs.Prelude.{pos}
use Rattle.lane_kernels.specs.Within.{sums_within}
use Rattle.raster_cells.proofs.values.value_source.sums_together.Given as goal

abbrev pub invariant-loop-i : goal.invariant-loop-i
invariant-loop-i l = (length l.values ≡ 8) × ((k : ℕ) → k < l.i → get_or l.values k (pos 0) ≡ get_or (sums_within l.numbers l.sums.offset l.sums.step l.sums.gap) k (pos 0))
