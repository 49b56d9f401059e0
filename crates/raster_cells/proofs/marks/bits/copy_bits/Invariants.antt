use Rattle.std.proofs.Common.{◌≡◌, ◌+◌, ◌-◌, ◌<◌, ◌≤◌, ℕ, false, length, get_or}
use Rattle.raster_cells.specs.Masks.{mask_bit}
use Rattle.raster_cells.proofs.marks.bits.copy_bits.Given as goal

abbrev pub invariant-loop-i : goal.invariant-loop-i
invariant-loop-i l = record {
  size : length l.out ≡ length l.initial.out;
  within : l.i ≤ length l.out;
  done : (j : ℕ) → j < l.i → get_or l.out j false ≡ mask_bit l.bytes (l.from + j);
}

abbrev pub decreases-loop-i : goal.decreases-loop-i
decreases-loop-i l = length l.out - l.i
