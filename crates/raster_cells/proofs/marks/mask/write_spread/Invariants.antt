use Rattle.std.proofs.Common.{◌≡◌, ◌*◌, ◌<◌, ℕ, cond, length, get_or}
use Rattle.raster_cells.specs.Masks.{mask_bit}
use Rattle.raster_cells.proofs.marks.mask.write_spread.Given as goal

abbrev pub invariant-loop-i : goal.invariant-loop-i
invariant-loop-i l = record {
  size : length l.out ≡ length l.initial.out;
  put : (k : ℕ) → k < 8 * l.i → get_or l.out k 0 ≡ cond (mask_bit l.bytes k) 1 0;
}
