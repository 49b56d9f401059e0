use Rattle.std.proofs.Common.{◌≡◌, ◌+◌, ◌<◌, ℕ, cond, false, length, get_or}
use Rattle.raster_cells.proofs.marks.mask.Mask.write_each.Given as goal

abbrev pub invariant-loop-i : goal.invariant-loop-i
invariant-loop-i l = record {
  size : length l.out ≡ length l.initial.out;
  put : (k : ℕ) → k < l.i → get_or l.out k 0 ≡ cond (get_or l.self (l.from + k) false) 1 0;
}
