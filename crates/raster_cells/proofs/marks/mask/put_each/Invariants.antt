use Rattle.std.proofs.Common.{◌≡◌, ℕ, length}
use Rattle.raster_cells.specs.Masks.{mask_bit}
use Rattle.raster_cells.specs.inside.Bits.{bit_after}
use Rattle.raster_cells.proofs.marks.mask.put_each.Given as goal

abbrev pub invariant-loop-i : goal.invariant-loop-i
invariant-loop-i l = record {
  size : length l.bytes.items ≡ length l.fn.bytes.items;
  bits : (k : ℕ) → mask_bit l.bytes.items k ≡ bit_after l.fn.bytes.items l.marks l.from l.i k;
}
