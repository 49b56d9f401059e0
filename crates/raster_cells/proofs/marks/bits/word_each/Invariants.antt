use Rattle.std.proofs.Common.{◌≡◌, ◌+◌, ◌<◌, ◌^◌, ℕ}
use Rattle.raster_cells.specs.Masks.{mask_bit}
use Rattle.raster_cells.specs.Words.{word_bit}
use Rattle.raster_cells.proofs.marks.bits.word_each.Given as goal

abbrev pub invariant-loop-i : goal.invariant-loop-i
invariant-loop-i l = record {
  below : l.word < 2 ^ l.i;
  bits : (q : ℕ) → q < l.i → word_bit l.i l.word q ≡ mask_bit l.bytes (l.from + q);
}
