use Rattle.std.proofs.Common.{◌≡◌, ◌+◌, ◌<◌, ℕ, false, length, get_or}
use Rattle.raster_cells.specs.inside.Bits.{byte_bit}
use Rattle.raster_cells.proofs.marks.bits.lay_byte.Given as goal

abbrev pub invariant-loop-i : goal.invariant-loop-i
invariant-loop-i l = record {
  size : length l.out ≡ length l.initial.out;
  before : (j : ℕ) → j < l.at → get_or l.out j false ≡ get_or l.initial.out j false;
  bits : (q : ℕ) → q < l.i → get_or l.out (l.at + q) false ≡ byte_bit l.byte q;
}
