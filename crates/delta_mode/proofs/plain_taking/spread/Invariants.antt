use Rattle.std.proofs.Common.{◌≡◌, ℕ, ◌+◌, ◌*◌, ◌<◌, length, get_or, true}
use Rattle.raster_cells.specs.PixelType.{InRange}
use Rattle.delta_mode.specs.Symbols.{symbol_of}
use Rattle.delta_mode.specs.inside.Pieces.{rank, mark_at, value_of_place}
use Rattle.delta_mode.proofs.plain_taking.spread.Given as goal

abbrev pub invariant-loop-i : goal.invariant-loop-i
invariant-loop-i l = record {
  at : l.at ≡ rank (mark_at l.marks) l.i * l.depth + l.d;
  room : length l.out ≡ length l.fn.out;
  in_range : (k : ℕ) → k < l.i → InRange l.fn.kind (value_of_place l.out k);
  symbols : (k : ℕ) → k < l.i → mark_at l.marks k ≡ true
      → symbol_of l.fn.kind (value_of_place l.out k) ≡ get_or l.symbols (rank (mark_at l.marks) k * l.depth + l.d) 0;
}
