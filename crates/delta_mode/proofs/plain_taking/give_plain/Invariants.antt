use Rattle.std.proofs.Common.{◌≡◌, ℕ, ◌+◌, ◌*◌, ◌<◌, ◌≤◌, length, get_or, true}
use Rattle.raster_values.specs.Block.{SameMask}
use Rattle.raster_values.specs.Flat.{value_in}
use Rattle.raster_values.specs.Raster.{IsRaster}
use Rattle.delta_mode.specs.Symbols.{symbol_of}
use Rattle.delta_mode.specs.inside.Pieces.{rank, mark_at}
use Rattle.delta_mode.proofs.plain_taking.give_plain.Given as goal

abbrev pub invariant-loop-d : goal.invariant-loop-d
invariant-loop-d g l = record {
  same : SameMask (g.T.Target.pixels l.fn.raster) (g.T.Target.pixels l.raster);
  room : length l.values ≡ length l.marks;
  placed : (i e : ℕ) → i < length l.marks → e < l.d → mark_at l.marks i ≡ true
      → symbol_of (g.T.Target.pixels l.fn.raster).kind (value_in (g.T.Target.pixels l.raster) e (l.place + i))
      ≡ get_or l.symbols (rank (mark_at l.marks) i * (g.T.Target.pixels l.fn.raster).depth + e) 0;
  rest : (k e : ℕ) → k < (g.T.Target.pixels l.fn.raster).rows * (g.T.Target.pixels l.fn.raster).cols → e < (g.T.Target.pixels l.fn.raster).depth
      → (l.place ≤ k → k < l.place + length l.marks → ⊥) → value_in (g.T.Target.pixels l.raster) e k ≡ value_in (g.T.Target.pixels l.fn.raster) e k;
  sound : IsRaster (g.T.Target.pixels l.raster);
  kept : g.T.Target.kept l.raster ≡ g.T.Target.kept l.fn.raster;
}
