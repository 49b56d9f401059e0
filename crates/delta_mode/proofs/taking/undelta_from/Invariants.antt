use Rattle.std.proofs.Common.{◌≡◌, ℕ, ◌≤◌, ◌<◌, ◌-◌, ◌*◌, ◌+◌, ◌++◌, List, length}
use Rattle.raster_values.specs.Block.{SameMask}
use Rattle.raster_values.specs.Flat.{value_in}
use Rattle.raster_values.specs.Raster.{IsRaster}
use Rattle.delta_mode.specs.Deltas.{is_valid}
use Rattle.delta_mode.specs.inside.Pieces.{IsAt, AreCoded}
use Rattle.delta_mode.proofs.taking.undelta_from.Given as goal

abbrev pub invariant-loop-place : goal.invariant-loop-place
invariant-loop-place g l = record {
  within : l.place ≤ (g.T.Target.pixels l.fn.raster).rows * (g.T.Target.pixels l.fn.raster).cols;
  symbols : length l.symbols ≡ 1024;
  same : SameMask (g.T.Target.pixels l.fn.raster) (g.T.Target.pixels l.raster);
  at : IsAt (is_valid (g.T.Target.pixels l.fn.raster)) (value_in (g.T.Target.pixels l.raster) l.fn.d) l.place l.walk.left l.walk.last l.walk.count;
  left : l.walk.count + g.S.SymbolSource.left l.source ≡ g.S.SymbolSource.left l.fn.source;
  given : (before : List ℕ) → g.S.SymbolSource.has_given l.fn.source before
      → (front : List ℕ) × (g.S.SymbolSource.has_given l.source (before ++ front) × ((length front ≡ l.walk.count)
      × AreCoded (g.T.Target.pixels l.fn.raster).kind (g.T.Target.pixels l.fn.raster).cols (is_valid (g.T.Target.pixels l.fn.raster)) (value_in (g.T.Target.pixels l.raster) l.fn.d) 0 l.place front));
  rest : (k e : ℕ) → k < (g.T.Target.pixels l.fn.raster).rows * (g.T.Target.pixels l.fn.raster).cols → e < (g.T.Target.pixels l.fn.raster).depth → (e ≡ l.fn.d → ⊥) → value_in (g.T.Target.pixels l.raster) e k ≡ value_in (g.T.Target.pixels l.fn.raster) e k;
  ready : g.S.SymbolSource.sound l.source;
  sources : g.S.SymbolSource.kept l.source ≡ g.S.SymbolSource.kept l.fn.source;
  sound : IsRaster (g.T.Target.pixels l.raster);
  kept : g.T.Target.kept l.raster ≡ g.T.Target.kept l.fn.raster;
}

abbrev pub decreases-loop-place : goal.decreases-loop-place
decreases-loop-place g l = (g.T.Target.pixels l.fn.raster).rows * (g.T.Target.pixels l.fn.raster).cols - l.place
