use Rattle.std.proofs.Common.{◌≡◌, ℕ, ◌≤◌, ◌-◌, ◌*◌, ◌+◌, ◌++◌, List, length}
use Rattle.raster_values.specs.Block.{SameMask}
use Rattle.raster_values.specs.Flat.{value_in}
use Rattle.raster_values.specs.Raster.{IsRaster}
use Rattle.delta_mode.specs.Deltas.{is_valid}
use Rattle.delta_mode.specs.inside.Pieces.{rank}
use Rattle.delta_mode.specs.inside.Plain.{ArePlaced}
use Rattle.delta_mode.proofs.plain_taking.unplain_from.Given as goal

abbrev pub invariant-loop-place : goal.invariant-loop-place
invariant-loop-place g l = record {
  within : l.place ≤ l.pixels;
  wide : length l.marks ≡ 256;
  also : length l.values ≡ 256;
  symbols : length l.symbols ≡ 65536;
  same : SameMask (g.T.Target.pixels l.fn.raster) (g.T.Target.pixels l.raster);
  left : rank (is_valid (g.T.Target.pixels l.fn.raster)) l.place * (g.T.Target.pixels l.fn.raster).depth + g.S.SymbolSource.left l.source ≡ g.S.SymbolSource.left l.fn.source;
  given : (before : List ℕ) → g.S.SymbolSource.has_given l.fn.source before
      → (front : List ℕ) × (g.S.SymbolSource.has_given l.source (before ++ front)
      × ((length front ≡ rank (is_valid (g.T.Target.pixels l.fn.raster)) l.place * (g.T.Target.pixels l.fn.raster).depth)
      × ArePlaced (g.T.Target.pixels l.fn.raster).kind (g.T.Target.pixels l.fn.raster).depth (is_valid (g.T.Target.pixels l.fn.raster)) (value_in (g.T.Target.pixels l.raster)) 0 l.place front));
  ready : g.S.SymbolSource.sound l.source;
  sources : g.S.SymbolSource.kept l.source ≡ g.S.SymbolSource.kept l.fn.source;
  sound : IsRaster (g.T.Target.pixels l.raster);
  kept : g.T.Target.kept l.raster ≡ g.T.Target.kept l.fn.raster;
}

abbrev pub decreases-loop-place : goal.decreases-loop-place
decreases-loop-place g l = l.pixels - l.place
