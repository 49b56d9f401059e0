use Rattle.std.proofs.Common.{◌≡◌, ℕ, ◌+◌, ◌*◌, ◌<◌, ◌++◌, List, length}
use Rattle.delta_mode.specs.Deltas.{AreDeltas}
use Rattle.lerc_grammar.specs.Codes.{symbols_of}
use Rattle.raster_values.specs.Raster.{IsRaster}
use Rattle.lerc_decode.specs.inside.Body.{KeepsMarks}
use Rattle.lerc_decode.proofs.blob.codes.take_deltas.Given as goal

abbrev pub invariant-loop-d : goal.invariant-loop-d
invariant-loop-d g l = record {
  marks : KeepsMarks (g.T.Target.pixels l.fn.raster) (g.T.Target.pixels l.raster);
  left : g.S.SymbolSource.left l.source + l.d * l.header.valid ≡ g.S.SymbolSource.left l.fn.source;
  given : (before : List ℕ) → g.S.SymbolSource.has_given l.fn.source before
      → (symbols : List ℕ) × (g.S.SymbolSource.has_given l.source (before ++ symbols) × ((length symbols ≡ l.d * l.header.valid)
      × ((e : ℕ) → e < l.d → AreDeltas (g.T.Target.pixels l.raster) e (symbols_of l.header symbols e))));
  ready : g.S.SymbolSource.sound l.source;
  sources : g.S.SymbolSource.kept l.source ≡ g.S.SymbolSource.kept l.fn.source;
  sound : IsRaster (g.T.Target.pixels l.raster);
  kept : g.T.Target.kept l.raster ≡ g.T.Target.kept l.fn.raster;
}
