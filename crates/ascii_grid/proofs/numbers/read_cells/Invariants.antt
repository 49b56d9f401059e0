use Rattle.std.proofs.Common.{◌≡◌, ◌-◌, ◌*◌, ◌<◌, ◌++◌, ◌∷◌, ℕ, ℤ, List, Option, length}
use Rattle.ascii_grid.specs.Tokens.{TokenAt}
use Rattle.ascii_grid.specs.Text.{AreCells}
use Rattle.ascii_grid.specs.inside.Cells.{Begun, IsFairSoFar}
use Rattle.ascii_grid.specs.inside.Reading.{Left}
use Rattle.ascii_grid.proofs.numbers.read_cells.Given as goal

abbrev pub invariant-loop-done : goal.invariant-loop-done
invariant-loop-done g l = record {
  faults : g.S.Source.faults l.src ≡ g.S.Source.faults l.fn.src;
  count : l.count ≡ l.fn.raster.rows * l.fn.raster.cols;
  below : l.done < l.count;
  shape : l.raster ≡ record l.fn.raster { pixels = l.raster.pixels };
  fair : IsFairSoFar l.fn.raster l.raster l.fn.nodata l.done;
  so_far : (total : ℕ) (rest : List TokenAt) → (length l.fn.first.bytes < 33 → Left (g.S.Source.left l.fn.src) l.fn.window total rest)
      → (before : List TokenAt) × ((later : List TokenAt) × ((cells : List (Option (List ℤ))) × ((length before ≡ l.done) × (AreCells l.fn.raster.kind l.fn.nodata before cells
      × (Begun l.fn.raster l.raster cells × ((l.fn.first ∷ rest ≡ before ++ l.token ∷ later) × (length l.token.bytes < 33 → Left (g.S.Source.left l.src) l.window total later)))))));
}

abbrev pub decreases-loop-done : goal.decreases-loop-done
decreases-loop-done g l = l.count - l.done
