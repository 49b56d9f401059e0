use Rattle.std.proofs.Common.{◌≡◌, ◌+◌, ◌-◌, ◌*◌, ℕ, List, length}
use Rattle.raster_cells.specs.PixelType.{bytes_of}
use Rattle.raster_values.specs.Raster.{values_of}
use Rattle.raster_grids.specs.Taken.{TookBytes}
use Rattle.raster_grids.specs.inside.TakenRun.{behind}
use Rattle.raster_values.specs.View.{pixels_of}
use Rattle.raster_values.proofs.Scattered.{Fills}
use Rattle.raster_grids.proofs.reading.take_values.Given as goal

abbrev pub invariant-loop-done : goal.invariant-loop-done
invariant-loop-done g l = record {
  kind : l.values.kind ≡ l.initial.values.kind;
  read : List ℕ;
  took : TookBytes (g.S.Source.left l.fn.src) (behind l.ahead.waiting (g.S.Source.left l.src)) read;
  from : length read ≡ l.from;
  budget : length l.ahead.waiting + l.ahead.more + length read ≡ length (values_of (pixels_of l.depth l.marks l.initial.values.values)) * bytes_of l.initial.values.kind;
  fills : Fills l.initial.values.kind l.depth l.marks (length (values_of (pixels_of l.depth l.marks l.initial.values.values)) * bytes_of l.initial.values.kind) read l.initial.values.values l.values.values l.done;
  faults : g.S.Source.faults l.src ≡ g.S.Source.faults l.fn.src;
}

abbrev pub decreases-loop-done : goal.decreases-loop-done
decreases-loop-done g l = length l.marks - l.done
