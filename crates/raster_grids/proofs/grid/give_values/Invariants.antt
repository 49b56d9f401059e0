use Rattle.std.proofs.Common.{◌≡◌, ◌≤◌, ◌-◌, ◌*◌, drop, length}
use Rattle.raster_values.specs.Raster.{values_of}
use Rattle.raster_cells.specs.Values.{values_bytes}
use Rattle.raster_values.specs.View.{pixels_of}
use Rattle.raster_grids.specs.inside.Pack.{Sends}
use Rattle.raster_grids.proofs.grid.give_values.Given as goal

abbrev pub invariant-loop-at : goal.invariant-loop-at
invariant-loop-at g l = record {
  within : l.at ≤ length l.marks;
  sends : Sends (g.K.Sink.held l.fn.sink) (g.K.Sink.held l.sink) l.waiting
      (values_bytes l.values.kind (values_of (pixels_of l.depth (drop l.at l.marks) (drop (l.at * l.depth) l.values.values))))
      (values_bytes l.values.kind (values_of (pixels_of l.depth l.marks l.values.values)));
  faults : g.K.Sink.faults l.sink ≡ g.K.Sink.faults l.fn.sink;
}

abbrev pub decreases-loop-at : goal.decreases-loop-at
decreases-loop-at g l = length l.marks - l.at
