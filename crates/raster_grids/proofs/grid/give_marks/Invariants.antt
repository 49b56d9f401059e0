use Rattle.std.proofs.Common.{◌≡◌, ◌≤◌, ◌-◌, take, length}
use Rattle.outside_io.specs.streams.Sink.{Holds}
use Rattle.raster_cells.specs.MarkBytes.{mark_bytes}
use Rattle.raster_grids.proofs.grid.give_marks.Given as goal

abbrev pub invariant-loop-at : goal.invariant-loop-at
invariant-loop-at g l = record {
  within : l.at ≤ length l.marks;
  held : Holds (g.K.Sink.held l.fn.sink) (g.K.Sink.held l.sink) (mark_bytes (take l.at l.marks));
  faults : g.K.Sink.faults l.sink ≡ g.K.Sink.faults l.fn.sink;
}

abbrev pub decreases-loop-at : goal.decreases-loop-at
decreases-loop-at g l = length l.marks - l.at
