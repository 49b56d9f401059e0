use Rattle.std.proofs.Common.{◌≡◌, ◌≤◌, ◌-◌, length}
use Rattle.raster_grids.proofs.Taken.{MarksTaken}
use Rattle.raster_grids.proofs.reading.take_marks.Given as goal

abbrev pub invariant-loop-done : goal.invariant-loop-done
invariant-loop-done g l = record {
  size : length l.marks ≡ length l.fn.marks;
  within : l.done ≤ length l.marks;
  taken : MarksTaken (g.S.Source.left l.fn.src) (g.S.Source.left l.src) l.marks l.done;
  faults : g.S.Source.faults l.src ≡ g.S.Source.faults l.fn.src;
  buffer : length l.buffer ≡ 65536;
}

abbrev pub decreases-loop-done : goal.decreases-loop-done
decreases-loop-done g l = length l.marks - l.done
