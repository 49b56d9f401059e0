use Rattle.std.proofs.Common.{◌≡◌, ◌+◌, ◌-◌, ◌≤◌, length}
use Rattle.bundle_lines.specs.inside.Turns.{PutsSoFar}
use Rattle.bundle_lines.proofs.puts.put_all.Given as goal

abbrev pub invariant-loop-done : goal.invariant-loop-done
invariant-loop-done g l = record {
  so_far : PutsSoFar l.updates l.done l.marks.marks l.session (g.V.Volume.told l.fn.vol) (g.V.Volume.told l.vol) (g.V.Volume.history l.fn.vol) (g.V.Volume.history l.vol) (g.K.Sink.held l.fn.out) (g.K.Sink.held l.out);
  within : l.done ≤ length l.updates;
  room : length l.updates ≤ l.marks.spare + l.done;
  output : g.K.Sink.faults l.out ≡ g.K.Sink.faults l.fn.out;
  volume : g.V.Volume.faults l.vol ≡ g.V.Volume.faults l.fn.vol;
}

abbrev pub decreases-loop-done : goal.decreases-loop-done
decreases-loop-done g l = length l.updates - l.done
