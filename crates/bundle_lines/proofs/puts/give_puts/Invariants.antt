use Rattle.std.proofs.Common.{◌≡◌, take}
use Rattle.outside_io.specs.streams.Sink.{Holds}
use Rattle.bundle_lines.specs.Lines.{put_lines}
use Rattle.bundle_lines.proofs.puts.give_puts.Given as goal

abbrev pub invariant-loop-update : goal.invariant-loop-update
invariant-loop-update g l = record {
  lines : Holds (g.K.Sink.held l.fn.out) (g.K.Sink.held l.out) (put_lines (take l.update-index l.group));
  counted : g.K.Sink.faults l.out ≡ g.K.Sink.faults l.fn.out;
}
