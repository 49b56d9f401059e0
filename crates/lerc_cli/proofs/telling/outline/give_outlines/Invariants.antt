use Rattle.std.proofs.Common.{◌≡◌, take}
use Rattle.std.specs.List.{flat_map}
use Rattle.outside_io.specs.streams.Sink.{Holds}
use Rattle.lerc_cli.specs.answers.Outline.{outline_lines}
use Rattle.lerc_cli.proofs.telling.outline.give_outlines.Given as goal

abbrev pub invariant-loop-outline : goal.invariant-loop-outline
invariant-loop-outline g l = record {
  lines : Holds (g.K.Sink.held l.fn.out) (g.K.Sink.held l.out) (flat_map outline_lines (take l.outline-index l.outlines));
  counted : g.K.Sink.faults l.out ≡ g.K.Sink.faults l.fn.out;
}
