use Rattle.std.proofs.Common.{◌≡◌}
use Rattle.outside_io.specs.volume.History.{contents}
use Rattle.outside_io.specs.declared.volume.VolFile.TheVariants.{Bundle}
use Rattle.bundle_lines.proofs.Listed.{Listed}
use Rattle.bundle_lines.proofs.listing.list_all.Given as goal

abbrev pub invariant-loop-row : goal.invariant-loop-row
invariant-loop-row g l = record {
  lines : Listed (g.V.Volume.told l.fn.vol) (contents Bundle (g.V.Volume.history l.fn.vol)) l.row (g.K.Sink.held l.fn.out) (g.K.Sink.held l.out);
  same : l.vol ≡ l.fn.vol;
  output : g.K.Sink.faults l.out ≡ g.K.Sink.faults l.fn.out;
}
