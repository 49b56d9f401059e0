use Rattle.std.proofs.Common.{◌≡◌, take}
use Rattle.ascii_grid.specs.Canon.{number_words}
use Rattle.ascii_grid.specs.inside.Pages.{Waits}
use Rattle.ascii_grid.proofs.canon.write_numbers.Given as goal

abbrev pub invariant-loop-k : goal.invariant-loop-k
invariant-loop-k g l = record {
  waits : Waits (g.K.Sink.held l.fn.sink) (g.K.Sink.held l.sink) l.fn.page l.page (number_words l.grid.geo.nodata l.grid.raster.cols 0 (take l.k l.grid.raster.pixels));
  faults : g.K.Sink.faults l.sink ≡ g.K.Sink.faults l.fn.sink;
}
