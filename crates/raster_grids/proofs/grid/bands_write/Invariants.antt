use Rattle.std.proofs.Common.{◌≡◌, ◌++◌, take}
use Rattle.std.specs.List.{flat_map}
use Rattle.outside_io.specs.streams.Sink.{Holds}
use Rattle.raster_grids.specs.Grid.{band_of}
use Rattle.raster_grids.proofs.BandsGiven.{front_of}
use Rattle.raster_grids.proofs.grid.bands_write.Given as goal

abbrev pub invariant-loop-i : goal.invariant-loop-i
invariant-loop-i g l = record {
  held : Holds (g.K.Sink.held l.fn.sink) (g.K.Sink.held l.sink) (front_of l.fn.bands ++ flat_map band_of (take l.i l.fn.bands));
  faults : g.K.Sink.faults l.sink ≡ g.K.Sink.faults l.fn.sink;
}
