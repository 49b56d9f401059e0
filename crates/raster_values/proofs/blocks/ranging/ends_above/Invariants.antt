use Rattle.std.proofs.Common.{◌<◌, map, take}
use Rattle.raster_cells.specs.Distance.{value_above}
use Rattle.raster_cells.specs.Runs.{AreEnds}
use Rattle.raster_values.proofs.blocks.ranging.ends_above.Given as goal

abbrev pub invariant-loop-i : goal.invariant-loop-i
invariant-loop-i l = record {
  ends : AreEnds l.kind (map (value_above l.kind) (take l.i l.distances)) l.near l.far;
  near : l.near < 4294967296;
  far : l.far < 4294967296;
}
