use Rattle.std.proofs.Common.{◌+◌, ◌*◌, map}
use Rattle.overview_tiles.specs.inside.Lays.{LaysDepths}
use Rattle.overview_tiles.proofs.layer.lay_values.Given as goal

abbrev pub invariant-loop-d : goal.invariant-loop-d
invariant-loop-d g l = LaysDepths l.frame l.raster (l.row * l.frame.cols + l.col) l.count (l.raster.rows * l.raster.cols) l.d (map g.S.Sum.number l.initial.sums) (map g.S.Sum.number l.sums)
