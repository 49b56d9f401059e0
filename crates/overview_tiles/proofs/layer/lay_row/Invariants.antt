use Rattle.std.proofs.Common.{◌≤◌, ◌-◌, ◌*◌, map}
use Rattle.overview_tiles.specs.inside.Lays.{LaysMarks, LaysValues}
use Rattle.overview_tiles.proofs.layer.lay_row.Given as goal

abbrev pub invariant-loop-col : goal.invariant-loop-col
invariant-loop-col g l = record {
  high : l.col ≤ l.frame.cols;
  marks : LaysMarks l.frame l.raster (l.row * l.frame.cols) l.col l.initial.counts l.counts;
  values : LaysValues l.frame l.raster (l.row * l.frame.cols) l.col (l.raster.rows * l.raster.cols) (map g.S.Sum.number l.initial.sums) (map g.S.Sum.number l.sums);
}

abbrev pub decreases-loop-col : goal.decreases-loop-col
decreases-loop-col g l = l.frame.cols - l.col
