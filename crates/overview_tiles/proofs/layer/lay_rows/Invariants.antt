use Rattle.std.proofs.Common.{◌*◌, map}
use Rattle.overview_tiles.specs.inside.Lays.{LaysMarks, LaysValues}
use Rattle.overview_tiles.proofs.layer.lay_rows.Given as goal

abbrev pub invariant-loop-row : goal.invariant-loop-row
invariant-loop-row g l = record {
  marks : LaysMarks l.frame l.raster 0 (l.row * l.frame.cols) l.initial.counts l.counts;
  values : LaysValues l.frame l.raster 0 (l.row * l.frame.cols) (l.raster.rows * l.raster.cols) (map g.S.Sum.number l.initial.sums) (map g.S.Sum.number l.sums);
}
