use Rattle.std.proofs.Common.{map}
use Rattle.overview_tiles.specs.inside.Means.{FillsDepths}
use Rattle.overview_tiles.proofs.halving.fill_depths.Given as goal

abbrev pub invariant-loop-d : goal.invariant-loop-d
invariant-loop-d g l = FillsDepths l.counts (map g.S.Sum.number l.sums) l.place l.count l.d l.initial.raster l.raster
