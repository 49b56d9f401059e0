use Rattle.std.proofs.Common.{◌≤◌, ◌-◌, map}
use Rattle.overview_tiles.specs.inside.Means.{Fills}
use Rattle.overview_tiles.proofs.halving.fill.Given as goal

abbrev pub invariant-loop-place : goal.invariant-loop-place
invariant-loop-place g l = record {
  high : l.place ≤ l.places;
  filled : Fills l.counts (map g.S.Sum.number l.sums) 0 l.place l.initial.raster l.raster;
}

abbrev pub decreases-loop-place : goal.decreases-loop-place
decreases-loop-place g l = l.places - l.place
