use Rattle.lerc_encode.proofs.FirstRanges.{AreFirst, least_at, greatest_at}
use Rattle.lerc_encode.proofs.image.ranging.ranges_of.Given as goal

abbrev pub invariant-loop-d : goal.invariant-loop-d
invariant-loop-d g l =
    AreFirst (least_at (g.V.View.pixels l.raster)) (greatest_at (g.V.View.pixels l.raster)) l.d l.ranges
