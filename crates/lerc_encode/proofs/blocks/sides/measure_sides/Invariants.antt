use Rattle.std.proofs.Common.{◌<◌, length}
use Rattle.std.specs.List.{flat_map, range_with_len}
use Rattle.lerc_encode.specs.Images.{coded_bytes}
use Rattle.lerc_encode.specs.inside.Blocked.{IsBlockAt}
use Rattle.lerc_encode.specs.inside.Sides.{IsMore}
use Rattle.lerc_encode.proofs.Quartered.{quarters_so_far}
use Rattle.lerc_encode.proofs.SideWalks.{AreMarked, IsInFirst}
use Rattle.lerc_encode.proofs.blocks.sides.measure_sides.Given as goal

abbrev pub invariant-loop-k : goal.invariant-loop-k
invariant-loop-k g l =
    IsBlockAt l.sides.large.now l.k l.spot
    × ((IsMore l.sides.most (quarters_so_far l.sides.small.now (g.V.View.pixels l.sides.raster.now) l.k) 0 l.eights.size × AreMarked (IsInFirst l.sides.small.now l.k) l.sides.small.now (g.V.View.pixels l.sides.raster.now) l.sides.most l.eights.size l.eights.tables)
    × (IsMore l.sides.most (length (flat_map (coded_bytes l.sides.large.now (g.V.View.pixels l.sides.raster.now)) (range_with_len 0 l.k))) 0 l.sixteens.size × AreMarked (λ i. i < l.k) l.sides.large.now (g.V.View.pixels l.sides.raster.now) l.sides.most l.sixteens.size l.sixteens.tables))
