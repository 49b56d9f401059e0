use Rattle.std.proofs.Common.{◌≡◌, ◌++◌, drop, length}
use Rattle.std.specs.List.{flat_map, range_with_len}
use Rattle.lerc_encode.specs.Images.{coded_bytes}
use Rattle.lerc_encode.specs.inside.Blocked.{IsBlockAt}
use Rattle.lerc_encode.proofs.blocks.chosen_blocks.write_blocks.Given as goal

abbrev pub invariant-loop-k : goal.invariant-loop-k
invariant-loop-k g l =
    (l.at ≡ length (flat_map (coded_bytes l.blocks.header.now (g.V.View.pixels l.blocks.raster.now)) (range_with_len 0 l.k)))
    × ((l.out ≡ flat_map (coded_bytes l.blocks.header.now (g.V.View.pixels l.blocks.raster.now)) (range_with_len 0 l.k) ++ drop l.at l.initial.out)
    × IsBlockAt l.blocks.header.now l.k l.spot)
