use Rattle.lerc_encode.proofs.BlocksAt.{gathered_are, gathered_fit}
use Rattle.lerc_encode.proofs.blocks.chosen_blocks.gather.Goals as goal

pub returns-clause-fit : goal.returns-clause-fit
returns-clause-fit g c =
    gathered_fit c.args.blocks.now.header.now (g.V.View.pixels c.args.blocks.now.raster.now) c.args.blocks.now.blocked c.args.spot c.gather_distances.new.out _ c.gather_distances.result c.gather_distances.ensures.count c.gather_distances.ensures.distances

pub returns-clause-are : goal.returns-clause-are
returns-clause-are g c =
    gathered_are c.args.blocks.now.header.now (g.V.View.pixels c.args.blocks.now.raster.now) c.args.blocks.now.blocked c.args.spot c.gather_distances.new.out _ c.gather_distances.result c.gather_distances.ensures.count c.gather_distances.ensures.distances
