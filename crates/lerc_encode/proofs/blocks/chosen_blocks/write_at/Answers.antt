use Rattle.lerc_encode.proofs.BlocksAt.{capped_there}
use Rattle.lerc_encode.proofs.blocks.chosen_blocks.write_at.Goals as goal

pub write_ranked-requires-clause-capped : goal.write_ranked-requires-clause-capped
write_ranked-requires-clause-capped g c =
    let is = c.context-ctx.ensures in
    capped_there c.args.blocks.now.header.now (g.V.View.pixels c.args.blocks.now.raster.now) c.args.blocks.now.blocked c.args.spot _ c.context-ctx.result is.kind is.top c.gather-n.ensures.are

pub has_table-has_table-requires-clause-capped : goal.has_table-has_table-requires-clause-capped
has_table-has_table-requires-clause-capped g c =
    let is = c.context-ctx.ensures in
    capped_there c.args.blocks.now.header.now (g.V.View.pixels c.args.blocks.now.raster.now) c.args.blocks.now.blocked c.args.spot _ c.context-ctx.result is.kind is.top c.gather-n.ensures.are
