use Rattle.lerc_encode.proofs.BlocksAt.{across_above, next_depth, next_col, next_row}
use Rattle.lerc_encode.proofs.blocks.chosen_blocks.next_block.Goals as goal

pub returns-then-d-h : goal.returns-then-d-h
returns-then-d-h g c = λ k is. next_depth c.args.blocks.now.header.now k c.args.spot is c.if-d-h.true

pub returns-then-col-h : goal.returns-then-col-h
returns-then-col-h g c =
    let h = c.args.blocks.now.header.now in
    λ k is. next_col h k c.args.spot is c.args.blocks.now.blocked.side_above c.requires.within.depth c.if-d-h.false c.if-col-h.true

pub returns : goal.returns
returns g c =
    let h = c.args.blocks.now.header.now in
    λ k is. next_row h k c.args.spot is c.args.blocks.now.blocked.side_above c.requires.within.depth c.if-d-h.false (across_above h (g.V.View.pixels c.args.blocks.now.raster.now) c.args.blocks.now.blocked) c.if-col-h.false
