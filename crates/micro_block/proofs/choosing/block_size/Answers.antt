use Rattle.std.proofs.Common.{arith}
use Rattle.std.proofs.lemmas.List.{length-map}
use Rattle.raster_cells.specs.Distance.{value_above}
use Rattle.micro_block.specs.inside.Stepping.{values_above}
use Rattle.micro_block.proofs.Closed.{block_short}
use Rattle.micro_block.proofs.choosing.block_size.Goals as goal

pub returns-clause-short : goal.returns-clause-short
returns-clause-short c =
    let ctx = c.args.ctx.now in
    let ds = c.args.distances.now in
    let le = block_short ctx.kind ctx.col ctx.step (values_above ctx.kind ds) in
    let size = (c.choose-chosen.ensures ctx.col).size in
    rw (← length-map ds (value_above ctx.kind)) (omega (arith, le, size))
