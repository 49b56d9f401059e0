use Rattle.std.proofs.Common.{ap, ◌∙◌}
use Rattle.raster_values.specs.Raster.{valid_count}
use Rattle.overview_tiles.proofs.Filling.{blank_count}
use Rattle.overview_tiles.proofs.halving.counted_raster.Goals as goal

pub mark_counted-requires-clause-none : goal.mark_counted-requires-clause-none
mark_counted-requires-clause-none c = ap valid_count c.in-Ok.ensures.ok ∙ blank_count c.args.kind c.args.rows c.args.cols c.args.depth
