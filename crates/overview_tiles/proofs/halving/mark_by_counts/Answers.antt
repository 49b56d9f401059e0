use Rattle.overview_tiles.proofs.Filling.{counted_bits}
use Rattle.overview_tiles.proofs.halving.mark_by_counts.Goals as goal

pub returns : goal.returns
returns c = counted_bits c.args.counts.now c.write_marks.new.mask c.args.raster.now c.mark_from_bits.new.self c.requires.cols c.requires.count c.write_marks.ensures c.mark_from_bits.ensures.marked
