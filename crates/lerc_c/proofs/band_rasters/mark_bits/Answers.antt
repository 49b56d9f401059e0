use Rattle.lerc_c.proofs.Giving.{bits_marked}
use Rattle.lerc_c.proofs.band_rasters.mark_bits.Goals as goal

pub returns : goal.returns
returns c = bits_marked c.args.raster.now c.mark_from_bits.new.self c.args.mask.now c.requires.some c.mark_from_bits.ensures.marked c.mark_from_bits.ensures.sound
