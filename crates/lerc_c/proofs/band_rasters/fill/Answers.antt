use Rattle.lerc_c.proofs.Giving.{given_of}
use Rattle.lerc_c.proofs.band_rasters.fill.Goals as goal

pub returns : goal.returns
returns c =
    let r = c.args.raster.now in
    given_of r.kind r.rows r.cols r.depth c.args.values.now c.args.mask.now c.mark_bits.new.raster c.put_cells.new.self c.mark_bits.ensures c.put_cells.ensures.put c.put_cells.ensures.sound
