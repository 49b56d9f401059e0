use Rattle.std.proofs.Common.{◌≡◌, ◌+◌, ◌*◌, ap, ◌∙◌}
use Rattle.raster_cells.specs.PixelType.{bytes_of}
use Rattle.raster_grids.proofs.bands_grid.band_size.Goals as goal

pub returns-clause-value : goal.returns-clause-value
returns-clause-value c =
    let size : c.bytes.result ≡ bytes_of c.args.raster.now.kind = c.bytes.ensures ∙ ap bytes_of c.kind.ensures.value in
    λ i. c.rows.ensures.value i * c.cols.ensures.value i + c.valid_count.ensures.value i * c.depth.ensures.value i * size i
