use Rattle.std.proofs.Common.{◌∙◌, ap}
use Rattle.raster_cells.specs.PixelType.{bytes_of}
use Rattle.lerc_encode.proofs.Forming.{length_sweep}
use Rattle.lerc_encode.proofs.image.forms.sweep_len.Goals as goal

pub returns-clause-value : goal.returns-clause-value
returns-clause-value g c =
    length_sweep (g.V.View.pixels c.args.raster.now) c.depth.ensures.sound c.valid_count.result c.depth.result c.bytes.result c.valid_count.ensures.value c.depth.ensures.value (c.bytes.ensures ∙ ap bytes_of c.kind.ensures.value)
