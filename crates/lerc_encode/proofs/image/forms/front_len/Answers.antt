use Rattle.std.proofs.Common.{ap, sym, ◌∙◌, length}
use Rattle.raster_cells.specs.PixelType.{bytes_of}
use Rattle.lerc_encode.specs.Ranges.{lists_bytes}
use Rattle.lerc_encode.proofs.Forming.{front_long}
use Rattle.lerc_encode.proofs.image.forms.front_len.Goals as goal

pub returns-in-V4-clause-value : goal.returns-in-V4-clause-value
returns-in-V4-clause-value g c =
    front_long (g.V.View.pixels c.args.raster.now) c.depth.result c.bytes.result c.depth.ensures.value (c.bytes.ensures ∙ ap bytes_of c.kind.ensures.value)
    ∙ ap (λ v. length (lists_bytes (g.V.View.pixels c.args.raster.now) v)) (sym c.in-V4.is)
