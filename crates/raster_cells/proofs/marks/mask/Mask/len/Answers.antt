use Rattle.std.proofs.Common.{ap, ◌∙◌, sym, length}
use Rattle.raster_cells.proofs.MaskBits.{size_is}
use Rattle.raster_cells.proofs.marks.mask.Mask.len.Goals as goal

pub returns-clause-value : goal.returns-clause-value
returns-clause-value c = sym (size_is c.self.inside) ∙ ap length c.self.view_is
