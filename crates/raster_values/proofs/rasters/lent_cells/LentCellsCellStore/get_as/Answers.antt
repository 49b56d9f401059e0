use Rattle.std.proofs.Common.{◌*◌, ◌∙◌, ap, sym, arith}
use Rattle.raster_cells.specs.declared.kind.PixelType.{PixelType}
use Rattle.raster_cells.specs.PixelType.{bytes_of}
use Rattle.raster_cells.proofs.CellRuns.{length-values_in}
use Rattle.raster_cells.proofs.ValueBytes.{value_bytes_long}
use Rattle.raster_values.proofs.rasters.lent_cells.LentCellsCellStore.get_as.Goals as goal

pub value_at-requires-clause-size : goal.value_at-requires-clause-size
value_at-requires-clause-size c =
    let t = c.args.self.now in
    value_bytes_long t.kind t.count t.values.now c.args.self.now.cells ∙ ap (λ (k : PixelType). t.count * bytes_of k) (sym c.requires.kind)

pub value_at-requires-clause-within : goal.value_at-requires-clause-within
value_at-requires-clause-within c =
    let t = c.args.self.now in
    omega (arith, c.requires.within, length-values_in t.kind t.count t.values.now)
