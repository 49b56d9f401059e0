use Rattle.std.proofs.Common.{◌*◌, ap, ◌∙◌, sym}
use Rattle.raster_cells.specs.PixelType.{bytes_of}
use Rattle.raster_values.specs.Raster.{Pixels, valid_count}
use Rattle.raster_values.specs.inside.RasterRefView.{seen_there}
use Rattle.raster_values.proofs.RasterRefArrays.{seen_raster}
use Rattle.raster_values.proofs.FlatViews.{count_values}
use Rattle.raster_values.proofs.rasters.raster_ref.RasterRef.value_bytes.Goals as goal

pub write_valid-requires-clause-room : goal.write_valid-requires-clause-room
write_valid-requires-clause-room c =
    let a = c.self.inside in
    c.requires ∙ ap (λ (r : Pixels). valid_count r * r.depth * bytes_of r.kind) (sym c.self.view_is)
    ∙ ap (λ n. n * bytes_of a.values.kind) (sym (count_values (seen_there a) (seen_raster a c.self.invariant)))
