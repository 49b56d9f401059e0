use Rattle.std.proofs.Common.{◌*◌, Bool, List, ap, ◌∙◌, sym, length, arith}
use Rattle.raster_cells.specs.PixelType.{bytes_of}
use Rattle.raster_values.specs.Raster.{Pixels, valid_count, values_of}
use Rattle.raster_cells.specs.Values.{values_bytes}
use Rattle.raster_cells.specs.CellList.{CellList}
use Rattle.raster_values.specs.View.{pixels_of, seen}
use Rattle.raster_values.proofs.Views.{sound}
use Rattle.raster_values.proofs.FlatViews.{count_values}
use Rattle.raster_values.proofs.rasters.raster.Raster.value_bytes.Goals as goal

pub write_valid-requires-clause-room : goal.write_valid-requires-clause-room
write_valid-requires-clause-room c =
    let a = c.self.inside in
    c.requires ∙ ap (λ (r : Pixels). valid_count r * r.depth * bytes_of r.kind) (sym c.self.view_is)
    ∙ ap (λ n. n * bytes_of a.values.kind) (sym (count_values (seen a) (sound a c.self.invariant)))
    ∙ ap (λ (l : CellList). length (values_of (pixels_of a.depth a.marks l.values)) * bytes_of l.kind) (sym c.read-values.ensures)
    ∙ ap (λ (ms : List Bool). length (values_of (pixels_of a.depth ms c.read-values.result.values)) * bytes_of c.read-values.result.kind) (sym c.read-marks.ensures)

pub write_valid-requires-clause-size : goal.write_valid-requires-clause-size
write_valid-requires-clause-size c =
    let a = c.self.inside in
    ap (λ (l : CellList). length l.values) c.read-values.ensures ∙ c.self.invariant.values ∙ ap (λ n. n * a.depth) (sym c.self.invariant.marks) ∙ ap (λ (ms : List Bool). length ms * a.depth) (sym c.read-marks.ensures)

pub write_valid-requires-clause-few : goal.write_valid-requires-clause-few
write_valid-requires-clause-few c = omega (arith, ap (λ (l : CellList). length l.values) c.read-values.ensures, c.self.invariant.values, c.self.invariant.shape.size)

pub returns : goal.returns
returns c =
    let a = c.self.inside in
    c.write_valid.ensures
    ∙ ap (λ (ms : List Bool). values_bytes c.read-values.result.kind (values_of (pixels_of a.depth ms c.read-values.result.values))) c.read-marks.ensures
    ∙ ap (λ (l : CellList). values_bytes l.kind (values_of (pixels_of a.depth a.marks l.values))) c.read-values.ensures
    ∙ ap (λ (r : Pixels). values_bytes r.kind (values_of r.pixels)) c.self.view_is
