use Rattle.std.proofs.Common.{◌≡◌, ◌*◌, ap, ◌∙◌, sym, subst}
use Rattle.raster_cells.specs.PixelType.{bytes_of}
use Rattle.raster_cells.specs.Values.{values_bytes}
use Rattle.raster_values.specs.Raster.{Pixels, values_of, valid_count, IsRaster}
use Rattle.raster_values.specs.Order.{ScattersBytes}
use Rattle.raster_cells.specs.CellList.{CellList}
use Rattle.raster_values.specs.View.{seen, pixels_of}
use Rattle.raster_values.proofs.Views.{sound}
use Rattle.raster_values.proofs.FlatViews.{scatters_keep, scatters_bytes, count_values, with_values, keeps_inside}
use Rattle.raster_values.proofs.rasters.raster.Raster.scatter.Goals as goal

pub scatter_bytes-requires-clause-count : goal.scatter_bytes-requires-clause-count
scatter_bytes-requires-clause-count c =
    let a = c.self.inside in
    c.requires ∙ ap (λ (r : Pixels). valid_count r * r.depth * bytes_of r.kind) (sym c.self.view_is)
    ∙ ap (λ n. n * bytes_of a.values.kind) (sym (count_values (seen a) (sound a c.self.invariant)))

pub returns-clause-scattered : goal.returns-clause-scattered
returns-clause-scattered c =
    let a = c.self.inside in
    let vs = c.scatter_bytes.new.values.values in
    let cells : c.scatter_bytes.new.values ≡ record a.values { values = vs } = λ i. record { kind = c.scatter_bytes.ensures.kind i; values = vs } in
    let scattered : values_bytes a.values.kind (values_of (pixels_of a.depth a.marks vs)) ≡ c.args.bytes.now =
    c.scatter_bytes.ensures.scattered in
    subst (λ (l : CellList). ScattersBytes c.args.self.now (record { kind = l.kind; rows = a.rows; cols = a.cols; depth = a.depth; pixels = pixels_of a.depth a.marks l.values }) c.args.bytes.now) (sym cells)
    (subst (λ (r : Pixels). ScattersBytes r (with_values a vs) c.args.bytes.now) c.self.view_is
    (scatters_bytes a c.args.bytes.now vs c.self.invariant (scatters_keep a vs c.self.invariant c.scatter_bytes.ensures.changed) scattered))

pub returns-clause-sound : goal.returns-clause-sound
returns-clause-sound c =
    let a = c.self.inside in
    let vs = c.scatter_bytes.new.values.values in
    let cells : c.scatter_bytes.new.values ≡ record a.values { values = vs } = λ i. record { kind = c.scatter_bytes.ensures.kind i; values = vs } in
    subst (λ (l : CellList). IsRaster (record { kind = l.kind; rows = a.rows; cols = a.cols; depth = a.depth; pixels = pixels_of a.depth a.marks l.values })) (sym cells) (keeps_inside a vs c.self.invariant (scatters_keep a vs c.self.invariant c.scatter_bytes.ensures.changed))
