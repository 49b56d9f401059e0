use Rattle.std.proofs.Common.{◌≡◌, ◌*◌, List, Bool, ap, ◌∙◌, sym, subst, length, rules}
use Rattle.raster_cells.specs.PixelType.{bytes_of}
use Rattle.raster_cells.specs.Values.{values_bytes}
use Rattle.raster_values.specs.Raster.{values_of}
use Rattle.raster_values.specs.Ordered.{ChangesMarked}
use Rattle.raster_values.specs.View.{seen, pixels_of}
use Rattle.raster_values.proofs.Views.{sound, full, KeepsValues}
use Rattle.raster_values.proofs.FlatViews.{scatters_keep, scatters_bytes, count_values}
use Rattle.raster_cells.specs.CellList.{values_in}
use Rattle.raster_values.specs.RasterMut.{inside_of}
use Rattle.raster_values.proofs.RasterMutArrays.{still_inside, still_raster}
use Rattle.raster_values.proofs.rasters.raster_mut.RasterMut.scatter.Goals as goal

pub scatter_bytes_over-requires-clause-size : goal.scatter_bytes_over-requires-clause-size
scatter_bytes_over-requires-clause-size c =
    let a = inside_of c.args.self.now in
    full a c.args.self.now.inside ∙ ap (λ (ms : List Bool). length ms * a.depth) (sym c.marks-marks.ensures)

pub scatter_bytes_over-requires-clause-count : goal.scatter_bytes_over-requires-clause-count
scatter_bytes_over-requires-clause-count c =
    let a = inside_of c.args.self.now in
    c.requires.size ∙ ap (λ n. n * bytes_of a.values.kind) (sym (count_values (seen a) (sound a c.args.self.now.inside)))
    ∙ ap (λ (ms : List Bool). length (values_of (pixels_of a.depth ms a.values.values)) * bytes_of a.values.kind) (sym c.marks-marks.ensures)

pub returns-clause-scattered : goal.returns-clause-scattered
returns-clause-scattered c =
    let t = c.args.self.now in
    let new = c.scatter_bytes_over.new.values in
    let done = subst (λ (ms : List Bool). ChangesMarked t.kind t.depth ms (inside_of t).values.values (values_in t.kind t.count new)) c.marks-marks.ensures c.scatter_bytes_over.ensures.changed in
    let keeps : KeepsValues (inside_of t) (inside_of t).marks (values_in t.kind t.count new) = scatters_keep (inside_of t) (values_in t.kind t.count new) t.inside done in
    let scattered : values_bytes t.kind (values_of (pixels_of t.depth (inside_of t).marks (values_in t.kind t.count new))) ≡ c.args.bytes.now =
    ap (λ (ms : List Bool). values_bytes t.kind (values_of (pixels_of t.depth ms (values_in t.kind t.count new)))) (sym c.marks-marks.ensures) ∙ c.scatter_bytes_over.ensures.scattered in
    scatters_bytes (inside_of t) c.args.bytes.now (values_in t.kind t.count new) t.inside keeps scattered

pub returns-clause-stays : goal.returns-clause-stays
returns-clause-stays c =
    let t = c.args.self.now in
    let new = c.scatter_bytes_over.new.values in
    let done = subst (λ (ms : List Bool). ChangesMarked t.kind t.depth ms (inside_of t).values.values (values_in t.kind t.count new)) c.marks-marks.ensures c.scatter_bytes_over.ensures.changed in
    let keeps : KeepsValues (inside_of t) (inside_of t).marks (values_in t.kind t.count new) = scatters_keep (inside_of t) (values_in t.kind t.count new) t.inside done in
    record { raster = still_raster t new keeps; kept = search rules }

pub invariant_of-self : goal.invariant_of-self
invariant_of-self c =
    let t = c.args.self.now in
    let new = c.scatter_bytes_over.new.values in
    let done = subst (λ (ms : List Bool). ChangesMarked t.kind t.depth ms (inside_of t).values.values (values_in t.kind t.count new)) c.marks-marks.ensures c.scatter_bytes_over.ensures.changed in
    let keeps : KeepsValues (inside_of t) (inside_of t).marks (values_in t.kind t.count new) = scatters_keep (inside_of t) (values_in t.kind t.count new) t.inside done in
    record { inside = still_inside t new keeps; bits = t.bits; cells = c.scatter_bytes_over.ensures.cells }
