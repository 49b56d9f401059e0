use Rattle.std.proofs.Common.{◌≡◌, ◌<◌, ◌++◌, ◌*◌, ◌∙◌, Bool, List, ap, drop, length, map, subst, sym, arith}
use Rattle.raster_values.specs.Raster.{Pixels}
use Rattle.raster_values.specs.Flat.{valid_from, values_among}
use Rattle.raster_cells.specs.Distance.{distance_of}
use Rattle.raster_cells.specs.CellList.{CellList}
use Rattle.raster_values.specs.inside.Runs.{run_values, Gathers}
use Rattle.raster_values.proofs.FlatViews.{gathered_among}
use Rattle.raster_values.proofs.rasters.raster.Raster.gather_from.Goals as goal

-- the views that a raster hands to what gathers are its own marks and values
gathered : (c : goal.After-slice_known-2-1) → Gathers (map (distance_of c.self.inside.values.kind) (run_values c.self.inside.depth c.args.d c.self.inside.marks c.self.inside.values.values c.args.place c.args.count))
    c.args.out.now c.gather_pixels.new.out 0 c.gather_pixels.result
gathered c =
    let a = c.self.inside in
    let new = c.gather_pixels.new.out in
    let n = c.gather_pixels.result in
    subst (λ (l : CellList). Gathers (map (distance_of l.kind) (run_values a.depth c.args.d a.marks l.values c.args.place c.args.count)) c.args.out.now new 0 n) c.read-samples.ensures
    (subst (λ (ms : List Bool). Gathers (map (distance_of c.read-samples.result.kind) (run_values a.depth c.args.d ms c.read-samples.result.values c.args.place c.args.count)) c.args.out.now new 0 n) c.read-marks.ensures
    c.gather_pixels.ensures.gathered)

pub returns-clause-count : goal.returns-clause-count
returns-clause-count c =
    let a = c.self.inside in
    subst (λ (r : Pixels). c.args.d < r.depth → c.gather_pixels.result ≡ length (valid_from r c.args.place c.args.count)) c.self.view_is
    (λ below. (gathered_among (distance_of a.values.kind) a c.args.d c.args.place c.args.count c.gather_pixels.result c.args.out.now c.gather_pixels.new.out below (gathered c)).0) c.requires.depth

pub returns-clause-distances : goal.returns-clause-distances
returns-clause-distances c =
    let a = c.self.inside in
    subst
    (λ (r : Pixels). c.args.d < r.depth → c.gather_pixels.new.out ≡ map (distance_of r.kind) (values_among r c.args.d c.args.place c.args.count) ++ drop c.gather_pixels.result c.args.out.now) c.self.view_is
    (λ below. (gathered_among (distance_of a.values.kind) a c.args.d c.args.place c.args.count c.gather_pixels.result c.args.out.now c.gather_pixels.new.out below (gathered c)).1) c.requires.depth

pub invariant_of-plane-clause-size : goal.invariant_of-plane-clause-size
invariant_of-plane-clause-size c =
    let a = c.self.inside in
    ap (λ (l : CellList). length l.values) c.read-samples.ensures ∙ c.self.invariant.values ∙ ap (λ n. n * a.depth) (sym c.self.invariant.marks) ∙ ap (λ (ms : List Bool). length ms * a.depth) (sym c.read-marks.ensures)

pub invariant_of-plane-clause-few : goal.invariant_of-plane-clause-few
invariant_of-plane-clause-few c = omega (arith, ap (λ (l : CellList). length l.values) c.read-samples.ensures, c.self.invariant.values, c.self.invariant.shape.size)
