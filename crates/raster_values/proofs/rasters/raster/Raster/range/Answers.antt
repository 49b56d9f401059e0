use Rattle.std.proofs.Common.{◌<◌, ◌*◌, ◌∙◌, Bool, List, ap, sym, subst, length, arith}
use Rattle.std.specs.Prelude.{All}
use Rattle.raster_cells.specs.PixelType.{InRange}
use Rattle.raster_values.specs.Raster.{Pixels}
use Rattle.raster_values.specs.Flat.{depth_values}
use Rattle.raster_cells.specs.CellList.{CellList}
use Rattle.raster_values.specs.inside.Runs.{IsRange, run_values}
use Rattle.raster_values.proofs.Ranges.{depth_is, found_is, empty_is, none_is}
use Rattle.raster_values.proofs.rasters.raster.Raster.range.Goals as goal
use Rattle.raster_values.proofs.rasters.raster.Raster.range.Goals.{After-range_of}

ranged : (c : After-range_of) → IsRange c.range_of.result (depth_values c.args.self.now c.args.d)
ranged c =
    let a = c.self.inside in
    let n = c.range_of.result in
    let found : IsRange n (run_values a.depth c.args.d a.marks a.values.values 0 (length a.marks)) =
    subst (λ (l : CellList). IsRange n (run_values a.depth c.args.d a.marks l.values 0 (length a.marks))) c.read-samples.ensures
    (subst (λ (ms : List Bool). IsRange n (run_values a.depth c.args.d ms c.read-samples.result.values 0 (length ms))) c.read-marks.ensures c.range_of.ensures) in
    subst (λ (r : Pixels). c.args.d < r.depth → IsRange n (depth_values r c.args.d)) c.self.view_is
    (λ below. subst (IsRange n) (sym (depth_is a c.args.d below)) found) c.requires

pub returns-clause-found : goal.returns-clause-found
returns-clause-found c = found_is c.range_of.result (depth_values c.args.self.now c.args.d) (ranged c)

pub returns-clause-empty : goal.returns-clause-empty
returns-clause-empty c = empty_is c.range_of.result (depth_values c.args.self.now c.args.d) (ranged c)

pub returns-clause-none : goal.returns-clause-none
returns-clause-none c = none_is c.range_of.result c.args.self.now c.args.d (ranged c)

pub invariant_of-plane-clause-size : goal.invariant_of-plane-clause-size
invariant_of-plane-clause-size c =
    let a = c.self.inside in
    ap (λ (l : CellList). length l.values) c.read-samples.ensures ∙ c.self.invariant.values ∙ ap (λ n. n * a.depth) (sym c.self.invariant.marks) ∙ ap (λ (ms : List Bool). length ms * a.depth) (sym c.read-marks.ensures)

pub invariant_of-plane-clause-few : goal.invariant_of-plane-clause-few
invariant_of-plane-clause-few c = omega (arith, ap (λ (l : CellList). length l.values) c.read-samples.ensures, c.self.invariant.values, c.self.invariant.shape.size)

pub range_of-requires : goal.range_of-requires
range_of-requires c = subst (λ (l : CellList). All (InRange l.kind) l.values) (sym c.read-samples.ensures) c.self.invariant.in_range
