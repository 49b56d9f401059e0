use Rattle.std.proofs.Common.{◌<◌, sym, subst}
use Rattle.raster_values.specs.Raster.{Pixels}
use Rattle.raster_values.specs.Flat.{depth_values}
use Rattle.raster_values.specs.inside.Runs.{IsRange}
use Rattle.raster_values.specs.inside.RasterRefView.{vectors_of}
use Rattle.raster_values.proofs.Ranges.{depth_is, found_is, empty_is, none_is}
use Rattle.raster_values.proofs.rasters.raster_ref.RasterRef.range.Goals as goal
use Rattle.raster_values.proofs.rasters.raster_ref.RasterRef.range.Goals.{After-range_of}

ranged : (c : After-range_of) → IsRange c.range_of.result (depth_values c.args.self.now c.args.d)
ranged c =
    let a = vectors_of c.self.inside in
    let n = c.range_of.result in
    subst (λ (r : Pixels). c.args.d < r.depth → IsRange n (depth_values r c.args.d)) c.self.view_is
    (λ below. subst (IsRange n) (sym (depth_is a c.args.d below)) c.range_of.ensures) c.requires

pub returns-clause-found : goal.returns-clause-found
returns-clause-found c = found_is c.range_of.result (depth_values c.args.self.now c.args.d) (ranged c)

pub returns-clause-empty : goal.returns-clause-empty
returns-clause-empty c = empty_is c.range_of.result (depth_values c.args.self.now c.args.d) (ranged c)

pub returns-clause-none : goal.returns-clause-none
returns-clause-none c = none_is c.range_of.result c.args.self.now c.args.d (ranged c)

pub range_of-requires : goal.range_of-requires
range_of-requires c = c.self.invariant.in_range
