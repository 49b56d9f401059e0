use Rattle.std.proofs.Common.{◌≡◌, ◌<◌, ◌++◌, drop, length, map, subst}
use Rattle.raster_values.specs.Raster.{Pixels}
use Rattle.raster_values.specs.Flat.{valid_from, values_among}
use Rattle.raster_cells.specs.Distance.{distance_of}
use Rattle.raster_values.specs.inside.RasterRefView.{vectors_of}
use Rattle.raster_values.proofs.FlatViews.{gathered_among}
use Rattle.raster_values.proofs.rasters.raster_ref.RasterRef.gather_from.Goals as goal

pub returns-clause-count : goal.returns-clause-count
returns-clause-count c =
    let a = vectors_of c.self.inside in
    subst (λ (r : Pixels). c.args.d < r.depth → c.gather_pixels.result ≡ length (valid_from r c.args.place c.args.count)) c.self.view_is
    (λ below. (gathered_among (distance_of a.values.kind) a c.args.d c.args.place c.args.count c.gather_pixels.result c.args.out.now c.gather_pixels.new.out below c.gather_pixels.ensures.gathered).0) c.requires.depth

pub returns-clause-distances : goal.returns-clause-distances
returns-clause-distances c =
    let a = vectors_of c.self.inside in
    subst
    (λ (r : Pixels). c.args.d < r.depth → c.gather_pixels.new.out ≡ map (distance_of r.kind) (values_among r c.args.d c.args.place c.args.count) ++ drop c.gather_pixels.result c.args.out.now) c.self.view_is
    (λ below. (gathered_among (distance_of a.values.kind) a c.args.d c.args.place c.args.count c.gather_pixels.result c.args.out.now c.gather_pixels.new.out below c.gather_pixels.ensures.gathered).1) c.requires.depth
