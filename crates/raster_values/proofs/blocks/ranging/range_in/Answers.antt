use Rattle.std.proofs.Common.{◌≡◌, ◌<◌, ◌≤◌, List, length, map, take, sym, subst, ◌∙◌, arith}
use Rattle.std.proofs.lemmas.List.{length-map, length-take-le}
use Rattle.lane_kernels.specs.Kernels.{IsLeast, IsGreatest}
use Rattle.raster_cells.specs.Distance.{distance_of, value_above}
use Rattle.raster_values.specs.inside.Planes.{plane_values}
use Rattle.raster_values.proofs.GatheredRanges.{no_values, run_fits, values_back}
use Rattle.raster_values.proofs.blocks.ranging.range_in.Goals as goal

pub returns-then-n-eq0 : goal.returns-then-n-eq0
returns-then-n-eq0 c =
    let p = c.args.plane.now in
    no_values (distance_of p.samples.now.kind) (plane_values p c.args.from (length c.args.out.now)) (omega (arith, c.gather_pixels-n.ensures.gathered.ends, c.if-n-eq0.true))

pub slice_bounds-ends_above-end : goal.slice_bounds-ends_above-end
slice_bounds-ends_above-end c = omega (arith, c.gather_pixels-n.ensures.within, c.gather_pixels-n.auto.out)

pub ends_above-requires : goal.ends_above-requires
ends_above-requires c =
    let n = c.gather_pixels-n.result in
    let long = length-take-le n c.gather_pixels-n.new.out (omega (arith, c.gather_pixels-n.ensures.within, c.gather_pixels-n.auto.out)) in
    omega (arith, long, c.if-n-eq0.false)

pub returns : goal.returns
returns c =
    let p = c.args.plane.now in
    let vs = plane_values p c.args.from (length c.args.out.now) in
    let ds = take c.gather_pixels-n.result c.gather_pixels-n.new.out in
    let fits = run_fits p.samples.now.kind p.depth p.d p.marks.now p.samples.now.values c.args.from (length c.args.out.now) c.requires.in_range in
    let back : map (value_above p.kind) ds ≡ vs = values_back p.kind p.samples.now.kind vs ds p.kind_is fits c.gather_pixels-n.ensures.gathered.front in (
      subst (λ l. IsLeast l c.ends_above.result.0) back c.ends_above.ensures.least,
      subst (λ l. IsGreatest l c.ends_above.result.1) back c.ends_above.ensures.greatest,
    )
