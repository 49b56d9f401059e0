use Rattle.std.proofs.Common.{◌≡◌, ◌≤◌, ◌+◌, ◌-◌, ◌*◌, ℕ, length, map, arith, subst}
use Rattle.std.specs.Prelude.{ℤ}
use Rattle.std.proofs.lemmas.List.{length-map}
use Rattle.raster_cells.specs.Distance.{distance_of}
use Rattle.raster_values.specs.inside.Runs.{run_values, rows_values, Gathers}
use Rattle.raster_values.proofs.RunSteps.{length_places, length_values}
use Rattle.raster_values.proofs.RowSteps.{row_inside, gather_more}
use Rattle.raster_values.proofs.blocks.gathering.gather_marked_rows.Goals as goal

pub overflow_mul-from : goal.overflow_mul-from
overflow_mul-from c =
    let h = row_inside c.loop-i.i (c.args.window.row + c.args.window.high) c.args.window.cols c.args.window.col c.args.window.wide (length c.args.plane.now.marks.now) c.args.plane.now.depth c.args.plane.now.d (length c.args.plane.now.samples.now.values) (omega arith) c.requires.fits.within.all c.args.window.across c.args.plane.now.below c.args.plane.now.size c.args.plane.now.few in
    omega arith

pub overflow_add-from : goal.overflow_add-from
overflow_add-from c =
    let h = row_inside c.loop-i.i (c.args.window.row + c.args.window.high) c.args.window.cols c.args.window.col c.args.window.wide (length c.args.plane.now.marks.now) c.args.plane.now.depth c.args.plane.now.d (length c.args.plane.now.samples.now.values) (omega arith) c.requires.fits.within.all c.args.window.across c.args.plane.now.below c.args.plane.now.size c.args.plane.now.few in
    omega arith

pub gather_run-n-requires-clause-within : goal.gather_run-n-requires-clause-within
gather_run-n-requires-clause-within c =
    let h = row_inside c.loop-i.i (c.args.window.row + c.args.window.high) c.args.window.cols c.args.window.col c.args.window.wide (length c.args.plane.now.marks.now) c.args.plane.now.depth c.args.plane.now.d (length c.args.plane.now.samples.now.values) (omega arith) c.requires.fits.within.all c.args.window.across c.args.plane.now.below c.args.plane.now.size c.args.plane.now.few in
    omega arith

pub loop-i-preserved : goal.loop-i-preserved
loop-i-preserved c =
    let g : ℤ → ℕ = distance_of c.args.plane.now.samples.now.kind in
    let h = c.loop-i.i - c.args.window.row in
    let at : c.loop-i.i ≡ c.args.window.row + h = omega arith in
    let next : h + 1 ≡ c.loop-i.i + 1 - c.args.window.row = omega arith in
    let end = c.gather_run-n.result in
    let new = c.gather_run-n.new.out in
    let run = run_values c.args.plane.now.depth c.args.plane.now.d c.args.plane.now.marks.now c.args.plane.now.samples.now.values ((c.args.window.row + h) * c.args.window.cols + c.args.window.col) c.args.window.wide in
    let here : Gathers (map g run) c.loop-i.out new c.loop-i.n end =
    subst (λ i. Gathers (map g (run_values c.args.plane.now.depth c.args.plane.now.d c.args.plane.now.marks.now c.args.plane.now.samples.now.values (i * c.args.window.cols + c.args.window.col) c.args.window.wide)) c.loop-i.out new c.loop-i.n end) at c.gather_run-n.ensures in
    record {
      gathered = subst (λ m. Gathers (map g (rows_values c.args.plane.now.depth c.args.plane.now.d c.args.plane.now.marks.now c.args.plane.now.samples.now.values c.args.window.cols c.args.window.row c.args.window.col m c.args.window.wide)) c.args.out.now new 0 end) next
          (gather_more g c.args.plane.now.depth c.args.plane.now.d c.args.plane.now.marks.now c.args.plane.now.samples.now.values c.args.out.now c.loop-i.out new c.args.window.cols c.args.window.row c.args.window.col h c.args.window.wide c.loop-i.n end c.loop-i.invariant.gathered here);
      within = subst (λ m. end ≤ m * c.args.window.wide) next (let w : end ≤ (h + 1) * c.args.window.wide =
          omega (
            arith,
            c.loop-i.invariant.within,
            here.ends,
            length-map run g,
            length_values c.args.plane.now.depth c.args.plane.now.d c.args.plane.now.marks.now c.args.plane.now.samples.now.values ((c.args.window.row + h) * c.args.window.cols + c.args.window.col) c.args.window.wide,
            length_places c.args.plane.now.marks.now ((c.args.window.row + h) * c.args.window.cols + c.args.window.col) c.args.window.wide,
          ) in w);
    }
