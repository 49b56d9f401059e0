use Rattle.std.proofs.Common.{◌+◌, ◌≤◌, ◌∙◌, length, arith}
use Rattle.raster_grids.proofs.Pack.{marks_more, marks_fail}
use Rattle.raster_cells.proofs.Pack.{on_err}
use Rattle.raster_grids.proofs.grid.give_marks.Goals as goal

pub returns-in_err-give_all-clause-err : goal.returns-in_err-give_all-clause-err
returns-in_err-give_all-clause-err g c =
    let within : c.loop-at.at + c.min-count.result ≤ length c.args.marks.now = omega (arith, c.min-count.ensures, c.loop-at.invariant.within) in
    on_err c.from_residual.result (marks_fail _ _ _ c.args.marks.now c.loop-at.at c.min-count.result c.loop-at.buffer c.write_run.new.out within c.write_run.ensures c.loop-at.invariant.held c.in_err-give_all.ensures.err)

pub loop-at-preserved : goal.loop-at-preserved
loop-at-preserved g c =
    let within : c.loop-at.at + c.min-count.result ≤ length c.args.marks.now = omega (arith, c.min-count.ensures, c.loop-at.invariant.within) in
    record {
      within = within;
      held = marks_more _ _ _ c.args.marks.now c.loop-at.at c.min-count.result c.loop-at.buffer c.write_run.new.out within c.write_run.ensures c.loop-at.invariant.held c.in_ok-give_all.ensures.ok;
      faults = c.in_ok-give_all.ensures.counted ∙ c.loop-at.invariant.faults;
    }
