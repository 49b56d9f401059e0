use Rattle.std.proofs.Common.{◌*◌, ◌+◌, ◌-◌, ℕ, sym, subst, map, get_or, arith, Some}
use Rattle.std.specs.Prelude.{pos}
use Rattle.std.specs.List.{range_with_len}
use Rattle.raster_values.specs.inside.Runs.{IsRange, run_values}
use Rattle.raster_values.proofs.Ranges.{run_more, run_none}
use Rattle.raster_values.proofs.blocks.ranging.range_by_runs.Goals as goal

pub loop-k-preserved-then-run : goal.loop-k-preserved-then-run
loop-k-preserved-then-run c =
    let depth = c.args.plane.now.depth in
    let d = c.args.plane.now.d in
    let marks = c.args.plane.now.marks.now in
    let values = c.args.plane.now.samples.now.values in
    let start = c.next_run-run.result.start in
    let stop = c.next_run-run.result.end in
    let run = map (λ (j : ℕ). get_or values (j * depth + d) (pos 0)) (range_with_len start (stop - start)) in
    record {
      within = omega (arith, c.next_run-run.ensures.within);
      range = subst (IsRange (Some c.wider.result)) (sym (run_more depth d marks values c.loop-k.k start stop c.next_run-run.ensures.runs))
          (c.wider.ensures (run_values depth d marks values 0 c.loop-k.k) run c.loop-k.invariant.range c.extremes-more.ensures.least c.extremes-more.ensures.greatest);
    }

pub loop-k-preserved : goal.loop-k-preserved
loop-k-preserved c =
    let depth = c.args.plane.now.depth in
    let d = c.args.plane.now.d in
    let marks = c.args.plane.now.marks.now in
    let values = c.args.plane.now.samples.now.values in
    record {
      within = omega (arith, c.next_run-run.ensures.within);
      range = subst (IsRange c.loop-k.found) (sym (run_none depth d marks values c.loop-k.k c.next_run-run.result.start c.next_run-run.result.end c.next_run-run.ensures.runs (omega arith))) c.loop-k.invariant.range;
    }
