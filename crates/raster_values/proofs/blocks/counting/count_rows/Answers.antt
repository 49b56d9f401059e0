use Rattle.std.proofs.Common.{◌≡◌, ◌≤◌, ◌+◌, ◌-◌, ◌*◌, ℕ, List, length, arith, ap, sym, ◌∙◌, subst}
use Rattle.raster_cells.specs.Runs.{run_places}
use Rattle.raster_values.specs.inside.Runs.{rows_places}
use Rattle.raster_values.proofs.FullWidth.{places_are}
use Rattle.raster_values.proofs.RunSteps.{length_places}
use Rattle.raster_values.proofs.RowSteps.{area_inside, count_more}
use Rattle.raster_values.proofs.blocks.counting.count_rows.Goals as goal

pub overflow_add-n : goal.overflow_add-n
overflow_add-n g c =
    let h = c.loop-i.i - c.args.window.row in
    omega (
      arith,
      area_inside h c.args.window.row c.args.window.high c.args.window.wide c.args.window.cols (length (g.M.MarkSource.marks c.args.marks.now)) (omega arith) (omega (arith, c.args.window.across)) c.requires.within.all,
      c.loop-i.invariant.within,
      c.count_run-n.ensures,
      length_places (g.M.MarkSource.marks c.args.marks.now) (c.loop-i.i * c.args.window.cols + c.args.window.col) c.args.window.wide,
      c.requires.few,
    )

pub loop-i-preserved : goal.loop-i-preserved
loop-i-preserved g c =
    let h = c.loop-i.i - c.args.window.row in
    let at : c.loop-i.i ≡ c.args.window.row + h = omega arith in
    let next : h + 1 ≡ c.loop-i.i + 1 - c.args.window.row = omega arith in
    let found = c.count_run-n.result in
    let here : found ≡ length (run_places (g.M.MarkSource.marks c.args.marks.now) ((c.args.window.row + h) * c.args.window.cols + c.args.window.col) c.args.window.wide) =
    c.count_run-n.ensures ∙ ap (λ i. length (run_places (g.M.MarkSource.marks c.args.marks.now) (i * c.args.window.cols + c.args.window.col) c.args.window.wide)) at in
    record {
      found = count_more (g.M.MarkSource.marks c.args.marks.now) c.args.window.cols c.args.window.row c.args.window.col h c.args.window.wide c.loop-i.n found c.loop-i.invariant.found here
          ∙ ap (λ m. length (rows_places (g.M.MarkSource.marks c.args.marks.now) c.args.window.cols c.args.window.row c.args.window.col m c.args.window.wide)) next;
      within = subst (λ m. c.loop-i.n + found ≤ m * c.args.window.wide) next (let w : c.loop-i.n + found ≤ (h + 1) * c.args.window.wide = omega (arith, c.loop-i.invariant.within, here, length_places (g.M.MarkSource.marks c.args.marks.now) ((c.args.window.row + h) * c.args.window.cols + c.args.window.col) c.args.window.wide) in w);
    }

pub returns-then-window-clause-value : goal.returns-then-window-clause-value
returns-then-window-clause-value g c =
    c.count_run.ensures ∙ sym (ap (λ (ks : List ℕ). length ks) (places_are (g.M.MarkSource.marks c.args.marks.now) c.args.window.cols c.args.window.row c.args.window.col c.args.window.high c.args.window.wide c.if-window.true c.args.window.across))

pub returns-then-window-clause-within : goal.returns-then-window-clause-within
returns-then-window-clause-within g c =
    let same : c.args.window.high * c.args.window.wide ≡ c.args.window.high * c.args.window.cols = ap (λ n. c.args.window.high * n) c.if-window.true in
    omega (arith, same, c.count_run.ensures, length_places (g.M.MarkSource.marks c.args.marks.now) (c.args.window.row * c.args.window.cols) (c.args.window.high * c.args.window.cols))
