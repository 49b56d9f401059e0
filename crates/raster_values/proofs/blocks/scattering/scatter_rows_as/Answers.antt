use Rattle.std.proofs.Common.{◌≡◌, ◌+◌, ◌-◌, ◌*◌, ◌++◌, List, ℕ, length, take, arith, ap, sym, ◌∙◌, subst, eqb-true}
use Rattle.raster_cells.specs.Runs.{run_places}
use Rattle.raster_values.specs.inside.Runs.{run_values, rows_places, rows_values, LeavesRun, LeavesRows}
use Rattle.raster_values.proofs.RowSteps.{row_inside, all_marked, row_full, piece_fits, count_more, scatter_more, leaves_more}
use Rattle.raster_values.proofs.Windows.{forms_join, still_of}
use Rattle.raster_values.proofs.blocks.scattering.scatter_rows_as.Goals as goal

pub overflow_mul-from : goal.overflow_mul-from
overflow_mul-from g c =
    let h = row_inside c.loop-i.i (c.args.window.row + c.args.window.high) c.args.window.cols c.args.window.col c.args.window.wide (length (g.M.MarkSource.marks c.args.channel.now.marks.now)) c.args.channel.now.depth c.args.channel.now.d (length (g.V.CellStore.cells c.args.values.now).values) (omega arith) c.requires.within.all c.args.window.across c.args.channel.now.below c.requires.values.size c.requires.values.few in
    omega arith

pub overflow_add-from : goal.overflow_add-from
overflow_add-from g c =
    let h = row_inside c.loop-i.i (c.args.window.row + c.args.window.high) c.args.window.cols c.args.window.col c.args.window.wide (length (g.M.MarkSource.marks c.args.channel.now.marks.now)) c.args.channel.now.depth c.args.channel.now.d (length (g.V.CellStore.cells c.args.values.now).values) (omega arith) c.requires.within.all c.args.window.across c.args.channel.now.below c.requires.values.size c.requires.values.few in
    omega arith

pub scatter_run-n-requires-clause-within : goal.scatter_run-n-requires-clause-within
scatter_run-n-requires-clause-within g c =
    let h = row_inside c.loop-i.i (c.args.window.row + c.args.window.high) c.args.window.cols c.args.window.col c.args.window.wide (length (g.M.MarkSource.marks c.args.channel.now.marks.now)) c.args.channel.now.depth c.args.channel.now.d (length (g.V.CellStore.cells c.args.values.now).values) (omega arith) c.requires.within.all c.args.window.across c.args.channel.now.below c.requires.values.size c.requires.values.few in
    omega arith

pub scatter_run-n-requires-clause-room : goal.scatter_run-n-requires-clause-room
scatter_run-n-requires-clause-room g c =
    let h = c.loop-i.i - c.args.window.row in
    let at : c.loop-i.i ≡ c.args.window.row + h = omega arith in
    let f : ℕ → List ℕ = λ i. run_places (g.M.MarkSource.marks c.args.channel.now.marks.now) (i * c.args.window.cols + c.args.window.col) c.args.window.wide in
    omega (arith, piece_fits f c.args.window.row h c.args.window.high (omega arith), ap (λ i. length (f i)) at, c.loop-i.invariant.found, c.requires.count)

pub scatter_run-n-requires-clause-all : goal.scatter_run-n-requires-clause-all
scatter_run-n-requires-clause-all g c same =
    let h = c.loop-i.i - c.args.window.row in
    let at : c.args.window.row + h ≡ c.loop-i.i = omega arith in
    let marks = (g.M.MarkSource.marks c.args.channel.now.marks.now) in
    let cols = c.args.window.cols in
    let col = c.args.window.col in
    let wide = c.args.window.wide in
    let all : length (rows_places marks cols c.args.window.row col c.args.window.high wide) ≡ c.args.window.high * wide = sym c.requires.count ∙ sym c.len.ensures ∙ eqb-true _ _ same in
    let row : length (run_places marks (c.loop-i.i * cols + col) wide) ≡ wide =
    subst (λ i. length (run_places marks (i * cols + col) wide) ≡ wide) at (row_full marks cols c.args.window.row col c.args.window.high wide h all (omega arith)) in
    all_marked marks (c.loop-i.i * cols + col) wide row

pub loop-i-preserved : goal.loop-i-preserved
loop-i-preserved g c =
    let h = c.loop-i.i - c.args.window.row in
    let at : c.loop-i.i ≡ c.args.window.row + h = omega arith in
    let next : h + 1 ≡ c.loop-i.i + 1 - c.args.window.row = omega arith in
    let depth = c.args.channel.now.depth in
    let d = c.args.channel.now.d in
    let marks = (g.M.MarkSource.marks c.args.channel.now.marks.now) in
    let cols = c.args.window.cols in
    let row = c.args.window.row in
    let col = c.args.window.col in
    let wide = c.args.window.wide in
    let end = c.scatter_run-n.result in
    let new = (g.V.CellStore.cells c.scatter_run-n.new.values).values in
    let old = (g.V.CellStore.cells c.loop-i.values).values in
    let first = (g.V.CellStore.cells c.args.values.now).values in
    let found : end ≡ c.loop-i.n + length (run_places marks ((row + h) * cols + col) wide) = c.scatter_run-n.ensures.scattered.ends ∙ ap (λ i. c.loop-i.n + length (run_places marks (i * cols + col) wide)) at in
    let leaves : LeavesRun depth d marks ((row + h) * cols + col) wide old new = subst (λ i. LeavesRun depth d marks (i * cols + col) wide old new) at c.scatter_run-n.ensures.scattered.rest in
    let scattered : take c.loop-i.n (g.G.ValueSource.listed c.args.given.now) ++ run_values depth d marks new ((row + h) * cols + col) wide ≡ take end (g.G.ValueSource.listed c.args.given.now) =
    ap (λ i. take c.loop-i.n (g.G.ValueSource.listed c.args.given.now) ++ run_values depth d marks new (i * cols + col) wide) (sym at) ∙ c.scatter_run-n.ensures.scattered.scattered in
    record {
      found = found ∙ count_more marks cols row col h wide c.loop-i.n (length (run_places marks ((row + h) * cols + col) wide)) c.loop-i.invariant.found (λ _. length (run_places marks ((row + h) * cols + col) wide))
          ∙ ap (λ m. length (rows_places marks cols row col m wide)) next;
      scattered = ap (λ m. rows_values depth d marks new cols row col m wide) (sym next)
          ∙ scatter_more depth d marks (g.G.ValueSource.listed c.args.given.now) old new cols row col h wide c.loop-i.n end c.args.channel.now.below c.args.window.across c.loop-i.invariant.scattered leaves scattered;
      form = forms_join (g.V.CellStore.cells c.args.values.now) (g.V.CellStore.cells c.loop-i.values) (g.V.CellStore.cells c.scatter_run-n.new.values) c.loop-i.invariant.form c.scatter_run-n.ensures.form;
      rest = subst (λ m. LeavesRows depth d marks cols row col m wide first new) next
          (leaves_more depth d marks first old new cols row col h wide c.loop-i.invariant.rest leaves);
      kept = c.scatter_run-n.ensures.kept ∙ c.loop-i.invariant.kept;
    }

pub scatter_run-n-requires-clause-values : goal.scatter_run-n-requires-clause-values
scatter_run-n-requires-clause-values g c = still_of c.args.channel.now.kind c.args.channel.now.depth (length (g.M.MarkSource.marks c.args.channel.now.marks.now)) (g.V.CellStore.cells c.args.values.now) (g.V.CellStore.cells c.loop-i.values) c.requires.values c.loop-i.invariant.form
