use Rattle.std.proofs.Common.{length, ◌≤◌, arith, ◌≡◌, ◌-◌, ◌*◌, ◌++◌, [], subst, ap, ◌∙◌, take, drop}
use Rattle.std.proofs.lemmas.Result.{on_ok_weaker, on_err_weaker}
use Rattle.outside_io.specs.streams.Sink.{Holds, HoldsPrefix}
use Rattle.raster_values.specs.Raster.{values_of}
use Rattle.raster_cells.specs.Values.{values_bytes}
use Rattle.raster_values.specs.View.{pixels_of}
use Rattle.raster_grids.specs.inside.Pack.{Sends}
use Rattle.raster_grids.proofs.Pack.{sends_give, sends_put, sends_all, sends_fail, two_runs_bytes, no_more}
use Rattle.raster_cells.proofs.Pack.{on_err}
use Rattle.raster_values.proofs.Pack.{apart}
use Rattle.raster_values.proofs.Scattered.{run_within}
use Rattle.raster_grids.proofs.grid.give_values.Goals as goal

pub returns-in_err-give-clause-err : goal.returns-in_err-give-clause-err
returns-in_err-give-clause-err g c =
    let kind = c.args.values.now.kind in
    let vs = c.args.values.now.values in
    let marks = c.args.marks.now in
    let depth = c.args.depth in
    let start = c.next_run-run.result.start in
    let end = c.next_run-run.result.end in
    let step = two_runs_bytes kind depth c.loop-at.at start end marks vs
    c.next_run-run.ensures.runs.first c.next_run-run.ensures.runs.second c.next_run-run.ensures.runs.within c.next_run-run.ensures.runs.off c.next_run-run.ensures.runs.on in
    let piece : c.bytes_of_run.result.now ≡ values_bytes kind (take (end * depth - start * depth) (drop (start * depth) vs)) =
    c.bytes_of_run.ensures ∙ ap (λ n. values_bytes kind (take n (drop (start * depth) vs))) (let e : (end - start) * depth ≡ end * depth - start * depth = apart start end depth c.next_run-run.ensures.runs.second in e) in
    let waits = c.loop-at.waiting in
    let run = values_bytes kind (take (end * depth - start * depth) (drop (start * depth) vs)) in
    let rest = values_bytes kind (values_of (pixels_of depth (drop end marks) (drop (end * depth) vs))) in
    let all = values_bytes kind (values_of (pixels_of depth marks vs)) in
    on_err c.from_residual.result (sends_fail _ _ _ (waits ++ run) rest all
    (sends_put _ _ waits run rest all (subst (λ xs. Sends (g.K.Sink.held c.args.sink.now) (g.K.Sink.held c.loop-at.sink) waits xs all) step c.loop-at.invariant.sends))
    (subst (λ xs. HoldsPrefix (g.K.Sink.held c.loop-at.sink) (g.K.Sink.held c.give.new.sink) (waits ++ xs)) piece c.in_err-give.ensures.err))

pub loop-at-preserved : goal.loop-at-preserved
loop-at-preserved g c =
    let kind = c.args.values.now.kind in
    let vs = c.args.values.now.values in
    let marks = c.args.marks.now in
    let depth = c.args.depth in
    let start = c.next_run-run.result.start in
    let end = c.next_run-run.result.end in
    let step = two_runs_bytes kind depth c.loop-at.at start end marks vs
    c.next_run-run.ensures.runs.first c.next_run-run.ensures.runs.second c.next_run-run.ensures.runs.within c.next_run-run.ensures.runs.off c.next_run-run.ensures.runs.on in
    let piece : c.bytes_of_run.result.now ≡ values_bytes kind (take (end * depth - start * depth) (drop (start * depth) vs)) =
    c.bytes_of_run.ensures ∙ ap (λ n. values_bytes kind (take n (drop (start * depth) vs))) (let e : (end - start) * depth ≡ end * depth - start * depth = apart start end depth c.next_run-run.ensures.runs.second in e) in
    let waits = c.loop-at.waiting in
    let run = values_bytes kind (take (end * depth - start * depth) (drop (start * depth) vs)) in
    let rest = values_bytes kind (values_of (pixels_of depth (drop end marks) (drop (end * depth) vs))) in
    let all = values_bytes kind (values_of (pixels_of depth marks vs)) in
    record {
      within = c.next_run-run.ensures.runs.within;
      sends = sends_give _ _ _ (waits ++ run) c.give.new.self rest all
          (sends_put _ _ waits run rest all (subst (λ xs. Sends (g.K.Sink.held c.args.sink.now) (g.K.Sink.held c.loop-at.sink) waits xs all) step c.loop-at.invariant.sends))
          (subst (λ xs. Sends (g.K.Sink.held c.loop-at.sink) (g.K.Sink.held c.give.new.sink) c.give.new.self [] (waits ++ xs)) piece c.in_ok-give.ensures.ok);
      faults = c.in_ok-give.ensures.counted ∙ c.loop-at.invariant.faults;
    }

-- at the end nothing is still to be made
pub returns-clause-ok : goal.returns-clause-ok
returns-clause-ok g c =
    let kind = c.args.values.now.kind in
    let vs = c.args.values.now.values in
    let all = values_bytes kind (values_of (pixels_of c.args.depth c.args.marks.now vs)) in
    let sends : Sends (g.K.Sink.held c.args.sink.now) (g.K.Sink.held c.loop-at.sink) c.loop-at.waiting [] all = subst (λ xs. Sends (g.K.Sink.held c.args.sink.now) (g.K.Sink.held c.loop-at.sink) c.loop-at.waiting xs all)
    (no_more kind c.args.depth c.loop-at.at c.args.marks.now vs (let e : length c.args.marks.now ≤ c.loop-at.at = omega (arith, c.len.ensures.value, c.loop-at-test.false) in e)) c.loop-at.invariant.sends in
    on_ok_weaker c.flush.result (λ (h : Holds (g.K.Sink.held c.loop-at.sink) (g.K.Sink.held c.flush.new.sink) c.loop-at.waiting). sends_all _ _ _ c.loop-at.waiting all sends h) c.flush.ensures.ok

pub returns-clause-err : goal.returns-clause-err
returns-clause-err g c =
    let kind = c.args.values.now.kind in
    let vs = c.args.values.now.values in
    let all = values_bytes kind (values_of (pixels_of c.args.depth c.args.marks.now vs)) in
    let sends : Sends (g.K.Sink.held c.args.sink.now) (g.K.Sink.held c.loop-at.sink) c.loop-at.waiting [] all = subst (λ xs. Sends (g.K.Sink.held c.args.sink.now) (g.K.Sink.held c.loop-at.sink) c.loop-at.waiting xs all)
    (no_more kind c.args.depth c.loop-at.at c.args.marks.now vs (let e : length c.args.marks.now ≤ c.loop-at.at = omega (arith, c.len.ensures.value, c.loop-at-test.false) in e)) c.loop-at.invariant.sends in
    on_err_weaker c.flush.result (λ (h : HoldsPrefix (g.K.Sink.held c.loop-at.sink) (g.K.Sink.held c.flush.new.sink) c.loop-at.waiting). sends_fail _ _ _ c.loop-at.waiting [] all sends h) c.flush.ensures.err

pub bytes_of_run-requires : goal.bytes_of_run-requires
bytes_of_run-requires g c = run_within c.args.depth c.next_run-run.ensures.runs c.requires.size
