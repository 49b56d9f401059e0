use Rattle.std.proofs.Common.{◌≡◌, ◌≤◌, ◌<◌, ◌+◌, length, drop, ap, ◌∙◌, sym, arith, length-append}
use Rattle.std.proofs.lemmas.List.{length-take-le, length-drop}
use Rattle.std.proofs.lemmas.Result.{err_from_is_err_and}
use Rattle.raster_cells.proofs.Pack.{on_err}
use Rattle.raster_grids.proofs.TakenBytes.{took_more}
use Rattle.raster_grids.proofs.Taken.{more_marks_taken, marks_all_taken, marks_fault, only_lawful}
use Rattle.raster_cells.proofs.MaskCounts.{length_run}
use Rattle.raster_grids.proofs.reading.take_marks.Goals as goal

pub returns-in_err-take_piece-clause-err : goal.returns-in_err-take_piece-clause-err
returns-in_err-take_piece-clause-err g c =
    let want = c.min-want.result in
    let below : c.loop-done.done < length c.loop-done.marks = (let e : c.loop-done.done < length c.loop-done.marks = omega (arith, c.len.ensures.value) in e) in
    let within : c.loop-done.done + want ≤ length c.args.marks.now = omega (arith, c.min-want.ensures, c.loop-done.invariant.size) in
    let size : length c.take_piece.new.buffer ≡ want = c.take_piece.auto.buffer ∙ length-take-le want c.loop-done.buffer (omega (arith, c.min-want.ensures, c.loop-done.invariant.buffer)) in
    let p = err_from_is_err_and c.from_residual.result c.from_residual.ensures.1 in
    rw (p.1, p.2) (marks_fault _ _ c.loop-done.marks c.loop-done.done want (length c.args.marks.now) c.args.at (c.args.at + c.loop-done.done) _ c.loop-done.invariant.taken within (let e : c.args.at + c.loop-done.done ≡ c.args.at + c.loop-done.done = omega arith in e)
    (rw (sym size ∙ c.take_piece.auto.buffer) c.in_err-take_piece.ensures.err))

pub returns-in_err-take_piece-clause-some : goal.returns-in_err-take_piece-clause-some
returns-in_err-take_piece-clause-some g c = on_err c.from_residual.result (took_more _ _ _ c.loop-done.invariant.taken.read c.loop-done.invariant.taken.took c.in_err-take_piece.ensures.some)

pub loop-done-preserved : goal.loop-done-preserved
loop-done-preserved g c =
    let want = c.min-want.result in
    let below : c.loop-done.done < length c.loop-done.marks = (let e : c.loop-done.done < length c.loop-done.marks = omega (arith, c.len.ensures.value) in e) in
    let within : c.loop-done.done + want ≤ length c.loop-done.marks = omega (arith, c.min-want.ensures) in
    let size : length c.take_piece.new.buffer ≡ want = c.take_piece.auto.buffer ∙ length-take-le want c.loop-done.buffer (omega (arith, c.min-want.ensures, c.loop-done.invariant.buffer)) in
    let inside : c.loop-done.done + length c.take_piece.new.buffer ≤ length c.loop-done.marks = omega arith in
    let same : length c.set_run.new.self ≡ length c.loop-done.marks = ap length c.set_run.ensures ∙ length_run c.loop-done.marks c.take_piece.new.buffer c.loop-done.done inside in
    record {
      size = same ∙ c.loop-done.invariant.size;
      within = omega arith;
      taken = more_marks_taken _ _ _ c.loop-done.marks c.set_run.new.self c.loop-done.done want c.take_piece.new.buffer c.loop-done.invariant.taken c.in_ok-take_piece.ensures.ok.0 c.in_ok-take_piece.ensures.ok.1 size within c.set_run.ensures;
      faults = c.in_ok-take_piece.ensures.counted ∙ c.loop-done.invariant.faults;
      buffer = length-append c.take_piece.new.buffer (drop want c.loop-done.buffer) ∙ omega (arith, size, length-drop want c.loop-done.buffer, c.loop-done.invariant.buffer, c.min-want.ensures);
    }

pub returns-clause-ok : goal.returns-clause-ok
returns-clause-ok g c = marks_all_taken _ _ c.loop-done.marks c.loop-done.done (length c.args.marks.now) c.loop-done.invariant.taken c.loop-done.invariant.size (omega (arith, c.loop-done-test.false, c.loop-done.invariant.size)) (omega (arith, c.loop-done.invariant.within, c.loop-done.invariant.size))

pub loop-done-smaller : goal.loop-done-smaller
loop-done-smaller g c =
    let want = c.min-want.result in
    let below : c.loop-done.done < length c.loop-done.marks = (let e : c.loop-done.done < length c.loop-done.marks = omega (arith, c.len.ensures.value) in e) in
    let size : length c.take_piece.new.buffer ≡ want = c.take_piece.auto.buffer ∙ length-take-le want c.loop-done.buffer (omega (arith, c.min-want.ensures, c.loop-done.invariant.buffer)) in
    let inside : c.loop-done.done + length c.take_piece.new.buffer ≤ length c.loop-done.marks =
    omega (arith, below, size, c.min-want.ensures) in
    let same : length c.set_run.new.self ≡ length c.loop-done.marks = ap length c.set_run.ensures ∙ length_run c.loop-done.marks c.take_piece.new.buffer c.loop-done.done inside in
    omega (arith, same, below, c.min-want.ensures)

pub set_run-requires-clause-lawful : goal.set_run-requires-clause-lawful
set_run-requires-clause-lawful g c = only_lawful c.take_piece.new.buffer c.in_ok-take_piece.ensures.ok.1
