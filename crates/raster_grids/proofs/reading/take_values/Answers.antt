use Rattle.std.proofs.Common.{◌≡◌, ◌≤◌, ◌<◌, ◌+◌, ◌-◌, ◌*◌, ◌++◌, [], List, ℕ, Option, take, length, ap, ◌∙◌, sym, subst, arith, refl}
use Rattle.std.proofs.lemmas.List.{length-append}
use Rattle.std.proofs.lemmas.Result.{err_from_is_err_and}
use Rattle.raster_cells.specs.PixelType.{bytes_of}
use Rattle.raster_grids.specs.Taken.{TookBytes}
use Rattle.raster_cells.proofs.Pack.{on_err}
use Rattle.raster_cells.specs.declared.kind.PixelType.{PixelType}
use Rattle.raster_values.specs.Raster.{values_of}
use Rattle.raster_values.specs.View.{pixels_of}
use Rattle.raster_grids.specs.inside.TakenRun.{AheadOf, behind}
use Rattle.raster_values.proofs.Scattered.{fills_start, run_within, filled_all, filled_size}
use Rattle.raster_grids.proofs.TakenAhead.{behind_none, none_waits, took_waiting}
use Rattle.raster_grids.proofs.TakenRuns.{values_counted, run_fits, changed_put, fills_put, run_size, run_kind, taken_few, took_run, told_cut}
use Rattle.raster_grids.proofs.Taken.{took_none, took_front}
use Rattle.raster_grids.proofs.TakenBytes.{took_join, took_more}
use Rattle.raster_grids.proofs.reading.take_values.Goals as goal

pub loop-done-init : goal.loop-done-init
loop-done-init g c =
    let left = g.S.Source.left c.args.src.now in
    let values = values_of (pixels_of c.args.depth c.args.marks.now c.args.values.now.values) in
    let many : c.valid_count.result * c.args.depth ≡ length values = ap (λ n. n * c.args.depth) c.valid_count.ensures ∙ sym (values_counted c.args.depth c.args.marks.now c.args.values.now.values c.requires.size) in
    let wide : c.bytes-size.result ≡ bytes_of c.args.values.now.kind = c.bytes-size.ensures ∙ ap bytes_of c.kind.ensures in
    let total : c.valid_count.result * c.args.depth * c.bytes-size.result ≡ length values * bytes_of c.args.values.now.kind = λ i. many i * wide i in
    let sum : 0 + c.valid_count.result * c.args.depth * c.bytes-size.result + 0 ≡ length values * bytes_of c.args.values.now.kind = omega (arith, total) in
    record {
      kind = refl;
      read = [];
      took = subst (λ (a : AheadOf). TookBytes left (behind a.waiting left) []) (sym c.of-ahead.ensures) (subst (λ (o : Option (List ℕ)). TookBytes left o []) (sym (behind_none left)) (took_none left));
      from = refl;
      budget = ap (λ (a : AheadOf). length a.waiting + a.more + 0) c.of-ahead.ensures ∙ sum;
      fills = fills_start c.args.values.now.kind c.args.depth c.args.marks.now c.args.values.now.values;
      faults = refl;
    }

pub take_run-requires-clause-few : goal.take_run-requires-clause-few
take_run-requires-clause-few g c =
    let loop = c.loop-done.invariant in
    let count = (c.next_run-run.result.end - c.next_run-run.result.start) * c.args.depth in
    let same : count * bytes_of c.loop-done.values.kind ≡ count * bytes_of c.args.values.now.kind = ap (λ (k : PixelType). count * bytes_of k) loop.kind in
    omega (arith, same, loop.budget, run_fits c.next_run-run.ensures.runs loop.fills c.requires.size)

pub take_run-requires-clause-within : goal.take_run-requires-clause-within
take_run-requires-clause-within g c =
    run_within c.args.depth c.next_run-run.ensures.runs (c.loop-done.invariant.fills.kept.size ∙ c.requires.size)

pub returns-in_err-n-clause-changed : goal.returns-in_err-n-clause-changed
returns-in_err-n-clause-changed g c =
    let loop = c.loop-done.invariant in
    changed_put c.next_run-run.ensures.runs loop.fills.kept c.take_run.ensures.put loop.kind c.requires.size

pub returns-then-n-count-clause-changed : goal.returns-then-n-count-clause-changed
returns-then-n-count-clause-changed g c =
    let loop = c.loop-done.invariant in
    changed_put c.next_run-run.ensures.runs loop.fills.kept c.take_run.ensures.put loop.kind c.requires.size

pub returns-in_err-n-clause-some : goal.returns-in_err-n-clause-some
returns-in_err-n-clause-some g c =
    on_err c.from_residual.result (took_more _ _ _ c.loop-done.invariant.read c.loop-done.invariant.took c.in_err-n.ensures.some)

pub overflow_mul-count-in-loop-done : goal.overflow_mul-count-in-loop-done
overflow_mul-count-in-loop-done g c =
    let few =
    taken_few c.args.values.now.kind c.args.depth c.args.marks.now c.args.values.now.values
    c.next_run-run.ensures.runs c.requires.size c.requires.few
    (c.bytes-size.ensures ∙ ap bytes_of c.kind.ensures) in
    omega (arith, few.0)

pub overflow_add-from : goal.overflow_add-from
overflow_add-from g c =
    let few =
    taken_few c.args.values.now.kind c.args.depth c.args.marks.now c.args.values.now.values
    c.next_run-run.ensures.runs c.requires.size c.requires.few
    (c.bytes-size.ensures ∙ ap bytes_of c.kind.ensures) in
    let fills = c.loop-done.invariant.fills in
    omega (arith, few, c.if-n-count.true, fills.fits, c.loop-done.invariant.from)

pub stop_at-requires : goal.stop_at-requires
stop_at-requires g c =
    let few =
    taken_few c.args.values.now.kind c.args.depth c.args.marks.now c.args.values.now.values
    c.next_run-run.ensures.runs c.requires.size c.requires.few
    (c.bytes-size.ensures ∙ ap bytes_of c.kind.ensures) in
    let fills = c.loop-done.invariant.fills in
    omega (arith, few, c.if-n-count.true, fills.fits, c.loop-done.invariant.from, c.fault.ensures.place, c.requires.at)

pub returns-then-n-count-clause-err : goal.returns-then-n-count-clause-err
returns-then-n-count-clause-err g c =
    let loop = c.loop-done.invariant in
    let put = c.in_ok-n.ensures.put in
    let short : c.in_ok-n.n < length put.run = omega (arith, c.if-n-count.true, run_size put loop.kind (c.bytes-size.ensures ∙ ap bytes_of c.kind.ensures)) in
    told_cut {n = c.in_ok-n.n} (g.S.Source.left c.args.src.now) (behind c.loop-done.ahead.waiting (g.S.Source.left c.loop-done.src)) (behind c.take_run.new.ahead.waiting (g.S.Source.left c.take_run.new.src)) put.run c.args.at c.fault.result
    c.next_run-run.ensures.runs loop.fills c.requires.size (run_size put loop.kind refl)
    loop.took put.of_run short c.fault.ensures.reason (c.fault.ensures.place ∙ ap (λ m. m + c.in_ok-n.n) (sym loop.from)) c.stop_at.ensures

pub returns-then-n-count-clause-some : goal.returns-then-n-count-clause-some
returns-then-n-count-clause-some g c =
    let n = c.in_ok-n.n in
    let buf = c.in_ok-n.ensures.put.run in
    let read = c.loop-done.invariant.read ++ take n buf in
    let waits = c.take_run.new.ahead.waiting in
    (read ++ waits, took_join _ _ _ read waits (took_join _ _ _ c.loop-done.invariant.read (take n buf) c.loop-done.invariant.took (took_front _ _ n buf c.in_ok-n.ensures.put.of_run.1.0)) (took_waiting waits (g.S.Source.left c.take_run.new.src)))

pub overflow_add-from-in-loop-done : goal.overflow_add-from-in-loop-done
overflow_add-from-in-loop-done g c =
    let few =
    taken_few c.args.values.now.kind c.args.depth c.args.marks.now c.args.values.now.values
    c.next_run-run.ensures.runs c.requires.size c.requires.few refl in
    let put = c.in_ok-n.ensures.put in
    let fills = c.loop-done.invariant.fills in
    omega (arith, few, run_size put c.loop-done.invariant.kind refl, put.of_run.0, fills.fits, c.loop-done.invariant.from)

pub loop-done-preserved : goal.loop-done-preserved
loop-done-preserved g c =
    let loop = c.loop-done.invariant in
    let put = c.in_ok-n.ensures.put in
    let whole : length put.run ≤ c.in_ok-n.n = omega (arith, c.if-n-count.false, run_size put loop.kind (c.bytes-size.ensures ∙ ap bytes_of c.kind.ensures)) in
    record {
      kind = run_kind put loop.kind;
      read = loop.read ++ put.run;
      took = took_run _ _ _ loop.read put.run c.in_ok-n.n loop.took put.of_run.1.0 whole;
      from = length-append loop.read put.run ∙ omega (arith, whole, put.of_run.0, loop.from);
      budget = omega (arith, c.in_ok-n.ensures.more, loop.budget, length-append loop.read put.run, whole, put.of_run.0);
      fills = fills_put c.next_run-run.ensures.runs loop.fills put loop.kind c.requires.size;
      faults = c.in_ok-n.ensures.counted ∙ loop.faults;
    }

pub returns-clause-ok : goal.returns-clause-ok
returns-clause-ok g c =
    let kind = c.args.values.now.kind in
    let loop = c.loop-done.invariant in
    let before = g.S.Source.left c.args.src.now in
    let left = g.S.Source.left c.loop-done.src in
    let past : length c.args.marks.now ≤ c.loop-done.done = omega (arith, c.len.ensures.value, c.loop-done-test.false) in
    let size = filled_size kind c.args.depth c.args.marks.now _ loop.read c.args.values.now.values c.loop-done.values.values c.loop-done.done past loop.fills in
    let none : length c.loop-done.ahead.waiting ≡ 0 = omega (arith, loop.budget, size) in
    let took : TookBytes before left loop.read = subst (λ (o : Option (List ℕ)). TookBytes before o loop.read) (none_waits c.loop-done.ahead.waiting left none) loop.took in
    subst (TookBytes before left) (sym (filled_all kind c.args.depth c.args.marks.now _ loop.read c.args.values.now.values c.loop-done.values.values c.loop-done.done past loop.fills)) took

pub overflow_mul-count : goal.overflow_mul-count
overflow_mul-count g c =
    let size = c.loop-done.invariant.fills.kept.size in
    omega (arith, run_within c.args.depth c.next_run-run.ensures.runs (size ∙ c.requires.size), size, c.requires.few)

pub overflow_mul-run : goal.overflow_mul-run
overflow_mul-run g c =
    let size = c.loop-done.invariant.fills.kept.size in
    omega (arith, run_within c.args.depth c.next_run-run.ensures.runs (size ∙ c.requires.size), size, c.requires.few)

pub loop-done-smaller : goal.loop-done-smaller
loop-done-smaller g c =
    omega (arith, c.next_run-run.ensures.runs.within, c.next_run-run.ensures.forth)

pub returns-in_err-n-clause-ok : goal.returns-in_err-n-clause-ok
returns-in_err-n-clause-ok g c =
    let p = err_from_is_err_and c.from_residual.result c.from_residual.ensures.1 in
    rw p.1 tt
