use Rattle.std.proofs.Common.{◌≡◌, ℕ, ◌+◌, ◌-◌, List, [], ◌++◌, length, take, IfOk, refl, sym, ap, ◌∙◌, arith, subst}
use Rattle.std.proofs.lemmas.List.{append-nil, length-take-le}
use Rattle.std.proofs.lemmas.Result.{on_ok_weaker}
use Rattle.raster_values.specs.Flat.{value_in}
use Rattle.delta_mode.specs.Deltas.{is_valid}
use Rattle.delta_mode.specs.inside.Pieces.{rank, IsAt, AreCoded}
use Rattle.delta_mode.proofs.Marks.{mask_itself}
use Rattle.delta_mode.proofs.NextRuns.{at_run, none_run, run_across, run_coded, run_on, run_rank}
use Rattle.delta_mode.proofs.taking.take_next.Goals as goal

-- ---- where there is no run

pub returns-then-run-clause-frame : goal.returns-then-run-clause-frame
returns-then-run-clause-frame g c = record { raster = c.requires.sound; same = mask_itself (g.T.Target.pixels c.args.raster.now); kept = refl }

pub returns-then-run-clause-at : goal.returns-then-run-clause-at
returns-then-run-clause-at g c =
    let r = g.T.Target.pixels c.args.raster.now in
    let w = c.pass_to-before.ensures in
    subst (λ k. IsAt (is_valid r) (value_in r c.args.here.d) k c.pass_to-before.result.left c.pass_to-before.result.last c.pass_to-before.result.count) c.if-run.true
    (at_run r (value_in r c.args.here.d) c.requires.runs c.requires.at w.left w.last w.count)

pub returns-then-run-clause-coded : goal.returns-then-run-clause-coded
returns-then-run-clause-coded g c before front has e =
    let r = g.T.Target.pixels c.args.raster.now in (
      [],
      (
        subst (λ (xs : List ℕ). g.S.SymbolSource.has_given c.args.source.now (before ++ xs)) (sym (append-nil front)) has,
        (
          ap length (append-nil front) ∙ e ∙ c.requires.at.count_is ∙ sym (run_rank r c.requires.runs) ∙ ap (rank (is_valid r)) c.if-run.true,
          none_run r r.kind r.cols (value_in r c.args.here.d) (front ++ []) c.requires.runs c.if-run.true,
        ),
      ),
    )

-- ---- the run

pub overflow_sub-count : goal.overflow_sub-count
overflow_sub-count g c = c.requires.runs.second

pub slice_bounds-symbols-end : goal.slice_bounds-symbols-end
slice_bounds-symbols-end g c = omega (arith, c.requires.symbols)

pub slice_bounds-symbols-end-2 : goal.slice_bounds-symbols-end-2
slice_bounds-symbols-end-2 g c = sym (length-take-le (c.args.run.end - c.args.run.start) c.args.symbols.now (omega (arith, c.requires.symbols)))

pub take_run-requires-clause-some : goal.take_run-requires-clause-some
take_run-requires-clause-some g c =
    let long = length-take-le (c.args.run.end - c.args.run.start) c.args.symbols.now (omega (arith, c.requires.symbols)) in
    omega (arith, long, c.requires.runs.second, c.if-run.false)

pub take_run-requires-clause-across : goal.take_run-requires-clause-across
take_run-requires-clause-across g c =
    let r = g.T.Target.pixels c.args.raster.now in
    let long = length-take-le (c.args.run.end - c.args.run.start) c.args.symbols.now (omega (arith, c.requires.symbols)) in
    let across = run_across c.args.here.place c.args.run.start c.args.run.end r.cols c.requires.runs.first (omega (arith, c.requires.runs.second, c.if-run.false)) c.requires.across in
    omega (arith, long, across)

pub take_run-requires-clause-within : goal.take_run-requires-clause-within
take_run-requires-clause-within g c =
    let long = length-take-le (c.args.run.end - c.args.run.start) c.args.symbols.now (omega (arith, c.requires.symbols)) in
    omega (arith, long, c.requires.runs.second, c.requires.within)

pub take_run-requires-clause-valid : goal.take_run-requires-clause-valid
take_run-requires-clause-valid g c i lt =
    let r = g.T.Target.pixels c.args.raster.now in
    let long = length-take-le (c.args.run.end - c.args.run.start) c.args.symbols.now (omega (arith, c.requires.symbols)) in
    run_on r c.requires.runs i (omega (arith, long, lt))

pub take_run-requires-clause-at : goal.take_run-requires-clause-at
take_run-requires-clause-at g c =
    let r = g.T.Target.pixels c.args.raster.now in
    let w = c.pass_to-before.ensures in
    at_run r (value_in r c.args.here.d) c.requires.runs c.requires.at w.left w.last w.count

pub take_run-requires-clause-left : goal.take_run-requires-clause-left
take_run-requires-clause-left g c =
    let r = g.T.Target.pixels c.args.raster.now in
    let long = length-take-le (c.args.run.end - c.args.run.start) c.args.symbols.now (omega (arith, c.requires.symbols)) in
    let end : c.args.run.start + length (take (c.args.run.end - c.args.run.start) c.args.symbols.now) ≡ c.args.run.end = omega (arith, long, c.requires.runs.second) in
    let more = ap (rank (is_valid r)) end in
    omega (arith, more, c.requires.left, c.pass_to-before.ensures.count)

pub returns-clause-at : goal.returns-clause-at
returns-clause-at g c =
    let r = g.T.Target.pixels c.args.raster.now in
    let t = g.T.Target.pixels c.take_run.new.raster in
    let long = length-take-le (c.args.run.end - c.args.run.start) c.args.symbols.now (omega (arith, c.requires.symbols)) in
    let end : c.args.run.start + length (take (c.args.run.end - c.args.run.start) c.args.symbols.now) ≡ c.args.run.end = omega (arith, long, c.requires.runs.second) in
    subst (λ k. IfOk c.take_run.result (λ walk. IsAt (is_valid r) (value_in t c.args.here.d) k walk.left walk.last walk.count)) end c.take_run.ensures.at

pub returns-clause-left : goal.returns-clause-left
returns-clause-left g c =
    subst (λ k. IfOk c.take_run.result (λ w. w.count + g.S.SymbolSource.left c.take_run.new.source ≡ k + g.S.SymbolSource.left c.args.source.now)) c.pass_to-before.ensures.count c.take_run.ensures.left

pub returns-clause-coded : goal.returns-clause-coded
returns-clause-coded g c before front has e =
    let r = g.T.Target.pixels c.args.raster.now in
    let t = g.T.Target.pixels c.take_run.new.raster in
    let valid = is_valid r in
    let value = value_in t c.args.here.d in
    let long = length-take-le (c.args.run.end - c.args.run.start) c.args.symbols.now (omega (arith, c.requires.symbols)) in
    let end : c.args.run.start + length (take (c.args.run.end - c.args.run.start) c.args.symbols.now) ≡ c.args.run.end = omega (arith, long, c.requires.runs.second) in
    on_ok_weaker c.take_run.result (λ found. (
      found.0,
      (
        found.1.0,
        (
          found.1.1.0 ∙ ap (rank valid) end,
          run_coded r r.kind r.cols value (front ++ found.0) c.requires.runs (subst (λ k. AreCoded r.kind r.cols valid value c.args.run.start k (front ++ found.0)) end found.1.1.1),
        ),
      ),
    )) (c.take_run.ensures.coded before front has (e ∙ sym c.pass_to-before.ensures.count))

pub returns-clause-rest : goal.returns-clause-rest
returns-clause-rest g c k e lt below other =
    let long = length-take-le (c.args.run.end - c.args.run.start) c.args.symbols.now (omega (arith, c.requires.symbols)) in
    c.take_run.ensures.rest k e lt below (λ from to_ is. other (omega (arith, from, c.requires.runs.first)) (omega (arith, to_, long, c.requires.runs.second)) is)
