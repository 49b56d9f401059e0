use Rattle.std.proofs.Common.{◌≡◌, ℕ, ◌+◌, ◌*◌, ◌-◌, ◌%◌, ◌≤◌, ◌<◌, Bool, true, List, [], ◌++◌, length, sym, ◌∙◌, arith, subst, refl}
use Rattle.std.proofs.lemmas.List.{append-nil}
use Rattle.std.proofs.Math.Path.{transport}
use Rattle.raster_values.specs.Flat.{value_in}
use Rattle.delta_mode.specs.Deltas.{is_valid}
use Rattle.delta_mode.specs.inside.Pieces.{rank, IsAt}
use Rattle.delta_mode.proofs.Marks.{mask_itself, mask_through, all_marks, same_size}
use Rattle.delta_mode.proofs.SymbolLaws.{deltas_as}
use Rattle.delta_mode.proofs.WholeDepth.{coded_none, at_first, coded_more, coded_same, coded_as, coded_whole}
use Rattle.delta_mode.proofs.Sources.{area_few, coded_front, count_whole}
use Rattle.delta_mode.proofs.NextRuns.{row_across, row_room, row_within}
use Rattle.delta_mode.proofs.taking.undelta_from.Goals as goal

pub loop-place-init : goal.loop-place-init
loop-place-init g c =
    let r = (g.T.Target.pixels c.args.raster.now) in
    let none = c.start-walk.ensures.count in
    record {
      within = omega arith;
      symbols = refl;
      same = mask_itself r;
      at = at_first (is_valid r) (value_in r c.args.d) _ _ _ c.start-walk.ensures.left c.start-walk.ensures.last none;
      left = omega (arith, none);
      given = λ before has.
          ([], (subst (λ (xs : List ℕ). g.S.SymbolSource.has_given c.args.source.now xs) (sym (append-nil before)) has, (sym none, coded_none r.kind r.cols (is_valid r) (value_in r c.args.d) [])));
      rest = λ k e lt below other. refl;
      ready = c.requires.ready;
      sources = refl;
      sound = c.cols-cols.ensures.sound;
      kept = refl;
    }

pub overflow_add-place : goal.overflow_add-place
overflow_add-place g c =
    let r = (g.T.Target.pixels c.args.raster.now) in
    let sound = c.cols-cols.ensures.sound in
    let within = row_within r c.loop-place.place c.min-most.result sound c.rows.ensures.value c.cols-cols.ensures.value (omega (arith, c.loop-place-test.true)) (omega (arith, c.min-most.ensures)) in
    omega (arith, within, area_few r.rows r.cols r.depth sound.shape)

pub next_run-run-requires-clause-within : goal.next_run-run-requires-clause-within
next_run-run-requires-clause-within g c =
    let r = (g.T.Target.pixels c.args.raster.now) in
    let within = row_within r c.loop-place.place c.min-most.result c.cols-cols.ensures.sound c.rows.ensures.value c.cols-cols.ensures.value (omega (arith, c.loop-place-test.true)) (omega (arith, c.min-most.ensures)) in
    omega (arith, within, same_size r (g.T.Target.pixels c.loop-place.raster) c.loop-place.invariant.same)

pub take_next-requires-clause-across : goal.take_next-requires-clause-across
take_next-requires-clause-across g c =
    let r = (g.T.Target.pixels c.args.raster.now) in
    let stop = c.next_run-run.result.end in
    subst (λ n. c.loop-place.place % n + (stop - c.loop-place.place) ≤ n) c.loop-place.invariant.same.shape.cols
    (row_across r c.loop-place.place c.min-most.result stop c.cols-cols.ensures.sound c.cols-cols.ensures.value (omega (arith, c.min-most.ensures)) c.next_run-run.ensures.within)

pub take_next-requires-clause-within : goal.take_next-requires-clause-within
take_next-requires-clause-within g c =
    let r = (g.T.Target.pixels c.args.raster.now) in
    let within = row_within r c.loop-place.place c.min-most.result c.cols-cols.ensures.sound c.rows.ensures.value c.cols-cols.ensures.value (omega (arith, c.loop-place-test.true)) (omega (arith, c.min-most.ensures)) in
    omega (arith, within, c.next_run-run.ensures.within, same_size r (g.T.Target.pixels c.loop-place.raster) c.loop-place.invariant.same)

pub take_next-requires-clause-symbols : goal.take_next-requires-clause-symbols
take_next-requires-clause-symbols g c = omega (arith, c.loop-place.invariant.symbols, c.next_run-run.ensures.within, c.next_run-run.ensures.runs.first, c.min-most.ensures)

pub take_next-requires-clause-at : goal.take_next-requires-clause-at
take_next-requires-clause-at g c =
    let s = (g.T.Target.pixels c.loop-place.raster) in
    let inv = c.loop-place.invariant in
    let walk = c.loop-place.walk in
    subst (λ (valid : ℕ → Bool). IsAt valid (value_in s c.args.d) c.loop-place.place walk.left walk.last walk.count)
    (sym (all_marks (g.T.Target.pixels c.args.raster.now) s c.cols-cols.ensures.sound inv.sound inv.same)) inv.at

pub take_next-requires-clause-left : goal.take_next-requires-clause-left
take_next-requires-clause-left g c =
    let r = (g.T.Target.pixels c.args.raster.now) in
    let inv = c.loop-place.invariant in
    let sound = c.cols-cols.ensures.sound in
    let stop = c.next_run-run.result.end in
    let within = row_within r c.loop-place.place c.min-most.result sound c.rows.ensures.value c.cols-cols.ensures.value (omega (arith, c.loop-place-test.true)) (omega (arith, c.min-most.ensures)) in
    let room = row_room r stop sound (omega (arith, within, c.next_run-run.ensures.within)) in
    subst (λ (valid : ℕ → Bool). rank valid stop ≤ c.loop-place.walk.count + g.S.SymbolSource.left c.loop-place.source)
    (sym (all_marks r (g.T.Target.pixels c.loop-place.raster) sound inv.sound inv.same)) (omega (arith, room, inv.left, c.requires.count))

pub loop-place-preserved : goal.loop-place-preserved
loop-place-preserved g c =
    let r = (g.T.Target.pixels c.args.raster.now) in
    let s = (g.T.Target.pixels c.loop-place.raster) in
    let t = (g.T.Target.pixels c.take_next.new.raster) in
    let d = c.args.d in
    let value = value_in t d in
    let place = c.loop-place.place in
    let stop = c.next_run-run.result.end in
    let inv = c.loop-place.invariant in
    let walk = c.in_ok-walk.walk in
    let w = c.in_ok-walk.ensures in
    let hr = c.cols-cols.ensures.sound in
    let hs = inv.sound in
    let row = row_within r place c.min-most.result hr c.rows.ensures.value c.cols-cols.ensures.value (omega (arith, c.loop-place-test.true)) (omega (arith, c.min-most.ensures)) in
    let within : stop ≤ r.rows * r.cols = omega (arith, row, c.next_run-run.ensures.within) in
    let forth : place ≤ stop = omega (arith, c.next_run-run.ensures.runs.first, c.next_run-run.ensures.runs.second) in
    let marks : is_valid s ≡ is_valid r = all_marks r s hr hs inv.same in
    let before : (j : ℕ) → j < place → is_valid r j ≡ true → value j ≡ value_in s d j =
    λ (j : ℕ) (lt : j < place) (on : is_valid r j ≡ true). w.rest j d (omega (arith, lt, within, forth, same_size r s inv.same)) (subst (λ n. d < n) inv.same.shape.depth c.requires.depth) (λ from below e. omega (arith, lt, from)) in
    let at = transport (λ i. IsAt (marks i) value stop walk.left walk.last walk.count) w.at in
    record {
      within = within;
      symbols = c.take_next.auto.symbols ∙ inv.symbols;
      same = mask_through r s t inv.same w.frame.same;
      at = at;
      left = omega (arith, w.left, inv.left);
      given = λ all has.
          let old = inv.given all has in
          let new = w.coded all old.0 old.1.0 old.1.1.0 in
          let end : length (old.0 ++ new.0) ≡ walk.count = new.1.1.0 ∙ sym w.at.count_is in (
            old.0 ++ new.0,
            (
              new.1.0,
              (
                end,
                coded_more r.kind r.cols (is_valid r) value place stop (old.0 ++ new.0)
                    (coded_front r.kind r.cols (is_valid r) value place old.0 new.0 (sym (old.1.1.0 ∙ inv.at.count_is))
                    (coded_same r.kind r.cols (is_valid r) (value_in s d) value place old.0 hr.shape.cols_above before old.1.1.1))
                    (coded_as r s value hr hs inv.same refl new.1.1.1),
              ),
            ),
          );
      rest = λ k e lt below other.
          w.rest k e (omega (arith, lt, same_size r s inv.same)) (subst (λ n. e < n) inv.same.shape.depth below) (λ from to_ is. other is) ∙ inv.rest k e lt below other;
      ready = w.source.ready;
      sources = w.source.kept ∙ inv.sources;
      sound = w.frame.raster;
      kept = w.frame.kept ∙ inv.kept;
    }

pub returns-clause-frame : goal.returns-clause-frame
returns-clause-frame g c =
    let inv = c.loop-place.invariant in
    record { raster = inv.sound; same = inv.same; kept = inv.kept }

pub returns-in_err-walk-clause-frame : goal.returns-in_err-walk-clause-frame
returns-in_err-walk-clause-frame g c =
    let inv = c.loop-place.invariant in
    let f = c.in_err-walk.ensures.frame in
    record {
      raster = f.raster;
      same = mask_through (g.T.Target.pixels c.args.raster.now) (g.T.Target.pixels c.loop-place.raster) (g.T.Target.pixels c.take_next.new.raster) inv.same f.same;
      kept = f.kept ∙ inv.kept;
    }

pub returns-clause-taken : goal.returns-clause-taken
returns-clause-taken g c before has =
    let r = (g.T.Target.pixels c.args.raster.now) in
    let s = (g.T.Target.pixels c.loop-place.raster) in
    let inv = c.loop-place.invariant in
    let place = c.loop-place.place in
    let hr = c.cols-cols.ensures.sound in
    let hs = inv.sound in
    let given = inv.given before has in
    let count = count_whole r place (length given.0) hr c.rows.ensures.value c.cols-cols.ensures.value inv.within (omega (arith, c.loop-place-test.false)) (given.1.1.0 ∙ inv.at.count_is) in (
      given.0,
      (
        given.1.0,
        (
          count,
          record {
            same = inv.same;
            taken = coded_whole r (value_in s c.args.d) place hr c.rows.ensures.value c.cols-cols.ensures.value inv.within (omega (arith, c.loop-place-test.false)) count given.1.1.1
                ∙ deltas_as r s c.args.d hr hs inv.same;
            rest = inv.rest;
          },
        ),
      ),
    )

pub returns-clause-left : goal.returns-clause-left
returns-clause-left g c =
    let r = (g.T.Target.pixels c.args.raster.now) in
    let inv = c.loop-place.invariant in
    let count = count_whole r c.loop-place.place c.loop-place.walk.count c.cols-cols.ensures.sound c.rows.ensures.value c.cols-cols.ensures.value inv.within (omega (arith, c.loop-place-test.false)) inv.at.count_is in
    omega (arith, count, inv.left)
