use Rattle.std.proofs.Common.{◌≡◌, ◌≤◌, sym, ap, ◌∙◌, subst, arith, length}
use Rattle.std.proofs.lemmas.Result.{on_ok_weaker, on_err_weaker}
use Rattle.outside_io.specs.streams.Sink.{Holds, HoldsPrefix}
use Rattle.byteorder.specs.Endian.{little_bytes}
use Rattle.raster_cells.proofs.Pack.{on_err}
use Rattle.raster_grids.proofs.BandsGiven.{single_grid, gave_more, gave_part, gave_all, front_of, head_given, number_given, front_given}
use Rattle.raster_grids.proofs.grid.bands_write.Goals as goal

pub returns-then-count-eq1-clause-ok : goal.returns-then-count-eq1-clause-ok
returns-then-count-eq1-clause-ok g c =
    let one : length c.args.bands.now ≡ 1 = sym c.len-count.ensures.value ∙ c.if-count-eq1.true in
    on_ok_weaker c.grid_write.result (subst (Holds (g.K.Sink.held c.args.sink.now) (g.K.Sink.held c.grid_write.new.sink)) (sym (single_grid c.args.bands.now c.at-first.result.now one c.at-first.ensures))) c.grid_write.ensures.ok

pub returns-then-count-eq1-clause-err : goal.returns-then-count-eq1-clause-err
returns-then-count-eq1-clause-err g c =
    let one : length c.args.bands.now ≡ 1 = sym c.len-count.ensures.value ∙ c.if-count-eq1.true in
    on_err_weaker c.grid_write.result (subst (HoldsPrefix (g.K.Sink.held c.args.sink.now) (g.K.Sink.held c.grid_write.new.sink)) (sym (single_grid c.args.bands.now c.at-first.result.now one c.at-first.ensures))) c.grid_write.ensures.err

pub returns-in_err-give_all-clause-err : goal.returns-in_err-give_all-clause-err
returns-in_err-give_all-clause-err g c =
    let bands = c.args.bands.now in
    let some = c.len-count.ensures.sound.0 in
    let two : 2 ≤ length bands = grind (arith, some, c.len-count.ensures.value, c.if-count-eq1.false) in
    on_err c.from_residual.result (head_given _ _ bands c.at-first.result.now two c.at-first.ensures
    (subst (HoldsPrefix (g.K.Sink.held c.args.sink.now) (g.K.Sink.held c.give_all.new.sink)) c.head.ensures c.in_err-give_all.ensures.err))

pub returns-in_err-give_all-2-clause-err : goal.returns-in_err-give_all-2-clause-err
returns-in_err-give_all-2-clause-err g c =
    let bands = c.args.bands.now in
    let some = c.len-count.ensures.sound.0 in
    let two : 2 ≤ length bands = grind (arith, some, c.len-count.ensures.value, c.if-count-eq1.false) in
    on_err c.from_residual-in_err-give_all-2.result (number_given _ _ _ bands c.at-first.result.now two c.at-first.ensures
    (subst (Holds (g.K.Sink.held c.args.sink.now) (g.K.Sink.held c.give_all.new.sink)) c.head.ensures c.in_ok-give_all.ensures.ok)
    (subst (HoldsPrefix (g.K.Sink.held c.give_all.new.sink) (g.K.Sink.held c.give_all-2.new.sink)) (c.count_bytes.ensures ∙ ap (little_bytes 4) c.len-count.ensures.value) c.in_err-give_all-2.ensures.err))

pub loop-i-init : goal.loop-i-init
loop-i-init g c = record {
  held = front_given _ _ _ c.args.bands.now c.at-first.result.now c.at-first.ensures
      (subst (Holds (g.K.Sink.held c.args.sink.now) (g.K.Sink.held c.give_all.new.sink)) c.head.ensures c.in_ok-give_all.ensures.ok)
      (subst (Holds (g.K.Sink.held c.give_all.new.sink) (g.K.Sink.held c.give_all-2.new.sink)) (c.count_bytes.ensures ∙ ap (little_bytes 4) c.len-count.ensures.value) c.in_ok-give_all-2.ensures.ok);
  faults = c.in_ok-give_all-2.ensures.counted ∙ c.in_ok-give_all.ensures.counted;
}

pub loop-i-preserved : goal.loop-i-preserved
loop-i-preserved g c = record {
  held = gave_more _ _ _ (front_of c.args.bands.now) c.args.bands.now c.loop-i.i c.at.result.now c.at.ensures c.loop-i.invariant.held c.in_ok-give_band.ensures.ok;
  faults = c.in_ok-give_band.ensures.counted ∙ c.loop-i.invariant.faults;
}

pub returns-in_err-give_band-clause-err : goal.returns-in_err-give_band-clause-err
returns-in_err-give_band-clause-err g c =
    let bands = c.args.bands.now in
    let some = c.len-count.ensures.sound.0 in
    let two : 2 ≤ length bands = grind (arith, some, c.len-count.ensures.value, c.if-count-eq1.false) in
    on_err c.from_residual-in_err-give_band.result (gave_part _ _ _ bands c.loop-i.i c.at.result.now two c.at.ensures c.loop-i.invariant.held c.in_err-give_band.ensures.err)

pub returns-clause-ok : goal.returns-clause-ok
returns-clause-ok g c =
    let bands = c.args.bands.now in
    let some = c.len-count.ensures.sound.0 in
    let two : 2 ≤ length bands = grind (arith, some, c.len-count.ensures.value, c.if-count-eq1.false) in
    gave_all _ _ bands c.loop-i.i two (omega (arith, c.len-count.ensures.value, c.loop-i-test.false)) c.loop-i.invariant.held
