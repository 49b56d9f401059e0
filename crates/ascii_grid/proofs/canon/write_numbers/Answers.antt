use Rattle.std.proofs.Common.{◌<◌, ◌∙◌, length, w64, sym, rules}
use Rattle.std.proofs.lemmas.Result.{IfOk-from_err}
use Rattle.std.proofs.lemmas.Int.{to_z-of_z}
use Rattle.ascii_grid.proofs.PageSteps.{numbers_break, numbers_step, on_err}
use Rattle.ascii_grid.proofs.canon.write_numbers.Goals as goal

pub returns-in_err-number : goal.returns-in_err-number
returns-in_err-number g c = record {
  adds = record {
    ok = IfOk-from_err c.from_residual.result _ c.from_residual.ensures.0;
    err =
        let less : c.loop-k.k < length c.args.grid.now.raster.pixels = rw (c.rows.ensures.value, c.cols-cols.ensures.value, sym c.cols-cols.ensures.sound.places) at c.loop-k-test.true in
        let same = to_z-of_z w64 c.number_at.result c.number_at.ensures.fits in
        on_err c.from_residual.result (numbers_break (g.K.Sink.held c.args.sink.now) (g.K.Sink.held c.loop-k.sink) (g.K.Sink.held c.number.new.sink) c.args.page.now c.loop-k.page c.args.grid.now.geo.nodata c.args.grid.now.raster.cols c.loop-k.k c.args.grid.now.raster.pixels less
        c.loop-k.invariant.waits (rw (same, c.number_at.ensures.value, c.end.ensures, c.cols-cols.ensures.value) at c.in_err-number.ensures.adds.err));
    counted = search rules;
  };
}

pub loop-k-preserved : goal.loop-k-preserved
loop-k-preserved g c =
    let less : c.loop-k.k < length c.args.grid.now.raster.pixels = rw (c.rows.ensures.value, c.cols-cols.ensures.value, sym c.cols-cols.ensures.sound.places) at c.loop-k-test.true in
    let same = to_z-of_z w64 c.number_at.result c.number_at.ensures.fits in
    record {
      waits = numbers_step (g.K.Sink.held c.args.sink.now) (g.K.Sink.held c.loop-k.sink) (g.K.Sink.held c.number.new.sink) c.args.page.now c.loop-k.page c.number.new.self c.args.grid.now.geo.nodata c.args.grid.now.raster.cols c.loop-k.k c.args.grid.now.raster.pixels less
          c.loop-k.invariant.waits (rw (same, c.number_at.ensures.value, c.end.ensures, c.cols-cols.ensures.value) at c.in_ok-number.ensures.adds.ok);
      faults = c.in_ok-number.ensures.adds.counted ∙ c.loop-k.invariant.faults;
    }
