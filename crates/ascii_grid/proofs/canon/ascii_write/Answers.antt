use Rattle.std.proofs.Common.{[], ◌++◌}
use Rattle.std.proofs.lemmas.Result.{on_ok_weaker, on_err_weaker}
use Rattle.ascii_grid.specs.Canon.{head_words, number_words}
use Rattle.ascii_grid.proofs.PageSteps.{breaks_first, breaks_later, on_err, page_broken, page_given, waits_join}
use Rattle.ascii_grid.proofs.canon.ascii_write.Goals as goal

pub returns-in_err-write_head-clause-err : goal.returns-in_err-write_head-clause-err
returns-in_err-write_head-clause-err g c =
    on_err c.from_residual.result (breaks_first (g.K.Sink.held c.args.sink.now) (g.K.Sink.held c.write_head.new.sink) [] (head_words c.args.grid.now) (number_words c.args.grid.now.geo.nodata c.args.grid.now.raster.cols 0 c.args.grid.now.raster.pixels) (rw c.new-page.ensures at c.in_err-write_head.ensures.adds.err))

pub returns-in_err-write_numbers-clause-err : goal.returns-in_err-write_numbers-clause-err
returns-in_err-write_numbers-clause-err g c =
    on_err c.from_residual-in_err-write_numbers.result (breaks_later (g.K.Sink.held c.args.sink.now) (g.K.Sink.held c.write_head.new.sink) (g.K.Sink.held c.write_numbers.new.sink) [] c.write_head.new.page (head_words c.args.grid.now) (number_words c.args.grid.now.geo.nodata c.args.grid.now.raster.cols 0 c.args.grid.now.raster.pixels) (rw c.new-page.ensures at c.in_ok-write_head.ensures.adds.ok) c.in_err-write_numbers.ensures.adds.err)

pub returns-clause-ok : goal.returns-clause-ok
returns-clause-ok g c =
    on_ok_weaker c.give.result (λ h. page_given (g.K.Sink.held c.args.sink.now) (g.K.Sink.held c.write_numbers.new.sink) (g.K.Sink.held c.give.new.sink) c.write_numbers.new.page (head_words c.args.grid.now ++ number_words c.args.grid.now.geo.nodata c.args.grid.now.raster.cols 0 c.args.grid.now.raster.pixels)
    (waits_join (g.K.Sink.held c.args.sink.now) (g.K.Sink.held c.write_head.new.sink) (g.K.Sink.held c.write_numbers.new.sink) [] c.write_head.new.page c.write_numbers.new.page (head_words c.args.grid.now) (number_words c.args.grid.now.geo.nodata c.args.grid.now.raster.cols 0 c.args.grid.now.raster.pixels) (rw c.new-page.ensures at c.in_ok-write_head.ensures.adds.ok) c.in_ok-write_numbers.ensures.adds.ok) h) c.give.ensures.gives.ok

pub returns-clause-err : goal.returns-clause-err
returns-clause-err g c =
    on_err_weaker c.give.result (λ h. page_broken (g.K.Sink.held c.args.sink.now) (g.K.Sink.held c.write_numbers.new.sink) (g.K.Sink.held c.give.new.sink) c.write_numbers.new.page (head_words c.args.grid.now ++ number_words c.args.grid.now.geo.nodata c.args.grid.now.raster.cols 0 c.args.grid.now.raster.pixels)
    (waits_join (g.K.Sink.held c.args.sink.now) (g.K.Sink.held c.write_head.new.sink) (g.K.Sink.held c.write_numbers.new.sink) [] c.write_head.new.page c.write_numbers.new.page (head_words c.args.grid.now) (number_words c.args.grid.now.geo.nodata c.args.grid.now.raster.cols 0 c.args.grid.now.raster.pixels) (rw c.new-page.ensures at c.in_ok-write_head.ensures.adds.ok) c.in_ok-write_numbers.ensures.adds.ok) h) c.give.ensures.gives.err
