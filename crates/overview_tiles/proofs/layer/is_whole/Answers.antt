use Rattle.std.proofs.Common.{◌≡◌, ◌+◌, sym, ◌∙◌, arith}
use Rattle.std.proofs.lemmas.Bool.{eqb-true}
use Rattle.overview_tiles.proofs.Steps.{marks_are, places_few}
use Rattle.overview_tiles.proofs.layer.is_whole.Goals as goal

pub overflow_add-place : goal.overflow_add-place
overflow_add-place c = omega (arith, c.requires.within, places_few c.args.raster.now.rows c.args.raster.now.cols c.args.raster.now.depth c.requires.raster.shape)

pub overflow_add-result : goal.overflow_add-result
overflow_add-result c = omega (arith, c.requires.within, places_few c.args.raster.now.rows c.args.raster.now.cols c.args.raster.now.depth c.requires.raster.shape)

pub returns-then-run-place : goal.returns-then-run-place
returns-then-run-place c told i less =
    let run = c.next_run-run.result in
    let k = c.args.place + i in
    let end : run.end ≡ c.args.place + c.args.count = eqb-true run.end (c.args.place + c.args.count) told in
    sym (marks_are c.args.raster.now.pixels k) ∙ c.next_run-run.ensures.runs.on k (omega (arith, c.if-run-place.true)) (omega (arith, less, end))
