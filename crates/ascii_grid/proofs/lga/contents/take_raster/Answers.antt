use Rattle.std.proofs.Common.{◌+◌, ℕ, w64, ap}
use Rattle.std.proofs.lemmas.Int.{to_z-of_z}
use Rattle.std.proofs.lemmas.Result.{err_from_is_err_and}
use Rattle.ascii_grid.proofs.ContentSteps.{content_refused, end_refused, whole_grid}
use Rattle.ascii_grid.proofs.lga.contents.take_raster.Goals as goal

pub returns-in_err-take_end-clause-err : goal.returns-in_err-take_end-clause-err
returns-in_err-take_end-clause-err g c =
    let p = err_from_is_err_and c.from_residual.result c.from_residual.ensures.1 in
    rw (p.1, p.2) (end_refused c.args.nodata (g.S.Source.left c.args.src.now) (g.S.Source.left c.grid_read.new.src) c.args.at (c.args.at + c.grid_size.result) c.in-Ok.raster c.in_err-take_end.field-0.0 c.in-Ok.ensures.ok
    (λ grid stands. ap (λ (n : ℕ). c.args.at + n) (c.grid_size.ensures.size grid stands)) c.in_err-take_end.ensures.err)

pub returns-in-Some-clause-err : goal.returns-in-Some-clause-err
returns-in-Some-clause-err g c =
    content_refused c.args.nodata (g.S.Source.left c.args.src.now) (g.S.Source.left c.grid_read.new.src) c.args.at c.in-Ok.raster c.in-Some.fault c.in-Ok.ensures.ok c.in_ok-take_end.ensures.end.0
    (rw (to_z-of_z w64 c.args.nodata c.ranges.nodata) at c.in-Some.ensures.found)

pub returns-in-None-clause-all : goal.returns-in-None-clause-all
returns-in-None-clause-all g c = whole_grid (g.S.Source.left c.args.src.now) (g.S.Source.left c.grid_read.new.src) c.in-Ok.raster c.in-Ok.ensures.ok c.in_ok-take_end.ensures.end.0

pub returns-in-None-clause-lawful : goal.returns-in-None-clause-lawful
returns-in-None-clause-lawful g c = rw (to_z-of_z w64 c.args.nodata c.ranges.nodata) at c.in-None.ensures.none
