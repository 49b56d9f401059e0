use Rattle.std.proofs.Common.{subst}
use Rattle.std.specs.Prelude.{codes}
use Rattle.std.proofs.lemmas.Result.{on_ok_weaker, on_err_weaker}
use Rattle.outside_io.specs.streams.Sink.{Holds, HoldsPrefix}
use Rattle.outside_io.proofs.StreamLemmas.Gives.{Holds_join, HoldsPrefix_front, HoldsPrefix_join}
use Rattle.raster_grids.specs.Grid.{grid_of, head_of, band_of}
use Rattle.raster_cells.proofs.Pack.{on_err}
use Rattle.raster_grids.proofs.grid.grid_write.Goals as goal

pub returns-in_err-give_all-clause-err : goal.returns-in_err-give_all-clause-err
unfolding grid_of
returns-in_err-give_all-clause-err g c =
    let r = c.args.raster.now in
    on_err c.from_residual.result (HoldsPrefix_front _ _ (head_of (codes "LGR1") r.kind r.rows r.cols r.depth) (band_of r)
    (subst (HoldsPrefix (g.K.Sink.held c.args.sink.now) (g.K.Sink.held c.give_all.new.sink)) c.head.ensures c.in_err-give_all.ensures.err))

pub returns-clause-ok : goal.returns-clause-ok
unfolding grid_of
returns-clause-ok g c =
    let r = c.args.raster.now in
    on_ok_weaker c.give_band.result (λ h. Holds_join _ _ _ (head_of (codes "LGR1") r.kind r.rows r.cols r.depth) (band_of r)
    (subst (Holds (g.K.Sink.held c.args.sink.now) (g.K.Sink.held c.give_all.new.sink)) c.head.ensures c.in_ok-give_all.ensures.ok) h) c.give_band.ensures.ok

pub returns-clause-err : goal.returns-clause-err
unfolding grid_of
returns-clause-err g c =
    let r = c.args.raster.now in
    on_err_weaker c.give_band.result (λ h. HoldsPrefix_join _ _ _ (head_of (codes "LGR1") r.kind r.rows r.cols r.depth) (band_of r)
    (subst (Holds (g.K.Sink.held c.args.sink.now) (g.K.Sink.held c.give_all.new.sink)) c.head.ensures c.in_ok-give_all.ensures.ok) h) c.give_band.ensures.err
