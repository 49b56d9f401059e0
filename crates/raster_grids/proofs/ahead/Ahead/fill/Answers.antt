use Rattle.raster_grids.proofs.TakenBytes.{on_err_some}
use Rattle.raster_grids.proofs.ahead.Ahead.fill.Goals as goal

pub returns-in_err-n-clause-err : goal.returns-in_err-n-clause-err
returns-in_err-n-clause-err g c = on_err_some c.from_residual.result _ _ _ c.in_err-n.ensures.err
