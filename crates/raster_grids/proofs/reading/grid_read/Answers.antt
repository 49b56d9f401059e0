use Rattle.std.proofs.Common.{◌+◌, ◌++◌, ℕ, List, arith}
use Rattle.std.specs.Prelude.{codes}
use Rattle.std.proofs.lemmas.Result.{err_from_is_err_and, IfOk-weaker, IfErr-weaker, on_err_weaker}
use Rattle.raster_grids.specs.BandsGrid.{IsBandGrid}
use Rattle.raster_grids.specs.ReadGrid.{IsHead, IsToldFault, TookGrid, behind_head, grid_faults, head_faults}
use Rattle.raster_grids.specs.Taken.{TookBytes}
use Rattle.raster_grids.proofs.TakenBytes.{took_join, took_more}
use Rattle.raster_grids.proofs.GridParts.{grid_with, told_own, told_later}
use Rattle.raster_grids.proofs.reading.grid_read.Goals as goal

pub returns-in_err-head-clause-fault : goal.returns-in_err-head-clause-fault
returns-in_err-head-clause-fault g c =
    let p = err_from_is_err_and c.from_residual.result c.from_residual.ensures.1 in
    rw (p.1, p.2) (told_own (IsHead (codes "LGR1")) (head_faults (codes "LGR1")) behind_head (g.S.Source.left c.args.src.now) c.args.at c.in_err-head.field-0.0 c.in_err-head.ensures.err)

pub returns-clause-ok : goal.returns-clause-ok
returns-clause-ok g c =
    let taken = c.in_ok-head.ensures.ok in
    let old = g.S.Source.left c.args.src.now in
    let mid = g.S.Source.left c.take_head.new.src in
    let new = g.S.Source.left c.read_band.new.src in
    IfOk-weaker c.read_band.result (λ r. (bytes : List ℕ) × (IsBandGrid c.in_ok-head.head bytes r × TookBytes mid new bytes)) (λ r. TookGrid old new r)
    (λ r band. (taken.0 ++ band.0, (grid_with taken.0 band.0 c.in_ok-head.head r taken.1.0 band.1.0, took_join old mid new taken.0 band.0 taken.1.1 band.1.1))) c.read_band.ensures.ok

pub returns-clause-fault : goal.returns-clause-fault
returns-clause-fault g c =
    let taken = c.in_ok-head.ensures.ok in
    let h = c.in_ok-head.head in
    let old = g.S.Source.left c.args.src.now in
    let mid = g.S.Source.left c.take_head.new.src in
    IfErr-weaker c.read_band.result (λ stop. IsToldFault (behind_head h) mid (c.args.at + 17) stop) (λ stop. IsToldFault grid_faults old c.args.at stop)
    (λ stop told. told_later (IsHead (codes "LGR1")) (head_faults (codes "LGR1")) behind_head old mid taken.0 h c.args.at (c.args.at + 17) stop taken.1.0 taken.1.1 (omega (arith, taken.1.0.size)) told) c.read_band.ensures.err

pub returns-clause-some : goal.returns-clause-some
returns-clause-some g c =
    let taken = c.in_ok-head.ensures.ok in
    on_err_weaker c.read_band.result (λ some. took_more _ _ _ taken.0 taken.1.1 some) c.read_band.ensures.some
