use Rattle.std.proofs.Common.{◌≡◌, ◌+◌, ◌≤◌, take, length, List, ℕ, sym, subst, arith, refl}
use Rattle.std.proofs.lemmas.List.{length-take-le}
use Rattle.raster_grids.specs.declared.reading.GridStop.{GridStop}
use Rattle.raster_grids.specs.ReadGrid.{IsHead, IsToldFault, magic_faults}
use Rattle.raster_grids.specs.inside.Heads.{front_faults}
use Rattle.raster_grids.proofs.Taken.{took_front, told, ended}
use Rattle.raster_grids.proofs.TakenBytes.{on_err_some}
use Rattle.raster_grids.proofs.BandsTaken.{front_told}
use Rattle.raster_grids.proofs.bands_grid.take_front.Goals as goal

pub returns-in_err-n-clause-some : goal.returns-in_err-n-clause-some
returns-in_err-n-clause-some g c = on_err_some c.from_residual.result _ _ _ c.in_err-n.ensures.err

pub returns-in-Ok-clause-ok : goal.returns-in-Ok-clause-ok
returns-in-Ok-clause-ok g c =
    let n = c.in_ok-n.n in
    let buf = c.take_all.new.buf in
    (take n buf, (subst (λ (m : List ℕ). IsHead m (take n buf) c.in-Ok.head) c.letters.ensures c.in-Ok.ensures, took_front _ _ n buf c.in_ok-n.ensures.bytes))

pub returns-in-Err-clause-err : goal.returns-in-Err-clause-err
returns-in-Err-clause-err g c =
    let n = c.in_ok-n.n in
    let buf = c.take_all.new.buf in
    let f = c.in-Err.fault in
    let more = c.are_more-more.result in
    let size : length buf ≡ 17 = c.take_all.auto.buf in
    let within : n ≤ length buf = c.in_ok-n.ensures.within in
    let long : length (take n buf) ≡ n = length-take-le n buf within in
    subst (λ (stop : GridStop). IsToldFault front_faults (g.S.Source.left c.args.src.now) c.args.at stop) (sym c.stop_at.ensures)
    (told front_faults _ _ c.args.at (record { reason = f.reason; place = c.args.at + f.place }) f.place (take n buf) (took_front _ _ n buf c.in_ok-n.ensures.bytes) refl
    (λ rest is. front_told (take n buf) rest more f.place f.reason (omega arith) (λ fewer. ended _ rest (c.in_ok-n.ensures.end (omega arith)) is) c.are_more-more.ensures.0 c.are_more-more.ensures.1
    (subst (λ (m : List ℕ). magic_faults m (take n buf) f.place f.reason) c.letters.ensures c.in-Err.ensures.0)))

pub returns-in-Err-clause-some : goal.returns-in-Err-clause-some
returns-in-Err-clause-some g c = (take c.in_ok-n.n c.take_all.new.buf, took_front _ _ c.in_ok-n.n c.take_all.new.buf c.in_ok-n.ensures.bytes)
