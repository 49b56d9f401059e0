use Rattle.std.proofs.Common.{◌≡◌, ◌+◌, ◌<◌, ◌++◌, take, length, sym, ◌∙◌, subst, arith, refl}
use Rattle.std.proofs.lemmas.List.{length-take-le}
use Rattle.raster_grids.specs.declared.reading.GridReason.{GridReason}
use Rattle.raster_grids.specs.declared.reading.GridStop.{GridStop}
use Rattle.raster_grids.specs.ReadGrid.{IsToldFault}
use Rattle.raster_grids.specs.BandsGrid.{count_faults}
use Rattle.raster_grids.proofs.Taken.{took_front, told, ended}
use Rattle.raster_grids.proofs.TakenBytes.{on_err_some}
use Rattle.raster_grids.proofs.BandsTaken.{count_cut}
use Rattle.raster_grids.proofs.bands_grid.take_count.Goals as goal

pub returns-in_err-n-clause-some : goal.returns-in_err-n-clause-some
returns-in_err-n-clause-some g c = on_err_some c.from_residual.result _ _ _ c.in_err-n.ensures.err

pub returns-then-n-lt4-clause-err : goal.returns-then-n-lt4-clause-err
returns-then-n-lt4-clause-err g c =
    let n = c.in_ok-n.n in
    let buf = c.take_all.new.buf in
    let f = c.fault.result in
    let h = c.args.head in
    let size : length buf ≡ 4 = c.take_all.auto.buf in
    let long : length (take n buf) ≡ n = length-take-le n buf c.in_ok-n.ensures.within in
    let fewer : length (take n buf) < 4 = omega (arith, long, c.if-n-lt4.true) in
    let place : f.place ≡ length (take n buf) = c.fault.ensures.place ∙ sym long in
    subst (λ (stop : GridStop). IsToldFault (count_faults h) (g.S.Source.left c.args.src.now) c.args.at stop) (sym c.stop_at.ensures)
    (told (count_faults h) _ _ c.args.at (record { reason = f.reason; place = c.args.at + f.place }) f.place (take n buf) (took_front _ _ n buf c.in_ok-n.ensures.bytes) refl
    (λ rest is. subst (λ p. count_faults h (take n buf ++ rest) p f.reason) (sym place)
    (subst (λ (r : GridReason). count_faults h (take n buf ++ rest) (length (take n buf)) r) (sym c.fault.ensures.reason) (count_cut h (take n buf) rest fewer (ended _ rest (c.in_ok-n.ensures.end (omega (arith, size, c.if-n-lt4.true))) is)))))

pub returns-then-n-lt4-clause-some : goal.returns-then-n-lt4-clause-some
returns-then-n-lt4-clause-some g c = (take c.in_ok-n.n c.take_all.new.buf, took_front _ _ c.in_ok-n.n c.take_all.new.buf c.in_ok-n.ensures.bytes)

pub returns-then-count-lt2-clause-some : goal.returns-then-count-lt2-clause-some
returns-then-count-lt2-clause-some g c = (take c.in_ok-n.n c.take_all.new.buf, took_front _ _ c.in_ok-n.n c.take_all.new.buf c.in_ok-n.ensures.bytes)

pub returns-then-count-values-gt-GREATEST_VALUES-clause-some : goal.returns-then-count-values-gt-GREATEST_VALUES-clause-some
returns-then-count-values-gt-GREATEST_VALUES-clause-some g c = (take c.in_ok-n.n c.take_all.new.buf, took_front _ _ c.in_ok-n.n c.take_all.new.buf c.in_ok-n.ensures.bytes)
