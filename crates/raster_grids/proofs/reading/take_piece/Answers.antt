use Rattle.std.proofs.Common.{◌≡◌, ◌+◌, ◌≤◌, ◌<◌, ℕ, take, length, ◌∙◌, sym, subst, arith, refl, ◌++◌}
use Rattle.std.proofs.lemmas.List.{length-take-le}
use Rattle.raster_grids.specs.declared.reading.GridReason.{GridReason}
use Rattle.raster_grids.specs.declared.reading.GridStop.{GridStop}
use Rattle.raster_grids.specs.ReadGrid.{mark_faults, IsToldFault}
use Rattle.raster_grids.proofs.Taken.{took_front, told, ended, piece_wrong, piece_cut, only_lawful}
use Rattle.raster_grids.proofs.TakenBytes.{on_err_some}
use Rattle.raster_grids.proofs.reading.take_piece.Goals as goal

pub returns-in_err-n-clause-some : goal.returns-in_err-n-clause-some
returns-in_err-n-clause-some g c = on_err_some c.from_residual.result _ _ _ c.in_err-n.ensures.err

pub returns-then-wrong-n-clause-err : goal.returns-then-wrong-n-clause-err
returns-then-wrong-n-clause-err g c =
    let n = c.in_ok-n.n in
    let buf = c.take_all.new.buf in
    let f = c.fault.result in
    let k = c.first_wrong-wrong.result in
    let want = length c.args.buffer.now in
    let size : length buf ≡ want = c.take_all.auto.buf in
    let within : n ≤ length buf = c.in_ok-n.ensures.within in
    let long : length (take n buf) ≡ n = length-take-le n buf within in
    let less : k < n = c.if-wrong-n.true in
    subst (λ (stop : GridStop). IsToldFault (mark_faults want) (g.S.Source.left c.args.src.now) c.args.at stop) (sym c.stop_at.ensures)
    (told (mark_faults want) _ _ c.args.at (record { reason = f.reason; place = c.args.at + f.place }) f.place (take n buf) (took_front _ _ n buf c.in_ok-n.ensures.bytes) refl
    (λ rest is.
    subst (λ (p : ℕ). mark_faults want (take n buf ++ rest) p f.reason) (sym c.fault.ensures.place)
    (subst (λ (r : GridReason). mark_faults want (take n buf ++ rest) k r) (sym c.fault.ensures.reason)
    (piece_wrong want k (take n buf) rest (omega arith) (omega arith) c.first_wrong-wrong.ensures.before (c.first_wrong-wrong.ensures.wrong (omega arith))))))

pub returns-then-wrong-n-clause-some : goal.returns-then-wrong-n-clause-some
returns-then-wrong-n-clause-some g c = (take c.in_ok-n.n c.take_all.new.buf, took_front _ _ c.in_ok-n.n c.take_all.new.buf c.in_ok-n.ensures.bytes)

pub returns-then-n-buffer-clause-err : goal.returns-then-n-buffer-clause-err
returns-then-n-buffer-clause-err g c =
    let n = c.in_ok-n.n in
    let buf = c.take_all.new.buf in
    let f = c.fault-then-n-buffer.result in
    let want = length c.args.buffer.now in
    let size : length buf ≡ want = c.take_all.auto.buf in
    let within : n ≤ length buf = c.in_ok-n.ensures.within in
    let long : length (take n buf) ≡ n = length-take-le n buf within in
    let less : n < length buf = c.if-n-buffer.true in
    let past : n ≤ c.first_wrong-wrong.result = c.if-wrong-n.false in
    subst (λ (stop : GridStop). IsToldFault (mark_faults want) (g.S.Source.left c.args.src.now) c.args.at stop) (sym c.stop_at-then-n-buffer.ensures)
    (told (mark_faults want) _ _ c.args.at (record { reason = f.reason; place = c.args.at + f.place }) f.place (take n buf) (took_front _ _ n buf c.in_ok-n.ensures.bytes) refl
    (λ rest is.
    subst (λ (p : ℕ). mark_faults want (take n buf ++ rest) p f.reason) (long ∙ sym c.fault-then-n-buffer.ensures.place)
    (subst (λ (r : GridReason). mark_faults want (take n buf ++ rest) (length (take n buf)) r) (sym c.fault-then-n-buffer.ensures.reason)
    (piece_cut want (take n buf) rest (omega arith) (only_lawful (take n buf) (λ j _ low. c.first_wrong-wrong.ensures.before j (omega arith))) (ended _ rest (c.in_ok-n.ensures.end less) is)))))

pub returns-then-n-buffer-clause-some : goal.returns-then-n-buffer-clause-some
returns-then-n-buffer-clause-some g c = (take c.in_ok-n.n c.take_all.new.buf, took_front _ _ c.in_ok-n.n c.take_all.new.buf c.in_ok-n.ensures.bytes)
