use Rattle.std.proofs.Common.{◌≡◌, ◌+◌, length, refl, subst, sym, arith}
use Rattle.ascii_grid.specs.declared.fault.AsciiStop.{AsciiStop}
use Rattle.ascii_grid.specs.declared.fault.AsciiReason.TheVariants.{Truncated}
use Rattle.ascii_grid.specs.inside.Fields.{Tells, short_faults}
use Rattle.ascii_grid.proofs.FieldSteps.{field_cut}
use Rattle.ascii_grid.proofs.lga.fields.take_field.Goals as goal

pub returns-then-n-buffer-clause-err : goal.returns-then-n-buffer-clause-err
returns-then-n-buffer-clause-err g c =
    let n = c.in_ok-n.n in
    let size : length c.take_all.new.buf ≡ length c.args.buffer.now = c.take_all.auto.buf in
    subst (λ (e : AsciiStop). Tells (short_faults (length c.args.buffer.now)) (g.S.Source.left c.args.src.now) c.args.at e) (sym c.stop.ensures)
    (field_cut (g.S.Source.left c.args.src.now) (g.S.Source.left c.take_all.new.source) (length c.args.buffer.now) n c.args.at c.take_all.new.buf (record { reason = Truncated; place = c.args.at + n })
    c.in_ok-n.ensures.bytes c.in_ok-n.ensures.within (omega (arith, size, c.if-n-buffer.true)) (c.in_ok-n.ensures.end c.if-n-buffer.true) refl refl)
