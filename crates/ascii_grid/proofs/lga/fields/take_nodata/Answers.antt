use Rattle.std.proofs.Common.{◌≡◌, ◌≤◌, ◌<◌, ℕ, w64, FitsSigned, refl, subst, sym, ap, ◌∙◌}
use Rattle.std.specs.Prelude.{unsigned_abs}
use Rattle.std.proofs.lemmas.Int.{to_z-of_z}
use Rattle.ascii_grid.specs.declared.fault.AsciiStop.{AsciiStop}
use Rattle.ascii_grid.specs.declared.fault.AsciiReason.TheVariants.{BadNumber}
use Rattle.ascii_grid.specs.Lga.{nodata_faults}
use Rattle.ascii_grid.specs.inside.Fields.{Tells}
use Rattle.ascii_grid.proofs.FieldSteps.{nodata_bad, nodata_taken}
use Rattle.ascii_grid.proofs.lga.fields.take_nodata.Goals as goal

pub returns-then-unsigned_abs-ge10000000000-clause-err : goal.returns-then-unsigned_abs-ge10000000000-clause-err
returns-then-unsigned_abs-ge10000000000-clause-err g c =
    let z = c.cast_signed-nodata.result in
    let fits : FitsSigned w64 z = record { sfits = c.cast_signed-nodata.type_inv } in
    let size : c.unsigned_abs.result ≡ unsigned_abs z = c.unsigned_abs.ensures.value ∙ ap unsigned_abs (to_z-of_z w64 z fits) in
    subst (λ (e : AsciiStop). Tells nodata_faults (g.S.Source.left c.args.src.now) c.args.at e) (sym c.stop.ensures)
    (nodata_bad (g.S.Source.left c.args.src.now) (g.S.Source.left c.take_field.new.src) c.args.at c.take_field.new.buffer c.read_u64-number.result z (record { reason = BadNumber; place = c.args.at }) c.in_ok-take_field.ensures.ok c.read_u64-number.ensures
    c.read_u64-number.type_inv c.cast_signed-nodata.ensures (subst (λ (n : ℕ). 10000000000 ≤ n) size c.if-unsigned_abs-ge10000000000.true) refl refl)

pub returns-clause-ok : goal.returns-clause-ok
returns-clause-ok g c =
    let z = c.cast_signed-nodata.result in
    let fits : FitsSigned w64 z = record { sfits = c.cast_signed-nodata.type_inv } in
    let size : c.unsigned_abs.result ≡ unsigned_abs z = c.unsigned_abs.ensures.value ∙ ap unsigned_abs (to_z-of_z w64 z fits) in
    rw (to_z-of_z w64 z fits) (nodata_taken (g.S.Source.left c.args.src.now) (g.S.Source.left c.take_field.new.src) c.take_field.new.buffer c.read_u64-number.result z c.in_ok-take_field.ensures.ok c.read_u64-number.ensures
    c.read_u64-number.type_inv c.cast_signed-nodata.ensures (subst (λ (n : ℕ). n < 10000000000) size c.if-unsigned_abs-ge10000000000.false))
