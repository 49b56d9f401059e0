use Rattle.std.proofs.Common.{◌≡◌, ◌+◌, true, false, refl, subst, sym, ◌∙◌}
use Rattle.std.specs.Prelude.{replicate}
use Rattle.std.proofs.lemmas.Result.{err_from_is_err_and}
use Rattle.ascii_grid.specs.declared.fault.AsciiStop.{AsciiStop}
use Rattle.ascii_grid.specs.declared.fault.AsciiReason.TheVariants.{BadText}
use Rattle.ascii_grid.specs.Lga.{text_field_faults}
use Rattle.ascii_grid.specs.inside.Fields.{Tells}
use Rattle.ascii_grid.proofs.FieldSteps.{bad_text, cut_sized, cut_text, field_sized}
use Rattle.ascii_grid.proofs.lga.fields.take_text.Goals as goal

pub returns-in_err-take_field-clause-err : goal.returns-in_err-take_field-clause-err
returns-in_err-take_field-clause-err g c =
    let p = err_from_is_err_and c.from_residual-in_err-take_field.result c.from_residual-in_err-take_field.ensures.1 in
    rw (p.1, p.2) (cut_text (g.S.Source.left c.args.src.now) (g.S.Source.left c.take_length.new.src) c.args.at (c.args.at + 1) c.in_ok-n.n c.in_err-take_field.field-0.0 c.in_ok-n.ensures.ok.1.1 c.in_ok-n.ensures.ok.0 refl
    (cut_sized c.in_ok-n.n (replicate 32 0) (g.S.Source.left c.take_length.new.src) (c.args.at + 1) c.in_err-take_field.field-0.0 refl c.in_ok-n.ensures.ok.0.1 c.in_err-take_field.ensures.err))

pub returns-then-not-are_text_bytes-clause-err : goal.returns-then-not-are_text_bytes-clause-err
returns-then-not-are_text_bytes-clause-err g c =
    subst (λ (e : AsciiStop). Tells text_field_faults (g.S.Source.left c.args.src.now) c.args.at e) (sym c.stop.ensures)
    (bad_text (g.S.Source.left c.args.src.now) (g.S.Source.left c.take_length.new.src) (g.S.Source.left c.take_field.new.src) c.args.at c.in_ok-n.n c.take_field.new.buffer (record { reason = BadText; place = c.args.at })
    c.in_ok-n.ensures.ok.1.1 c.in_ok-n.ensures.ok.0 (field_sized c.in_ok-n.n (replicate 32 0) (g.S.Source.left c.take_length.new.src) (g.S.Source.left c.take_field.new.src) c.take_field.new.buffer refl c.in_ok-n.ensures.ok.0.1 c.in_ok-take_field.ensures.ok)
    (λ all. let f : false ≡ true = sym c.if-not-are_text_bytes.true ∙ c.are_text_bytes.ensures.1 all in let no : ⊥ = cc in no) refl refl)
