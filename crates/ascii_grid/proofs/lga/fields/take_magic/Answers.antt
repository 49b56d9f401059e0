use Rattle.std.proofs.Common.{◌≡◌, List, ℕ, true, false, refl, subst, sym, ◌∙◌}
use Rattle.std.specs.Prelude.{codes}
use Rattle.ascii_grid.specs.declared.fault.AsciiStop.{AsciiStop}
use Rattle.ascii_grid.specs.declared.fault.AsciiReason.TheVariants.{BadMagic}
use Rattle.ascii_grid.specs.Lga.{magic_faults}
use Rattle.ascii_grid.specs.inside.Fields.{Tells}
use Rattle.ascii_grid.proofs.FieldSteps.{bad_field}
use Rattle.ascii_grid.proofs.lga.fields.take_magic.Goals as goal

pub returns-then-not-is_magic-clause-err : goal.returns-then-not-is_magic-clause-err
returns-then-not-is_magic-clause-err g c =
    subst (λ (e : AsciiStop). Tells magic_faults (g.S.Source.left c.args.src.now) 0 e) (sym c.stop.ensures)
    (bad_field 4 (λ (field : List ℕ). field ≡ codes "LGA1") BadMagic (g.S.Source.left c.args.src.now) (g.S.Source.left c.take_field.new.src) 0 c.take_field.new.buffer (record { reason = BadMagic; place = 0 }) c.in_ok-take_field.ensures.ok
    (λ same. let f : false ≡ true = sym c.if-not-is_magic.true ∙ c.is_magic.ensures.1 same in let no : ⊥ = cc in no) refl refl)
