use Rattle.std.proofs.Common.{◌-◌, ◌∷◌, ◌∙◌, length, refl, arith}
use Rattle.std.specs.Prelude.{set}
use Rattle.std.proofs.lemmas.List.{length-set}
use Rattle.lut_stuff.proofs.Tabled.{cons_written}
use Rattle.micro_block.proofs.writing.write_raw.Goals as goal

pub returns : goal.returns
returns c =
    let old = c.args.out.now in
    let t = c.tag.result in
    cons_written t (set old 0 t) old c.write_values.new.out (length (set old 0 t) - 1) (omega (arith, c.requires.room)) refl (omega (arith, length-set old 0 t))
    ∙ (λ i. c.tag.ensures i ∷ c.write_values.ensures i)
