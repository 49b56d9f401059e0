use Rattle.std.proofs.Common.{ℕ, ℤ, codes, ◌++◌, ap, ◌∙◌, rules, w64, SFits}
use Rattle.std.proofs.lemmas.Int.{to_z-of_z}
use Rattle.lerc_cli.specs.answers.Outline.{checksum_line, number_line, signed_line}
use Rattle.lerc_cli.proofs.AnswerLemmas.SixLines.{six_joined}
use Rattle.lerc_cli.proofs.telling.outline.of_values.Goals as goal

pub returns : goal.returns
returns c =
    let h = c.args.header in
    let low : SFits w64 h.least = search rules in
    let high : SFits w64 h.greatest = search rules in
    six_joined c.new-line.result c.add_number.new.line c.add_number-2.new.line c.add_number-3.new.line c.add_signed.new.line c.add_signed-2.new.line c.add_checksum.new.line
    (number_line (codes "side") h.side) (number_line (codes "size") h.size) (number_line (codes "step") h.step)
    (signed_line (codes "least") h.least) (signed_line (codes "greatest") h.greatest) (checksum_line h.checksum)
    c.new-line.ensures
    (c.add_number.ensures.text ∙ ap (λ (n : ℕ). c.new-line.result ++ number_line (codes "side") n) c.into.ensures)
    (c.add_number-2.ensures.text ∙ ap (λ (n : ℕ). c.add_number.new.line ++ number_line (codes "size") n) c.into-2.ensures)
    c.add_number-3.ensures.text
    (c.add_signed.ensures.text ∙ ap (λ (z : ℤ). c.add_number-3.new.line ++ signed_line (codes "least") z) (to_z-of_z w64 h.least low))
    (c.add_signed-2.ensures.text ∙ ap (λ (z : ℤ). c.add_signed.new.line ++ signed_line (codes "greatest") z) (to_z-of_z w64 h.greatest high))
    c.add_checksum.ensures.text
