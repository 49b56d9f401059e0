use Rattle.std.proofs.Common.{ℕ, ◌∷◌, ap, ◌∙◌, arith}
use Rattle.lerc_encode.specs.Codings.{coding_bytes}
use Rattle.lerc_encode.specs.inside.Coded.{symbols_of}
use Rattle.lerc_encode.proofs.SymbolSteps.{behind_mode}
use Rattle.lerc_encode.proofs.code_words.codings.write_coded_form.Goals as goal

pub returns-in-Some : goal.returns-in-Some
returns-in-Some g c =
    let all = coding_bytes (symbols_of c.args.mode (g.V.View.pixels c.args.raster.now)) in
    behind_mode c.number_of.result c.args.out.now c.write_coding.new.out all (let room = c.requires.room in omega (arith, room)) c.write_coding.ensures
    ∙ ap (λ (n : ℕ). 0 ∷ n ∷ all) c.number_of.ensures
