use Rattle.std.proofs.Common.{sym, ◌∙◌}
use Rattle.lerc_cli.proofs.WordLemmas.Spelled.{encode_none, encode_some}
use Rattle.lerc_cli.proofs.words.encode_of.Goals as goal

pub returns-in_err-error : goal.returns-in_err-error
returns-in_err-error c =
    encode_none c.args.version.now c.args.error.now c.from_residual-in_err-error.result c.from_residual-in_err-error.ensures
    (λ version error is within. absurd (let none = sym c.in_err-error.was ∙ (c.error_of.ensures error).1 within in cc))

pub returns : goal.returns
returns c =
    encode_some c.args.version.now c.args.error.now c.in_ok-version.version c.in_ok-error.error
    ((c.version_of.ensures c.in_ok-version.version).0 c.in_ok-version.was) ((c.error_of.ensures c.in_ok-error.error).0 c.in_ok-error.was)
