use Rattle.std.proofs.Common.{sym, ◌∙◌}
use Rattle.level_cli.proofs.Spelled.{put_none, put_some}
use Rattle.level_cli.proofs.words.put_of.Goals as goal

pub returns-in_err-version : goal.returns-in_err-version
returns-in_err-version c =
    put_none c.args.version.now c.args.error.now c.args.row.now c.args.col.now c.from_residual.result c.from_residual.ensures
    (λ version error place is within at. absurd (let none = sym c.in_err-version.was ∙ (c.version_of.ensures version).1 is in cc))

pub returns-in_err-error : goal.returns-in_err-error
returns-in_err-error c =
    put_none c.args.version.now c.args.error.now c.args.row.now c.args.col.now c.from_residual-in_err-error.result c.from_residual-in_err-error.ensures
    (λ version error place is within at. absurd (let none = sym c.in_err-error.was ∙ (c.error_of.ensures error).1 within in cc))

pub returns-in_err-place : goal.returns-in_err-place
returns-in_err-place c =
    put_none c.args.version.now c.args.error.now c.args.row.now c.args.col.now c.from_residual-in_err-place.result c.from_residual-in_err-place.ensures
    (λ version error place is within at. absurd (let none = sym c.in_err-place.was ∙ (c.place_of.ensures place).1 at in cc))

pub returns : goal.returns
returns c =
    put_some c.args.version.now c.args.error.now c.args.row.now c.args.col.now c.in_ok-version.version c.in_ok-error.error c.in_ok-place.place
    ((c.version_of.ensures c.in_ok-version.version).0 c.in_ok-version.was) ((c.error_of.ensures c.in_ok-error.error).0 c.in_ok-error.was)
    ((c.place_of.ensures c.in_ok-place.place).0 c.in_ok-place.was)
