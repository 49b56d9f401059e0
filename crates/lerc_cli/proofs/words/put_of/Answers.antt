use Rattle.std.proofs.Common.{sym, ◌∙◌}
use Rattle.lerc_cli.specs.declared.words.Command.TheVariants.{Put}
use Rattle.lerc_cli.proofs.WordLemmas.Spelled.{tiles_none, tiles_some}
use Rattle.lerc_cli.proofs.words.put_of.Goals as goal

pub returns-in_err-version : goal.returns-in_err-version
returns-in_err-version c =
    tiles_none Put c.args.version.now c.args.error.now c.args.workers.now c.from_residual.result c.from_residual.ensures
    (λ version error workers is within some. absurd (let none = sym c.in_err-version.was ∙ (c.version_of.ensures version).1 is in cc))

pub returns-in_err-error : goal.returns-in_err-error
returns-in_err-error c =
    tiles_none Put c.args.version.now c.args.error.now c.args.workers.now c.from_residual-in_err-error.result c.from_residual-in_err-error.ensures
    (λ version error workers is within some. absurd (let none = sym c.in_err-error.was ∙ (c.error_of.ensures error).1 within in cc))

pub returns-in_err-workers : goal.returns-in_err-workers
returns-in_err-workers c =
    tiles_none Put c.args.version.now c.args.error.now c.args.workers.now c.from_residual-in_err-workers.result c.from_residual-in_err-workers.ensures
    (λ version error workers is within some. absurd (let none = sym c.in_err-workers.was ∙ (c.workers_of.ensures workers).1 some in cc))

pub returns : goal.returns
returns c =
    tiles_some Put c.args.version.now c.args.error.now c.args.workers.now c.in_ok-version.version c.in_ok-error.error c.in_ok-workers.workers
    ((c.version_of.ensures c.in_ok-version.version).0 c.in_ok-version.was) ((c.error_of.ensures c.in_ok-error.error).0 c.in_ok-error.was)
    ((c.workers_of.ensures c.in_ok-workers.workers).0 c.in_ok-workers.was)
