use Rattle.std.proofs.Common.{sym, ◌∙◌}
use Rattle.overview_cli.proofs.Spelled.{overview_none, overview_some}
use Rattle.overview_cli.proofs.words.overview_of.Goals as goal

pub returns-in_err-quarter : goal.returns-in_err-quarter
returns-in_err-quarter c =
    overview_none c.args.quarter.now c.args.version.now c.args.error.now c.args.workers.now c.from_residual.result c.from_residual.ensures
    (λ d is. absurd (let none = sym c.in_err-quarter.was ∙ (c.quarter_of.ensures d.quarter).1 is.0 in cc))

pub returns-in_err-version : goal.returns-in_err-version
returns-in_err-version c =
    overview_none c.args.quarter.now c.args.version.now c.args.error.now c.args.workers.now c.from_residual-in_err-version.result c.from_residual-in_err-version.ensures
    (λ d is. absurd (let none = sym c.in_err-version.was ∙ (c.version_of.ensures d.version).1 is.1 in cc))

pub returns-in_err-error : goal.returns-in_err-error
returns-in_err-error c =
    overview_none c.args.quarter.now c.args.version.now c.args.error.now c.args.workers.now c.from_residual-in_err-error.result c.from_residual-in_err-error.ensures
    (λ d is. absurd (let none = sym c.in_err-error.was ∙ (c.error_of.ensures d.error).1 is.2 in cc))

pub returns-in_err-workers : goal.returns-in_err-workers
returns-in_err-workers c =
    overview_none c.args.quarter.now c.args.version.now c.args.error.now c.args.workers.now c.from_residual-in_err-workers.result c.from_residual-in_err-workers.ensures
    (λ d is. absurd (let none = sym c.in_err-workers.was ∙ (c.workers_of.ensures d.workers).1 is.3 in cc))

pub returns : goal.returns
returns c =
    overview_some c.args.quarter.now c.args.version.now c.args.error.now c.args.workers.now
    (record { quarter = c.in_ok-quarter.quarter; version = c.in_ok-version.version; error = c.in_ok-error.error; workers = c.in_ok-workers.workers }) (
      (c.quarter_of.ensures c.in_ok-quarter.quarter).0 c.in_ok-quarter.was,
      (c.version_of.ensures c.in_ok-version.version).0 c.in_ok-version.was,
      (c.error_of.ensures c.in_ok-error.error).0 c.in_ok-error.was,
      (c.workers_of.ensures c.in_ok-workers.workers).0 c.in_ok-workers.was,
    )
