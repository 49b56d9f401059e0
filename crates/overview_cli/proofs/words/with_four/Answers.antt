use Rattle.std.proofs.Common.{rules}
use Rattle.overview_cli.proofs.Spelled.{not_both, other_name, spelled_as}
use Rattle.overview_cli.proofs.words.with_four.Goals as goal

pub returns-then-has_text : goal.returns-then-has_text
returns-then-has_text c =
    spelled_as c.args.name.now c.args.quarter.now c.args.version.now c.args.error.now c.args.workers.now c.overview_of.result (c.if-has_text.ensures.0 (search rules)) c.overview_of.ensures

pub returns : goal.returns
returns c =
    other_name c.args.name.now c.args.quarter.now c.args.version.now c.args.error.now c.args.workers.now
    (λ named. not_both c.has_text.result c.if-has_text.false (c.has_text.ensures.1 named))
