use Rattle.std.proofs.Common.{sym, ◌∙◌}
use Rattle.lerc_cli.proofs.WordLemmas.Spelled.{sample_none, sample_some}
use Rattle.lerc_cli.proofs.words.sample_of.Goals as goal

pub returns-in_err-start : goal.returns-in_err-start
returns-in_err-start c =
    sample_none c.args.start.now c.args.count.now c.from_residual.result c.from_residual.ensures
    (λ start count is within. absurd (let none = sym c.in_err-start.was ∙ (c.number_up_to.ensures start).1 is in cc))

pub returns-in_err-count : goal.returns-in_err-count
returns-in_err-count c =
    sample_none c.args.start.now c.args.count.now c.from_residual-in_err-count.result c.from_residual-in_err-count.ensures
    (λ start count is within. absurd (let none = sym c.in_err-count.was ∙ (c.number_up_to-2.ensures count).1 within in cc))

pub returns : goal.returns
returns c =
    sample_some c.args.start.now c.args.count.now c.in_ok-start.start c.in_ok-count.count
    ((c.number_up_to.ensures c.in_ok-start.start).0 c.in_ok-start.was) ((c.number_up_to-2.ensures c.in_ok-count.count).0 c.in_ok-count.was)
