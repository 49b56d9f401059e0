use Rattle.std.proofs.Common.{sym, ◌∙◌}
use Rattle.level_cli.proofs.Spelled.{get_none, get_some}
use Rattle.level_cli.proofs.words.get_of.Goals as goal

pub returns-in_err-place : goal.returns-in_err-place
returns-in_err-place c =
    get_none c.args.row.now c.args.col.now c.from_residual.result c.from_residual.ensures
    (λ place at. absurd (let none = sym c.in_err-place.was ∙ (c.place_of.ensures place).1 at in cc))

pub returns : goal.returns
returns c = get_some c.args.row.now c.args.col.now c.in_ok-place.place ((c.place_of.ensures c.in_ok-place.place).0 c.in_ok-place.was)
