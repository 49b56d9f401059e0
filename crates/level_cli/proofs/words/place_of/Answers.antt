use Rattle.std.proofs.Common.{sym, ◌∙◌}
use Rattle.level_cli.proofs.Spelled.{place_none, place_words}
use Rattle.level_cli.proofs.words.place_of.Goals as goal

pub returns-in_err-row : goal.returns-in_err-row
returns-in_err-row c =
    place_none c.args.row.now c.args.col.now c.from_residual.result c.from_residual.ensures
    (λ place words. absurd (let none = sym c.in_err-row.was ∙ (c.row_or_col_of.ensures _).1 words.0 in cc))

pub returns-in_err-col : goal.returns-in_err-col
returns-in_err-col c =
    place_none c.args.row.now c.args.col.now c.from_residual-in_err-col.result c.from_residual-in_err-col.ensures
    (λ place words. absurd (let none = sym c.in_err-col.was ∙ (c.row_or_col_of-2.ensures _).1 words.1 in cc))

pub returns : goal.returns
returns c =
    place_words c.args.row.now c.args.col.now c.in_ok-row.row c.in_ok-col.col c.of.result
    ((c.row_or_col_of.ensures c.in_ok-row.row).0 c.in_ok-row.was) ((c.row_or_col_of-2.ensures c.in_ok-col.col).0 c.in_ok-col.was)
    c.of.ensures.some c.of.ensures.none
