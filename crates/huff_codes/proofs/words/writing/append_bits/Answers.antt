use Rattle.std.proofs.Common.{rules, ◌+◌, ◌<◌, ◌^◌, sym, subst}
use Rattle.huff_codes.proofs.Filling.{joined_value, joined_fits, pushed_low}
use Rattle.huff_codes.proofs.words.writing.append_bits.Goals as goal

pub overflow_add-result : goal.overflow_add-result
overflow_add-result c =
    let fits = joined_fits c.args.held c.args.count c.from.result c.args.code c.requires.code c.requires.low c.requires.few c.from.ensures in
    search rules

pub returns-clause-value : goal.returns-clause-value
returns-clause-value c = joined_value c.args.held c.args.count c.from.result c.args.code c.requires.code c.requires.low c.requires.few c.from.ensures

pub returns-clause-low : goal.returns-clause-low
returns-clause-low c =
    subst (λ x. x < 2 ^ (c.args.count + c.args.code.length)) (sym (joined_value c.args.held c.args.count c.from.result c.args.code c.requires.code c.requires.low c.requires.few c.from.ensures))
    (pushed_low c.args.held c.args.count c.args.code c.requires.code c.requires.low)
