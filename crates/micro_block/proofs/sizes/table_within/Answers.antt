use Rattle.std.proofs.Common.{ap, ◌∙◌, arith}
use Rattle.lut_stuff.specs.Tables.{table_size}
use Rattle.micro_block.proofs.Above.{all_below}
use Rattle.micro_block.proofs.SizeSteps.{table_short}
use Rattle.micro_block.proofs.sizes.table_within.Goals as goal

pub table_len-requires-clause-values : goal.table_len-requires-clause-values
table_len-requires-clause-values c = all_below c.args.step c.args.least c.args.distances.now c.steps_each.new.out c.steps_each.ensures c.requires.listable.few

pub returns-clause-short : goal.returns-clause-short
returns-clause-short c =
    table_short c.steps_each.new.out c.table_len.result c.table_len.ensures.value (omega (arith, c.steps_each.auto.out, c.requires.lengths, c.requires.listable.count))
    (all_below c.args.step c.args.least c.args.distances.now c.steps_each.new.out c.steps_each.ensures c.requires.listable.few)

pub returns-clause-value : goal.returns-clause-value
returns-clause-value c = c.table_len.ensures.value ∙ ap table_size c.steps_each.ensures
