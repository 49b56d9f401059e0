use Rattle.std.proofs.Common.{◌++◌, ℕ, List, length, drop, ap, ◌∙◌}
use Rattle.lut_stuff.specs.Tables.{table_bytes}
use Rattle.micro_block.proofs.Above.{all_below}
use Rattle.micro_block.proofs.writing.write_table_steps.Goals as goal

pub write_table_front-requires-clause-values : goal.write_table_front-requires-clause-values
write_table_front-requires-clause-values c = all_below c.args.step c.args.least c.args.distances.now c.steps_each.new.out c.steps_each.ensures c.requires.listable.few

pub returns-clause-count : goal.returns-clause-count
returns-clause-count c = c.write_table_front.ensures.count ∙ ap (λ (qs : List ℕ). length (table_bytes qs)) c.steps_each.ensures

pub returns-clause-bytes : goal.returns-clause-bytes
returns-clause-bytes c = c.write_table_front.ensures.bytes ∙ ap (λ (qs : List ℕ). table_bytes qs ++ drop c.write_table_front.result c.args.out.now) c.steps_each.ensures
