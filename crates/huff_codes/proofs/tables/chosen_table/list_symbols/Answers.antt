use Rattle.std.proofs.Common.{◌∙◌, arith}
use Rattle.huff_codes.specs.Table.{symbol_in}
use Rattle.huff_codes.proofs.ChosenTables.{listed}
use Rattle.huff_codes.proofs.tables.chosen_table.list_symbols.Goals as goal

pub returns : goal.returns
returns c = listed (symbol_in c.args.run.first) c.loop-k.out c.args.run.count (c.loop-k.invariant.room ∙ c.requires.room)
    (λ j lt. c.loop-k.invariant.done j (omega (arith, lt, c.loop-k-test.false, c.loop-k.invariant.room, c.requires.room)))
