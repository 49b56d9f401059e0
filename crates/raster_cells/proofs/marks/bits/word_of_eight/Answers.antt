use Rattle.std.proofs.Common.{◌-◌, ◌/◌, ◌^◌, ◌∙◌, ap, arith}
use Rattle.std.specs.Prelude.{bit_and}
use Rattle.raster_cells.specs.Words.{word_bit}
use Rattle.raster_cells.proofs.MarkWords.{cut_below, eight_bit}
use Rattle.raster_cells.proofs.marks.bits.word_of_eight.Goals as goal

pub returns-clause-below : goal.returns-clause-below
returns-clause-below c = cut_below c.read_u64.result (64 - c.args.from - c.args.count) c.args.count c.requires.few

pub returns-clause-bits : goal.returns-clause-bits
returns-clause-bits c q less =
    ap (λ n. word_bit c.args.count (bit_and (n / 2 ^ (64 - c.args.from - c.args.count)) (4294967295 / 2 ^ (32 - c.args.count))) q) c.read_u64.ensures
    ∙ eight_bit c.args.bytes.now c.args.from c.args.count q (λ i. omega (arith, c.type_inv.bytes i)) c.requires.first c.requires.few less
