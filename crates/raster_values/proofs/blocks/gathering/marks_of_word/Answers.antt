use Rattle.std.proofs.Common.{◌<◌, ◌^◌, ◌∙◌, ap, sym, get_or, false, arith}
use Rattle.std.specs.Int.RustNames.{count_ones}
use Rattle.raster_cells.proofs.MarkWords.{word_all, word_count}
use Rattle.raster_cells.proofs.MaskCounts.{all_count, ones_of}
use Rattle.raster_values.proofs.blocks.gathering.marks_of_word.Goals as goal

pub returns-then-word-eq0 : goal.returns-then-word-eq0
returns-then-word-eq0 c marks from are =
    let small : 0 < 2 ^ 0 = omega arith in
    sym (ones_of 0 0 small) ∙ ap count_ones (sym c.if-word-eq0.true) ∙ word_count marks from c.args.count c.args.word are

pub returns-then-word-count : goal.returns-then-word-count
returns-then-word-count c marks from are =
    sym (all_count (λ k. get_or marks k false) from c.args.count (word_all marks from c.args.count c.args.word c.requires.few c.if-word-count.true are))

pub returns : goal.returns
returns c marks from are = word_count marks from c.args.count c.args.word are
