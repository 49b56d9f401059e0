use Rattle.std.proofs.Common.{◌∙◌, ap, arith}
use Rattle.huff_codes.specs.Counts.{counts_of}
use Rattle.lerc_encode.proofs.SymbolSteps.{lying_are, lying_few}
use Rattle.lerc_encode.proofs.code_words.symbols.count_plain.Goals as goal

pub count_symbols-requires : goal.count_symbols-requires
count_symbols-requires g c = lying_few (g.V.View.pixels c.args.bytes.now.raster.now) c.is_lying.ensures.sound (c.is_lying.ensures.lies.0 c.if-is_lying.true) _ c.cells.ensures.size

pub returns-then-is_lying-clause-counts : goal.returns-then-is_lying-clause-counts
returns-then-is_lying-clause-counts g c =
    c.count_symbols.ensures.counts ∙ ap counts_of (c.cells.ensures.bytes ∙ lying_are (g.V.View.pixels c.args.bytes.now.raster.now) c.is_lying.ensures.sound (c.is_lying.ensures.lies.0 c.if-is_lying.true))

pub returns-then-is_lying-clause-few : goal.returns-then-is_lying-clause-few
returns-then-is_lying-clause-few g c =
    let few = lying_few (g.V.View.pixels c.args.bytes.now.raster.now) c.is_lying.ensures.sound (c.is_lying.ensures.lies.0 c.if-is_lying.true) _ c.cells.ensures.size in
    omega (arith, few, c.count_symbols.ensures.sum)
