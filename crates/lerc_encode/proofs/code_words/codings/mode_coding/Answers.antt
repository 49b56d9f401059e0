use Rattle.lerc_encode.specs.inside.Coded.{symbols_of}
use Rattle.lerc_encode.proofs.SymbolSteps.{unwanted_symbols, wanted_symbols}
use Rattle.lerc_encode.proofs.code_words.codings.mode_coding.Goals as goal

pub returns-then-wanted : goal.returns-then-wanted
returns-then-wanted g c =
    let symbols = symbols_of c.args.mode (g.V.View.pixels c.args.raster.now) in
    wanted_symbols c.args.wanted symbols c.coding_of.result c.if-wanted.true (c.coding_of.ensures symbols c.count_mode.ensures.counts)

pub returns-else-wanted : goal.returns-else-wanted
returns-else-wanted g c = unwanted_symbols c.args.wanted (symbols_of c.args.mode (g.V.View.pixels c.args.raster.now)) c.if-wanted.false
