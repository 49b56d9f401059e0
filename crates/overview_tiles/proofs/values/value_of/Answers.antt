use Rattle.std.proofs.Common.{arith, w64, FitsSigned}
use Rattle.std.proofs.lemmas.Int.{ints}
use Rattle.overview_tiles.proofs.Steps.{range_small}
use Rattle.overview_tiles.proofs.values.value_of.Goals as goal

pub returns-clause-small : goal.returns-clause-small
returns-clause-small c =
    let h = range_small c.args.cells.now.kind c.value_as.result c.value_as.ensures.in_range in
    let fits : FitsSigned w64 c.value_as.result = omega (arith, ints, h.0, h.1) in
    (omega (arith, ints, fits, h.0, h.1), omega (arith, ints, fits, h.0, h.1))
