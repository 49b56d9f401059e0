use Rattle.huff_codes.specs.inside.Cutting.{AreCut}
use Rattle.huff_codes.proofs.tables.table.cut_codes.Given as goal

abbrev pub invariant-loop-k : goal.invariant-loop-k
invariant-loop-k l = AreCut l.first l.lengths l.words l.k l.bit l.codes
