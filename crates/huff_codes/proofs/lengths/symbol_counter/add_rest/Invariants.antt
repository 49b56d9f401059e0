use Rattle.std.proofs.Common.{take}
use Rattle.huff_codes.specs.inside.Tallied.{AreAdded}
use Rattle.huff_codes.proofs.lengths.symbol_counter.add_rest.Given as goal

abbrev pub invariant-loop-symbol : goal.invariant-loop-symbol
invariant-loop-symbol l = AreAdded (take l.symbol-index l.symbols) l.fn.counts l.counts
