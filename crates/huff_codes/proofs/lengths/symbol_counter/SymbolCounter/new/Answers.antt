use Rattle.huff_codes.proofs.Tallies.{no_counts, no_sum, no_tables}
use Rattle.huff_codes.proofs.lengths.symbol_counter.SymbolCounter.new.Goals as goal

pub invariant_of-result : goal.invariant_of-result
invariant_of-result c = no_tables

pub returns-clause-counts : goal.returns-clause-counts
returns-clause-counts c = no_counts

pub returns-clause-sum : goal.returns-clause-sum
returns-clause-sum c = no_sum
