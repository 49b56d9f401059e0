use Rattle.huff_codes.proofs.Counted.{counted_have_lengths}
use Rattle.huff_codes.proofs.laws.counted_symbols_have_lengths.Goals as goal

pub returns : goal.returns
returns c = counted_have_lengths
