use Rattle.huff_codes.proofs.Counting.{codes_count_up}
use Rattle.huff_codes.proofs.laws.canonical_codes_count_up.Goals as goal

pub returns : goal.returns
returns c = codes_count_up
