use Rattle.huff_codes.proofs.Counting.{least_joined}
use Rattle.huff_codes.proofs.laws.joins_take_the_least.Goals as goal

pub returns : goal.returns
returns c = least_joined
