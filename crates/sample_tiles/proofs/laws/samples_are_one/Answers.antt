use Rattle.sample_tiles.proofs.Once.{sums_once}
use Rattle.sample_tiles.proofs.laws.samples_are_one.Goals as goal

pub returns : goal.returns
returns c = sums_once
