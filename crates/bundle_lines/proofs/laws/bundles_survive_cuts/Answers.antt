use Rattle.bundle_lines.proofs.Chains.{survives}
use Rattle.bundle_lines.proofs.laws.bundles_survive_cuts.Goals as goal

pub returns : goal.returns
returns c = survives
