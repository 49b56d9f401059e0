use Rattle.level_cache.proofs.Naming.{one_base}
use Rattle.level_cache.proofs.laws.two_bases_have_two_names.Goals as goal

pub returns : goal.returns
returns c = one_base
