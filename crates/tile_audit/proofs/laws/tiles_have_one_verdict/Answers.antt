use Rattle.tile_audit.proofs.OneVerdict.{one_judged}
use Rattle.tile_audit.proofs.SomeVerdict.{some_judged}
use Rattle.tile_audit.proofs.laws.tiles_have_one_verdict.Goals as goal

pub returns-clause-one : goal.returns-clause-one
returns-clause-one c = one_judged

pub returns-clause-some : goal.returns-clause-some
returns-clause-some c = some_judged
