use Rattle.lerc_grammar.proofs.BandsOnce.{one_bands_verdict, one_bands}
use Rattle.lerc_grammar.proofs.laws.one_bands_verdict.Goals as goal

pub returns-clause-one : goal.returns-clause-one
returns-clause-one c = one_bands_verdict

pub returns-clause-bands : goal.returns-clause-bands
returns-clause-bands c = one_bands
