use Rattle.lerc_grammar.proofs.BlobPlaces.{fault_within, bands_fault_within}
use Rattle.lerc_grammar.proofs.laws.faults_are_within.Goals as goal

pub returns-clause-blob : goal.returns-clause-blob
returns-clause-blob c = fault_within

pub returns-clause-bands : goal.returns-clause-bands
returns-clause-bands c = bands_fault_within
