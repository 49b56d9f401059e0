use Rattle.bundle_tiles.proofs.RawStreams.{no_fault, one_fault, streams_once}
use Rattle.bundle_tiles.proofs.laws.raw_streams_have_one_list_of_tiles.Goals as goal

pub returns-clause-list : goal.returns-clause-list
returns-clause-list c = streams_once

pub returns-clause-fault : goal.returns-clause-fault
returns-clause-fault c = one_fault

pub returns-clause-no_fault : goal.returns-clause-no_fault
returns-clause-no_fault c = no_fault
