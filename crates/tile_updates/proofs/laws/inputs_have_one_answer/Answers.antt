use Rattle.tile_updates.proofs.Refusals.{stops_once, updates_or_stop}
use Rattle.tile_updates.proofs.StreamsDecided.{streams_decided}
use Rattle.tile_updates.proofs.laws.inputs_have_one_answer.Goals as goal

pub returns-clause-decided : goal.returns-clause-decided
returns-clause-decided c = streams_decided

pub returns-clause-either : goal.returns-clause-either
returns-clause-either c = updates_or_stop

pub returns-clause-once : goal.returns-clause-once
returns-clause-once c = stops_once
