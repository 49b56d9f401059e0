use Rattle.tile_updates.proofs.Refusals.{updates_once}
use Rattle.tile_updates.proofs.laws.inputs_have_one_list_of_updates.Goals as goal

pub returns : goal.returns
returns c = updates_once
