use Rattle.overview_updates.proofs.OneAnswer.{overviews_once}
use Rattle.overview_updates.proofs.OneStop.{overview_or_stop, stops_once}
use Rattle.overview_updates.proofs.laws.overviews_have_one_answer.Goals as goal

pub returns-clause-updates : goal.returns-clause-updates
returns-clause-updates c = overviews_once

pub returns-clause-either : goal.returns-clause-either
returns-clause-either c = overview_or_stop

pub returns-clause-stops : goal.returns-clause-stops
returns-clause-stops c = stops_once
