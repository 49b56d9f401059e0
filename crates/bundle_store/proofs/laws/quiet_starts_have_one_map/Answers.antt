use Rattle.bundle_store.proofs.Starting.{one_start, was_sound}
use Rattle.bundle_store.proofs.laws.quiet_starts_have_one_map.Goals as goal

pub returns-clause-sound : goal.returns-clause-sound
returns-clause-sound c = λ d start quiet stands. was_sound d start quiet stands

pub returns-clause-one : goal.returns-clause-one
returns-clause-one c = λ d start map quiet stands could. one_start d start quiet stands map could
